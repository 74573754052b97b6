-- `listing_lines::write_operation` meets its contract. Assumes nothing.
use Rattle.listing_rules.proofs.Lines.{operation_parts}
use Rattle.text.proofs.Wrote.{wrote_as, wrote_more}
use Rattle.listing_lines.proofs.write_operation.Goals as goal

pub returns-clause-wrote : goal.returns-clause-wrote
returns-clause-wrote c =
    wrote_as (operation_parts c.args.symbol c.args.operation)
    (wrote_more (wrote_more (wrote_more c.write_labelled-first.ensures.wrote c.write_pair.ensures.wrote) c.write_second.ensures.wrote) c.write_last.ensures.wrote)
