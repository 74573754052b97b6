-- `listing_lines::write_counts` meets its contract. Assumes nothing.
use Rattle.listing_rules.proofs.Lines.{counts_parts}
use Rattle.text.proofs.Wrote.{wrote_as, wrote_more}
use Rattle.listing_lines.proofs.write_counts.Goals as goal

pub returns-clause-wrote : goal.returns-clause-wrote
returns-clause-wrote c =
    wrote_as (counts_parts c.args.counts)
    (wrote_more (wrote_more (wrote_more c.write_pair-inputs.ensures.wrote c.write_pair.ensures.wrote) c.write_pair-2.ensures.wrote) c.write_last.ensures.wrote)
