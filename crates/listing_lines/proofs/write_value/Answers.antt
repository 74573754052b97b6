-- `listing_lines::write_value` meets its contract. Assumes nothing.
use Rattle.text.specs.Text.{ascii}
use Rattle.listing_rules.proofs.Lines.{value-zero, value_entry}
use Rattle.text.proofs.Wrote.{wrote_as, wrote_copy, wrote_more}
use Rattle.listing_lines.proofs.write_value.Goals as goal

pub returns-then-output-eq2-clause-wrote : goal.returns-then-output-eq2-clause-wrote
returns-then-output-eq2-clause-wrote c =
    wrote_as (value-zero c.args.output c.if-output-eq2.true) (wrote_copy _ (ascii " = zero width 1\n") _ _ c.copy.ensures.count c.copy.ensures.copied)

pub returns-clause-wrote : goal.returns-clause-wrote
returns-clause-wrote c =
    wrote_as (value_entry c.args.output c.if-output-eq2.false) (wrote_more c.write_entry-at.ensures.wrote c.write_last.ensures.wrote)
