-- `text::write_last` meets its contract. Assumes nothing.
use Rattle.text.specs.Text.{ascii}
use Rattle.text.proofs.Wrote.{wrote_copy, wrote_more}
use Rattle.text.proofs.write_last.Goals as goal

pub returns-clause-wrote : goal.returns-clause-wrote
returns-clause-wrote c = wrote_more c.write_labelled-at.ensures.wrote (wrote_copy _ (ascii "\n") _ _ c.copy.ensures.count c.copy.ensures.copied)
