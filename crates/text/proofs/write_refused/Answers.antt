-- `text::write_refused` meets its contract. Assumes nothing.
use Rattle.text.proofs.Wrote.{wrote_more}
use Rattle.text.proofs.write_refused.Goals as goal

pub returns-clause-wrote : goal.returns-clause-wrote
returns-clause-wrote c = wrote_more c.write_labelled-at.ensures.wrote c.write_between.ensures.wrote
