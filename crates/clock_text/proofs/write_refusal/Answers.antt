-- `clock_text::write_refusal` meets its contract. Assumes nothing.
use Rattle.text.specs.Text.{longest_refused_line}
use Rattle.text.proofs.Wrote.{wrote_none, wrote_whole}
use Rattle.clock_text.proofs.write_refusal.Goals as goal

pub returns-then-text-lt-LONGEST_REFUSED_LINE : goal.returns-then-text-lt-LONGEST_REFUSED_LINE
returns-then-text-lt-LONGEST_REFUSED_LINE c = let w = wrote_none longest_refused_line c.args.text.now _ c.if-text-lt-LONGEST_REFUSED_LINE.true in record { wrote = w.0; prefix_length = w.1 }

pub returns : goal.returns
returns c = let w = wrote_whole longest_refused_line c.if-text-lt-LONGEST_REFUSED_LINE.false c.write_refused.ensures.wrote in record { wrote = w.0; prefix_length = w.1 }
