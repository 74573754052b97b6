-- `check_text::write_check` meets its contract. Assumes nothing.
use Rattle.text.specs.Text.{longest_refused_line}
use Rattle.text.proofs.Wrote.{wrote_none, wrote_whole}
use Rattle.check_text.proofs.write_check.Goals as goal

pub returns-then-text-lt-ROOM : goal.returns-then-text-lt-ROOM
returns-then-text-lt-ROOM c = let w = wrote_none longest_refused_line c.args.text.now _ c.if-text-lt-ROOM.true in record { wrote = w.0; prefix_length = w.1 }

pub returns : goal.returns
returns c = let w = wrote_whole longest_refused_line c.if-text-lt-ROOM.false c.write_text.ensures in record { wrote = w.0; prefix_length = w.1 }
