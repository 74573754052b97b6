-- `run_text::write_run` meets its contract. Assumes nothing.
use Rattle.text.proofs.Wrote.{wrote_none, wrote_whole}
use Rattle.run_text.specs.RunText.{longest_run_text}
use Rattle.run_text.proofs.write_run.Goals as goal

pub returns-then-text-lt-ROOM : goal.returns-then-text-lt-ROOM
returns-then-text-lt-ROOM c = let w = wrote_none longest_run_text c.args.text.now _ c.if-text-lt-ROOM.true in record { wrote = w.0; prefix_length = w.1 }

pub returns : goal.returns
returns c = let w = wrote_whole longest_run_text c.if-text-lt-ROOM.false c.write_text.ensures in record { wrote = w.0; prefix_length = w.1 }
