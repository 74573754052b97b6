-- `run_text::write_outputs` meets its contract. The lines of the outputs before this one are written. Assumes nothing.
use Prim.Native.Nat.{◌*◌, ◌≤◌}
use mathlib.Core.Path.{◌≡◌}
use lib.ListN.{length, take}
use Rattle.text.specs.Wrote.{Wrote}
use Rattle.run_text.specs.RunText.{longest_line, value_lines}
use Rattle.run_text.proofs.write_outputs.Given as goal

abbrev pub invariant-loop-output : goal.invariant-loop-output
invariant-loop-output l =
    Wrote l.initial.text l.text l.at (value_lines (take l.output-index l.outputs)) × ((l.at ≤ longest_line * l.output-index) × (length l.text ≡ length l.initial.text))
