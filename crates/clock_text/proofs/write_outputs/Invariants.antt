-- `clock_text::write_outputs` meets its contract. What is written and the outputs left make the line. Assumes nothing.
use Prim.Native.Nat.{◌*◌, ◌-◌, ◌≤◌}
use mathlib.Core.Path.{◌≡◌}
use lib.ListN.{length}
use Rattle.run_text.specs.RunText.{longest_line}
use Rattle.text.proofs.Listed.{Listed}
use Rattle.clock_text.proofs.Lines.{output_text}
use Rattle.clock_text.proofs.write_outputs.Given as goal

abbrev pub invariant-loop-i : goal.invariant-loop-i
invariant-loop-i l =
    Listed (output_text l.outputs) 0 l.outputs l.initial.text l.text l.at l.i × ((l.i ≤ length l.outputs) × ((l.at ≤ longest_line * l.i) × (length l.text ≡ length l.initial.text)))

abbrev pub decreases-loop-i : goal.decreases-loop-i
decreases-loop-i l = length l.outputs - l.i
