-- `netlist_run::fill_outputs` meets its contract. What is left to write is the outputs from i on. Assumes nothing.
use mathlib.Core.Path.{◌≡◌}
use Prim.Native.Nat.{ℕ}
use mathlib.Core.List.{List, map}
use lib.IntN.{ℤ}
use lib.ListN.{length, drop}
use lib.Seq.{sets}
use Rattle.layout_rules.specs.Places.{outputs_in}
use Rattle.board_rules.specs.Machine.{output_value}
use Rattle.netlist_run.proofs.fill_outputs.Given as goal

abbrev pub results : List ℕ → List ℤ → List ℤ
results netlist values = map (output_value values) (outputs_in netlist)

abbrev pub invariant-loop-i : goal.invariant-loop-i
invariant-loop-i l =
    (length l.outputs ≡ length l.initial.outputs) × (sets l.outputs l.i (drop l.i (results l.netlist.bytes.now l.values)) ≡ sets l.initial.outputs 0 (results l.netlist.bytes.now l.values))
