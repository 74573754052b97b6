-- `clock_edge::fill_outputs` meets its contract. The first i outputs are those of this clock. Assumes nothing.
use mathlib.Core.Path.{◌≡◌}
use Prim.Native.Nat.{ℕ}
use mathlib.Core.List.{List}
use lib.IntN.{ℤ}
use lib.ListN.{length, take}
use Rattle.layout_rules.specs.Places.{head_at, output_at, first_records, netlist_in}
use Rattle.clock_rules.specs.Clocked.{present_output}
use Rattle.clock_edge.proofs.fill_outputs.Given as goal

-- output i
abbrev pub due : List ℕ → List ℤ → List ℤ → ℕ → ℤ
due netlist samples store i = present_output (netlist_in netlist) samples store (output_at netlist (head_at netlist).operations i)

abbrev pub invariant-loop-i : goal.invariant-loop-i
invariant-loop-i l = (length l.outputs ≡ length l.initial.outputs) × (take l.i l.outputs ≡ first_records (due l.schedule.netlist.bytes.now l.samples l.store) l.i)
