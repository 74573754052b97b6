-- `clock_edge::work_out` meets its contract. The first k values are those of the first k operations. Assumes nothing.
use mathlib.Core.Path.{◌≡◌}
use Prim.Native.Nat.{ℕ, ◌+◌}
use mathlib.Core.List.{List}
use lib.IntN.{ℤ}
use lib.ListN.{length, take}
use Rattle.limits.specs.Limits.{max_operations}
use Rattle.layout_rules.specs.Places.{head_at, operation_at, first_records, netlist_in}
use Rattle.clock_rules.specs.Clocked.{clocked_value}
use Rattle.clock_edge.proofs.work_out.Given as goal

-- operation k's value
abbrev pub due : List ℕ → List ℤ → List ℤ → ℕ → ℤ
due netlist samples store k = clocked_value (netlist_in netlist) samples store ((head_at netlist).n + k) (operation_at netlist k)

abbrev pub invariant-loop-k : goal.invariant-loop-k
invariant-loop-k l = (length l.values ≡ max_operations) × (take l.k l.values ≡ first_records (due l.schedule.netlist.bytes.now l.samples l.store) l.k)
