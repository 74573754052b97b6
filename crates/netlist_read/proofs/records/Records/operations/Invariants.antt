-- `Records::operations` meets its contract: none before operation k is refused, and the tables hold them. Assumes nothing.
use mathlib.Core.Path.{◌≡◌}
use Prim.Native.Nat.{ℕ, ◌<◌}
use Rattle.layout_rules.specs.Places.{first_operations}
use Rattle.netlist_rules.specs.Read.{operation_refusal}
use Rattle.netlist_read.specs.Tables.{FormsHeld, DepthsHeld}
use Rattle.netlist_read.proofs.records.Records.operations.Given as goal

abbrev pub invariant-loop-k : goal.invariant-loop-k
invariant-loop-k l =
    FormsHeld l.self.bytes.now l.self.head.width l.self.head.n l.k l.forms × (DepthsHeld l.self.bytes.now l.self.head.n l.k l.depths
    × ((j : ℕ) → j < l.k → operation_refusal l.self.bytes.now l.self.head.width l.self.head.n (first_operations l.self.bytes.now j) ≡ 0))
