-- `Records::outputs` meets its contract: none before output i is refused. Assumes nothing.
use mathlib.Core.Path.{◌≡◌}
use Prim.Native.Nat.{ℕ, ◌<◌}
use Rattle.layout_rules.specs.Places.{first_operations}
use Rattle.netlist_rules.specs.Read.{output_refusal}
use Rattle.netlist_read.proofs.records.Records.outputs.Given as goal

abbrev pub invariant-loop-i : goal.invariant-loop-i
invariant-loop-i l =
    (j : ℕ) → j < l.i → output_refusal l.self.bytes.now l.self.head.width l.self.head.n (first_operations l.self.bytes.now l.self.head.operations) j ≡ 0
