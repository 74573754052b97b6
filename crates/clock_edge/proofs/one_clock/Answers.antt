-- `clock_edge::one_clock` meets its contract: the parts of the edge make the edge. Assumes nothing.
use Prim.Native.Nat.{ℕ}
use mathlib.Core.Path.{ap, ◌∙◌}
use native.Mathlib.Omega.{arith}
use lib.ListN.{take}
use lib.Seq.{sets}
use Rattle.clock_edge.proofs.EdgeLaws.{operations-are, operations-few, delays_room, edge-is}
use Rattle.clock_edge.proofs.one_clock.Goals as goal

pub store_values-requires : goal.store_values-requires
store_values-requires c = let schedule = c.args.schedule.now in (
  c.work_out.ensures.0,
  (omega (arith, operations-few schedule), omega (arith, delays_room schedule c.args.samples.now c.args.store.now c.requires.store_ready, c.shift_delays.auto.store)),
)

pub returns-clause-store_after : goal.returns-clause-store_after
returns-clause-store_after c = let schedule = c.args.schedule.now in let operations = schedule.netlist.head.operations in (
  c.work_out.ensures.0,
  c.store_values.ensures
      ∙ ap (λ (k : ℕ). sets c.shift_delays.new.store 0 (take k c.work_out.new.values)) c.operations.ensures
      ∙ edge-is schedule.netlist.bytes.now c.args.samples.now c.args.store.now c.requires.store_ready schedule.longest.now schedule.longest_held operations (operations-are schedule)
      c.shift_delays.new.store (take operations c.work_out.new.values) c.shift_delays.ensures c.work_out.ensures.1,
)
