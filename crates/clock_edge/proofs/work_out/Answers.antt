-- `clock_edge::work_out` meets its contract. Assumes nothing.
use mathlib.Core.Path.{◌≡◌, ap, sym, ◌∙◌}
use Prim.Native.Nat.{ℕ}
use native.Mathlib.Omega.{arith}
use native.Mathlib.Numerals.{add-one}
use lib.ListN.{take, length-set}
use mir.Syntax.{w64}
use mir.Val.{to_z, of_z}
use Rattle.integers.proofs.Held.{call_result}
use Rattle.layout_rules.specs.Places.{first_records}
use Rattle.clock_rules.proofs.InBytes.{operations-after-first}
use Rattle.clock_edge.proofs.EdgeLaws.{none_written, written_next, operations-are, operations-few, first_within, second_within, operands_small, worked-out}
use Rattle.clock_edge.proofs.work_out.Goals as goal
use Rattle.clock_edge.proofs.work_out.Invariants.{due}

pub loop-k-init : goal.loop-k-init
loop-k-init c = (c.requires.1, none_written (due c.args.schedule.now.netlist.bytes.now c.args.samples.now c.args.store.now) c.args.values.now)

pub offset_bounds-schedule-k : goal.offset_bounds-schedule-k
offset_bounds-schedule-k c = omega (arith, operations-few c.args.schedule.now)

pub bounds-schedule-k : goal.bounds-schedule-k
bounds-schedule-k c = omega (arith, operations-few c.args.schedule.now)

pub value_at-x-requires : goal.value_at-x-requires
value_at-x-requires c = first_within c.args.schedule.now c.args.samples.now c.args.store.now c.requires.0 c.loop-k.k (omega arith)

pub value_at-y-requires : goal.value_at-y-requires
value_at-y-requires c = second_within c.args.schedule.now c.args.samples.now c.args.store.now c.requires.0 c.loop-k.k (omega arith)

pub combined-requires : goal.combined-requires
combined-requires c =
    operands_small c.args.schedule.now c.args.samples.now c.args.store.now c.requires.0 c.loop-k.k (omega arith) c.operation-o.result c.operation-o.ensures
    (to_z w64 (of_z w64 c.value_at-x.result)) (to_z w64 (of_z w64 c.value_at-y.result))
    (call_result w64 c.value_at-x.type_inv c.value_at-x.ensures) (call_result w64 c.value_at-y.type_inv c.value_at-y.ensures)

pub offset_bounds-values-k : goal.offset_bounds-values-k
offset_bounds-values-k c = omega (arith, operations-few c.args.schedule.now)

pub bounds-values-k : goal.bounds-values-k
bounds-values-k c = omega (arith, operations-few c.args.schedule.now)

pub loop-k-preserved : goal.loop-k-preserved
loop-k-preserved c = let l = c.loop-k in let v = to_z w64 (of_z w64 c.combined.result) in
    let due = due c.args.schedule.now.netlist.bytes.now c.args.samples.now c.args.store.now in
    let e : v ≡ due l.k =
    worked-out c.args.schedule.now c.args.samples.now c.args.store.now c.requires.0 l.k (omega arith) c.operation-o.result c.operation-o.ensures
    (to_z w64 (of_z w64 c.value_at-x.result)) (to_z w64 (of_z w64 c.value_at-y.result))
    (call_result w64 c.value_at-x.type_inv c.value_at-x.ensures) (call_result w64 c.value_at-y.type_inv c.value_at-y.ensures)
    v (call_result w64 c.combined.type_inv c.combined.ensures) in
    rw add-one (
      length-set l.values l.k v ∙ l.invariant.0,
      written_next due l.values l.k v (omega (arith, operations-few c.args.schedule.now, l.invariant.0)) e l.invariant.1,
    )

pub returns : goal.returns
returns c = let l = c.loop-k in let schedule = c.args.schedule.now in let b = schedule.netlist.bytes.now in
    let due = due b c.args.samples.now c.args.store.now in
    let e : l.k ≡ schedule.netlist.head.operations = omega arith in (
      l.invariant.0,
      ap (λ (j : ℕ). take j l.values) (sym e)
          ∙ l.invariant.1
          ∙ ap (first_records due) (e ∙ operations-are schedule)
          ∙ sym (operations-after-first b c.args.samples.now c.args.store.now),
    )
