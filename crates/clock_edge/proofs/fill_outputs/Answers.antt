-- `clock_edge::fill_outputs` meets its contract. Assumes nothing.
use mathlib.Core.Path.{◌≡◌, refl, ◌∙◌, subst}
use Prim.Native.Nat.{ℕ}
use native.Mathlib.Omega.{arith}
use native.Mathlib.Numerals.{add-one}
use lib.ListN.{take, length-set}
use mir.Syntax.{w64}
use mir.Val.{to_z, of_z}
use Rattle.integers.proofs.Held.{call_result}
use Rattle.layout_rules.specs.Places.{head_at, first_records}
use Rattle.clock_edge.proofs.EdgeLaws.{none_written, written_next, outputs-written, rows-are, rows-few, output_within, output_small, made}
use Rattle.clock_edge.proofs.fill_outputs.Goals as goal
use Rattle.clock_edge.proofs.fill_outputs.Invariants.{due}

pub loop-i-init : goal.loop-i-init
loop-i-init c = (refl, none_written (due c.args.schedule.now.netlist.bytes.now c.args.samples.now c.args.store.now) c.args.outputs.now)

pub bounds-schedule-i : goal.bounds-schedule-i
bounds-schedule-i c = omega (arith, rows-few c.args.schedule.now)

pub value_at-x-requires : goal.value_at-x-requires
value_at-x-requires c = output_within c.args.schedule.now c.args.samples.now c.args.store.now c.requires.0 c.loop-i.i (omega arith)

pub output_value-requires : goal.output_value-requires
output_value-requires c =
    output_small c.args.schedule.now c.args.samples.now c.args.store.now c.requires.0 c.loop-i.i (omega arith) c.output-o.result c.output-o.ensures
    (to_z w64 (of_z w64 c.value_at-x.result)) (call_result w64 c.value_at-x.type_inv c.value_at-x.ensures)

pub loop-i-preserved : goal.loop-i-preserved
loop-i-preserved c = let l = c.loop-i in let v = to_z w64 (of_z w64 c.output_value.result) in
    let due = due c.args.schedule.now.netlist.bytes.now c.args.samples.now c.args.store.now in
    let e : v ≡ due l.i =
    made c.args.schedule.now c.args.samples.now c.args.store.now c.requires.0 l.i (omega arith) c.output-o.result c.output-o.ensures
    (to_z w64 (of_z w64 c.value_at-x.result)) (call_result w64 c.value_at-x.type_inv c.value_at-x.ensures)
    v (call_result w64 c.output_value.type_inv c.output_value.ensures) in
    rw add-one (
      length-set l.outputs l.i v ∙ l.invariant.0,
      written_next due l.outputs l.i v (omega (arith, l.invariant.0)) e l.invariant.1,
    )

pub returns : goal.returns
returns c = let l = c.loop-i in let schedule = c.args.schedule.now in let b = schedule.netlist.bytes.now in
    let e : l.i ≡ (head_at b).m = omega (arith, rows-are schedule) in
    outputs-written b c.args.samples.now c.args.store.now l.outputs (omega (arith, l.invariant.0, rows-are schedule))
    (subst (λ (j : ℕ). take j l.outputs ≡ first_records (due b c.args.samples.now c.args.store.now) j) e l.invariant.1)
