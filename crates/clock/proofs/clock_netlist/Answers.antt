-- `clock::clock_netlist` meets its contract. Assumes nothing.
use mathlib.Core.Path.{◌∙◌}
use native.Mathlib.Omega.{arith}
use Rattle.std.proofs.lemmas.Result.{err_from_is_err_and}
use Rattle.refusals.proofs.NumberLaws.{number-positive}
use Rattle.refusals.specs.Numbers.{number}
use Rattle.clock.proofs.ListLaws.{list-refused, list-in-order, list-clocked}
use Rattle.clock.proofs.clock_netlist.Goals as goal

pub returns-in_err-test_list : goal.returns-in_err-test_list
returns-in_err-test_list c =
    let N = c.args.depths.now.netlist in
    let p = err_from_is_err_and c.from_residual.result c.from_residual.ensures.1 in
    let r = c.in_err-test_list.field-0.0 in
    let kept = list-refused N.bytes.now N.read N.head N.head_read c.fill_places-total.result c.fill_places-total.ensures.0 c.args.samples.now c.args.store.now c.args.outputs.now
    (number r.refusal) r.place c.in_err-test_list.ensures (λ z. omega (arith, number-positive r.refusal, z)) in
    record { value = rw (p.1, p.2) kept.answer; store_after = kept.store_left; outputs_after = kept.outputs_left }

pub clock_list-requires-clause-samples_len : goal.clock_list-requires-clause-samples_len
clock_list-requires-clause-samples_len c =
    let N = c.args.depths.now.netlist in
    let O = list-in-order N.bytes.now N.read N.head N.head_read c.fill_places-total.result c.fill_places-total.ensures.0 c.args.samples.now c.args.store.now c.args.outputs.now c.in_ok-test_list.ensures in
    (O.whole, O.lent)

pub clock_list-requires-clause-samples : goal.clock_list-requires-clause-samples
clock_list-requires-clause-samples c =
    let N = c.args.depths.now.netlist in
    let O = list-in-order N.bytes.now N.read N.head N.head_read c.fill_places-total.result c.fill_places-total.ensures.0 c.args.samples.now c.args.store.now c.args.outputs.now c.in_ok-test_list.ensures in
    (O.in_range, O.room)

pub returns : goal.returns
returns c =
    let N = c.args.depths.now.netlist in
    let left = list-clocked N.bytes.now N.read N.head N.head_read c.fill_places-total.result c.fill_places-total.ensures.0 c.args.samples.now c.args.store.now c.args.outputs.now c.in_ok-test_list.ensures in
    record { value = left.answer; store_after = c.clock_list.ensures.store_after ∙ left.store_left; outputs_after = c.clock_list.ensures.outputs_after ∙ left.outputs_left }
