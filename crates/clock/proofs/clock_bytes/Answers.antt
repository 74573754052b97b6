-- `clock::clock_bytes` meets its contract. Assumes nothing.
use Rattle.std.proofs.lemmas.Result.{err_from_is_err_and}
use Rattle.refusals.specs.Numbers.{number}
use Rattle.clock_rules.proofs.AnswerLaws.{refused_keeps}
use Rattle.clock_delays.proofs.Entered.{opened_depths}
use Rattle.clock.proofs.clock_bytes.Goals as goal

pub returns-in_err-netlist : goal.returns-in_err-netlist
returns-in_err-netlist c =
    let p = err_from_is_err_and c.from_residual.result c.from_residual.ensures.1 in
    let r = c.in_err-netlist.field-0.0 in
    let kept = refused_keeps c.args.bytes.now c.args.samples.now c.args.store.now c.args.outputs.now (number r.refusal) r.place c.in_err-netlist.ensures.err in
    record { value = rw (p.1, p.2) kept.answer; store_after = kept.store_left; outputs_after = kept.outputs_left }

pub invariant_of-depths : goal.invariant_of-depths
invariant_of-depths c = record { depths_held = opened_depths c.in_ok-netlist.netlist c.args.bytes.now c.open_with.new.depths c.in_ok-netlist.ensures.ok c.in_ok-netlist.ensures.held.1 }
