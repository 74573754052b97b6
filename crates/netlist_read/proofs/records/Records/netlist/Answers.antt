-- `Records::netlist` meets its contract. Assumes nothing.
use mathlib.Core.Path.{refl, ap, ◌∙◌}
use native.Mathlib.Omega.{arith}
use Rattle.std.proofs.lemmas.Result.{err_from_is_err_and}
use Rattle.layout_rules.specs.Places.{totals_at}
use Rattle.refusals.proofs.NumberLaws.{number-positive}
use Rattle.netlist_read.proofs.HeldLaws.{forms_started_lem, depths_started}
use Rattle.netlist_read.proofs.NetlistLaws.{operations-refused, outputs-refused, totals-at, totals-refused, leftover-refused, netlist-held}
use Rattle.netlist_read.proofs.records.Records.netlist.Goals as goal

pub operations-requires-clause-forms_held : goal.operations-requires-clause-forms_held
operations-requires-clause-forms_held c =
    let s = c.args.self.now in
    rw c.start_forms.ensures (forms_started_lem s.bytes.now s.head.n s.head_limits.limits.columns-most s.head.width s.head_limits.width c.args.forms.now c.requires.0)

pub operations-requires-clause-depths_held : goal.operations-requires-clause-depths_held
operations-requires-clause-depths_held c = let s = c.args.self.now in depths_started s.bytes.now s.head.n s.head_limits.limits.columns-most c.args.depths.now c.requires.1

pub returns-in_err-operations-clause-err : goal.returns-in_err-operations-clause-err
returns-in_err-operations-clause-err c =
    let s = c.args.self.now in
    let p = err_from_is_err_and c.from_residual.result c.from_residual.ensures.1 in
    rw (p.1, p.2) (operations-refused s.bytes.now s.head_due s.head s.head_read c.in_err-operations.ensures.err)

pub returns-in_err-outputs-clause-err : goal.returns-in_err-outputs-clause-err
returns-in_err-outputs-clause-err c =
    let s = c.args.self.now in
    let p = err_from_is_err_and c.from_residual-in_err-outputs.result c.from_residual-in_err-outputs.ensures.1 in
    rw (p.1, p.2) (outputs-refused s.bytes.now s.head_due s.head s.head_read c.in_ok-operations.ensures.ok c.in_err-outputs.ensures.err)

pub returns-in-Err-clause-err : goal.returns-in-Err-clause-err
returns-in-Err-clause-err c =
    let s = c.args.self.now in
    rw c.at.ensures (totals-refused s.bytes.now s.head_due s.head s.head_read c.in_ok-operations.ensures.ok c.in_ok-outputs.ensures.ok s.start _ s.start_read c.output_place-place.ensures c.in-Err.ensures.refusal
    (λ z. omega (arith, number-positive c.in-Err.refusal, z)))

pub returns-then-self-end-clause-err : goal.returns-then-self-end-clause-err
returns-then-self-end-clause-err c =
    let s = c.args.self.now in
    rw c.at-then-self-end.ensures (leftover-refused s.bytes.now s.head_due s.head s.head_read c.in_ok-operations.ensures.ok c.in_ok-outputs.ensures.ok s.start _ s.start_read c.output_place-place.ensures c.in-Ok.ensures.refusal refl c.if-self-end.true)

pub returns-clause-held : goal.returns-clause-held
returns-clause-held c =
    let s = c.args.self.now in
    (netlist-held s.bytes.now s.head_due s.head s.head_read c.in_ok-operations.ensures.ok c.in_ok-outputs.ensures.ok s.start _ s.start_read c.output_place-place.ensures c.in-Ok.ensures.refusal c.in_ok-operations.ensures.forms_held c.if-self-end.false, c.in_ok-operations.ensures.depths_held)

pub invariant_of-result : goal.invariant_of-result
invariant_of-result c =
    let s = c.args.self.now in
    let held = netlist-held s.bytes.now s.head_due s.head s.head_read c.in_ok-operations.ensures.ok c.in_ok-outputs.ensures.ok s.start _ s.start_read c.output_place-place.ensures c.in-Ok.ensures.refusal c.in_ok-operations.ensures.forms_held c.if-self-end.false in
    record {
      read = held.read;
      head_read = s.head_read;
      totals_read = c.in-Ok.ensures.value ∙ ap (totals_at s.bytes.now) (totals-at s.bytes.now s.head_due s.head s.head_read c.in_ok-operations.ensures.ok c.in_ok-outputs.ensures.ok s.start _ s.start_read c.output_place-place.ensures);
      start_read = s.start_read;
    }
