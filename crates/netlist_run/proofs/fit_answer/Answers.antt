-- `netlist_run::fit_answer` meets its contract. Assumes nothing.
use mathlib.Core.Path.{◌≡◌, sym, ap, ◌∙◌}
use native.Mathlib.Omega.{arith}
use native.Mathlib.Numerals.{add-one}
use lib.IntN.{pos}
use lib.ListN.{get_or}
use mir.Syntax.{w32, w64}
use mir.Val.{to_z, of_z}
use Rattle.integers.proofs.Held.{is, held, call_result}
use Rattle.netlist_rules.specs.Run.{fits}
use Rattle.netlist_run.proofs.BoardLaws.{sample-fits, sample-outside, no_sample_left}
use Rattle.netlist_run.proofs.fit_answer.Goals as goal

pub loop-i-preserved : goal.loop-i-preserved
loop-i-preserved c =
    let samples = c.args.samples.now in
    let i = c.loop-i.i in
    let e : to_z w64 (of_z w64 c.from.result) ≡ get_or samples i (pos 0) = call_result w64 c.from.type_inv (c.from.ensures ∙ is {w = w32} (held (record { sfits = c.from-arg-1.given }))) in
    rw (add-one i) (sym (sample-fits c.args.s samples i (omega arith) (ap (fits c.args.s) (sym e) ∙ sym c.if-not-sample_fits.ensures)) ∙ c.loop-i.invariant)

pub returns-then-not-sample_fits : goal.returns-then-not-sample_fits
returns-then-not-sample_fits c =
    let samples = c.args.samples.now in
    let i = c.loop-i.i in
    let e : to_z w64 (of_z w64 c.from.result) ≡ get_or samples i (pos 0) = call_result w64 c.from.type_inv (c.from.ensures ∙ is {w = w32} (held (record { sfits = c.from-arg-1.given }))) in
    rw c.at.ensures (sym (sample-outside c.args.s samples i (omega arith) (ap (fits c.args.s) (sym e) ∙ sym c.if-not-sample_fits.ensures)) ∙ c.loop-i.invariant)

pub returns : goal.returns
returns c = sym (no_sample_left c.args.s c.args.samples.now c.loop-i.i (omega arith)) ∙ c.loop-i.invariant
