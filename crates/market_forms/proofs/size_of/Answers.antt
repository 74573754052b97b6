-- `market_forms::size_of` meets its contract. Assumes nothing.
use Prim.Native.Nat.{◌<◌}
use mathlib.Core.Bool.{and-false}
use mathlib.Core.Path.{sym, ap, ◌∙◌}
use native.Mathlib.Omega.{arith}
use borrow.Author.Tests.{lt-ltb}
use Rattle.std.specs.Prelude.{is_some}
use Rattle.market_forms.specs.Ends.{is_number}
use Rattle.market_forms.proofs.Places.{behind_blank, size_ends}
use Rattle.market_forms.proofs.size_of.Goals as goal

pub returns-then-rows-eq0-clause-form : goal.returns-then-rows-eq0-clause-form
returns-then-rows-eq0-clause-form c = sym (size_ends _ _ c.read_digits-rows.ensures.end_value ∙ rw c.if-rows-eq0.true)

pub returns-in_err-columns-clause-form : goal.returns-in_err-columns-clause-form
returns-in_err-columns-clause-form c =
    ap is_some c.from_residual.ensures
    ∙ sym (size_ends _ _ c.read_digits-rows.ensures.end_value ∙ rw (c.in_err-columns.ensures.cases, and-false))

pub returns-in_err-n-clause-form : goal.returns-in_err-n-clause-form
returns-in_err-n-clause-form c =
    ap is_some c.from_residual-in_err-n.ensures
    ∙ sym (size_ends _ _ c.read_digits-rows.ensures.end_value ∙ rw (ap is_number (sym c.in_ok-columns.ensures.cases.1) ∙ sym c.in_err-n.ensures.form, and-false, and-false))

pub returns-clause-form : goal.returns-clause-form
returns-clause-form c =
    let some : 0 < c.read_digits-rows.result.end = omega arith in
    let behind = c.in_ok-columns.ensures.cases in
    sym (size_ends _ _ c.read_digits-rows.ensures.end_value ∙ rw (lt-ltb 0 _ some, behind.0, ap is_number (sym behind.1) ∙ sym c.in_ok-n.ensures.form))

pub returns-clause-m_and_n : goal.returns-clause-m_and_n
returns-clause-m_and_n c =
    let columns = c.in_ok-columns.ensures.cases.1 ∙ behind_blank c.args.line.now _ c.read_digits-rows.ensures.end_value in
    (omega (arith, c.min.ensures, c.read_digits-rows.ensures.value_value), omega (arith, c.min-2.ensures, rw columns at c.in_ok-n.ensures.number))
