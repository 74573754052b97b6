-- `market_forms::number_of` meets its contract. Assumes nothing.
use Prim.Native.Nat.{◌<◌}
use mathlib.Core.Bool.{and-false}
use mathlib.Core.Path.{sym, ◌∙◌}
use native.Mathlib.Omega.{arith}
use borrow.Author.Tests.{lt-ltb, not-true, not-false}
use Rattle.market_forms.proofs.Places.{number_ends}
use Rattle.market_forms.proofs.number_of.Goals as goal
use Rattle.market_forms.proofs.number_of.Goals.{then-digits-eq0-via-then-digits-eq0, then-digits-eq0-via-else-digits-eq0+then-ne}

pub returns-then-digits-eq0-clause-form : goal.returns-then-digits-eq0-clause-form
returns-then-digits-eq0-clause-form c =
    let whole = number_ends c.args.line.now _ c.read_digits-digits.ensures.end_value in
    elim c.then-digits-eq0.branch [
      | then-digits-eq0-via-then-digits-eq0 w ↦ sym (whole ∙ rw w.if-digits-eq0.true)
      | then-digits-eq0-via-else-digits-eq0+then-ne w ↦ sym (whole ∙ rw (not-true _ (sym w.if-ne.ensures), and-false))
    ]

pub returns-clause-form : goal.returns-clause-form
returns-clause-form c =
    let some : 0 < c.read_digits-digits.result.end = omega arith in
    sym (number_ends c.args.line.now _ c.read_digits-digits.ensures.end_value ∙ rw (lt-ltb 0 _ some, not-false _ (sym c.if-ne.ensures)))
