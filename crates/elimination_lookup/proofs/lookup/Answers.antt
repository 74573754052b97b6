-- `elimination_lookup::lookup` meets its contract. Assumes nothing.
use mathlib.Core.Path.{sym, ◌∙◌}
use Rattle.elimination_lookup.proofs.Looking.{found_some, found_nowhere}
use Rattle.elimination_lookup.proofs.lookup.Goals as goal

pub returns-in_err-place : goal.returns-in_err-place
returns-in_err-place c =
    let a = c.args in
    rw c.from_residual.ensures (found_nowhere a.symbol a.exponent a.terms.now (sym c.place_of.ensures ∙ c.in_err-place.was))

pub returns : goal.returns
returns c =
    let a = c.args in
    rw c.negative-negative.ensures (found_some a.symbol a.exponent a.terms.now c.in_ok-place.place _ (sym c.place_of.ensures ∙ c.in_ok-place.was))
