-- `elimination_rows::row::add_digit` meets its contract. Assumes nothing.
use mathlib.Core.Path.{◌≡◌, refl, ap, sym, ◌∙◌}
use mathlib.Core.List.{List, [], ◌∷◌, ◌++◌, append-nil}
use native.Mathlib.Omega.{arith}
use lib.ListN.{length, length-append}
use lib.IntN.{ℤ, pos}
use lib.Signed.{lt_z}
use mir.Syntax.{w8}
use mir.Val.{to_z, of_z}
use Rattle.std.proofs.Common.{rules}
use Rattle.term.specs.declared.Term.{Term}
use Rattle.integers.proofs.Held.{is, held, held_nat, when_eq, when_ne}
use Rattle.elimination_rules.specs.Rows.{column_terms}
use Rattle.elimination_rows.specs.State.{row_terms}
use Rattle.elimination_rows.proofs.Columns.{no_term_lem, one_term}
use Rattle.elimination_rows.proofs.row.add_digit.Goals as goal

pub push-requires : goal.push-requires
push-requires c =
    let a = c.args in
    let ne = when_ne (held c.ranges.digit) (held_nat w8 0 (search rules)) c.if-digit-ne0.true in
    let t = one_term a.column a.position a.digit (lt_z a.digit (pos 0)) ne refl in
    (omega arith, omega (arith, c.requires.2, length-append (row_terms a.row.now) (column_terms a.column a.position (a.digit ∷ [])), ap (length {A = Term}) t))

pub returns-then-digit-ne0 : goal.returns-then-digit-ne0
returns-then-digit-ne0 c =
    let a = c.args in
    let ne : a.digit ≡ pos 0 → ⊥ = when_ne (held c.ranges.digit) (held_nat w8 0 (search rules)) c.if-digit-ne0.true in
    c.push.ensures ∙ ap (λ (t : Term). row_terms a.row.now ++ (t ∷ [])) c.new.ensures
    ∙ ap (λ (l : List Term). row_terms a.row.now ++ l)
    (sym (one_term a.column a.position a.digit (lt_z (to_z w8 (of_z w8 a.digit)) (pos 0)) ne (ap (λ (x : ℤ). lt_z x (pos 0)) (is (held c.ranges.digit)))))

pub returns-else-digit-ne0 : goal.returns-else-digit-ne0
returns-else-digit-ne0 c =
    let a = c.args in
    let e : a.digit ≡ pos 0 = when_eq (held c.ranges.digit) (held_nat w8 0 (search rules)) c.if-digit-ne0.false in
    sym (ap (λ (l : List Term). row_terms a.row.now ++ l) (no_term_lem a.column a.position a.digit e) ∙ append-nil (row_terms a.row.now))
