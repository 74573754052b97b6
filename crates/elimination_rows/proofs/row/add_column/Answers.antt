-- `elimination_rows::row::add_column` meets its contract. Assumes nothing.
use mathlib.Core.Path.{◌≡◌, ap, sym, ◌∙◌}
use mathlib.Core.List.{List, [], ◌∷◌, ◌++◌}
use native.Mathlib.Omega.{arith}
use lib.IntN.{ℤ}
use Rattle.limits.specs.Limits.{positions}
use Rattle.integers.proofs.Held.{is, held}
use Rattle.digits.specs.Digits.{digits}
use Rattle.elimination_rules.specs.Rows.{column_terms}
use Rattle.elimination_rows.specs.State.{row_terms}
use Rattle.elimination_rows.proofs.Columns.{digits-long, digit_held, column_next, column-end, column_room}
use Rattle.elimination_rows.proofs.row.add_column.Goals as goal

pub add_digit-requires : goal.add_digit-requires
add_digit-requires c =
    let a = c.args in
    let ds = c.digits.result in
    let l = c.loop-position in
    let worked : ds ≡ digits positions a.z = c.digits.ensures ∙ ap (digits positions) (is (held c.ranges.z)) in (
      omega arith,
      omega arith,
      rw (digit_held a.z ds worked l.position) (column_room a.column a.z ds worked (row_terms a.row.now) (row_terms l.row) c.requires.1 l.position (omega (arith, digits-long a.z ds worked)) l.invariant),
    )

pub loop-position-preserved : goal.loop-position-preserved
loop-position-preserved c =
    let a = c.args in
    let ds = c.digits.result in
    let l = c.loop-position in
    let worked : ds ≡ digits positions a.z = c.digits.ensures ∙ ap (digits positions) (is (held c.ranges.z)) in
    let added = c.add_digit.ensures ∙ ap (λ (d : ℤ). row_terms l.row ++ column_terms a.column l.position (d ∷ [])) (digit_held a.z ds worked l.position) in
    rw added (sym (column_next a.column ds l.position (row_terms l.row) (omega (arith, digits-long a.z ds worked))) ∙ l.invariant)

pub returns : goal.returns
returns c =
    let a = c.args in
    let ds = c.digits.result in
    let l = c.loop-position in
    let worked : ds ≡ digits positions a.z = c.digits.ensures ∙ ap (digits positions) (is (held c.ranges.z)) in
    sym (column-end a.column ds l.position (row_terms l.row) (omega (arith, digits-long a.z ds worked)))
    ∙ l.invariant
    ∙ ap (λ (r : List ℤ). row_terms a.row.now ++ column_terms a.column 0 r) worked
