-- Document 01, "Row sums": an output is minus exactly if its row has terms and all of them are negative.
-- Assumes nothing.
use Prim.Native.Nat.{ℕ, zero, suc, ◌≤◌}
use mathlib.Core.Path.{◌≡◌, refl, sym, ap, ◌∙◌}
use mathlib.Core.Logic.{◌↔◌}
use mathlib.Core.Bool.{Bool, true, false, ◌&&◌}
use mathlib.Core.List.{List, [], ◌∷◌, Permᴰ}
use native.Mathlib.Omega.{arith}
use lib.ListN.{length, get_or}
use Rattle.term.specs.declared.Term.{Term}
use Rattle.board_rules.specs.Machine.{depths}
use Rattle.elimination_rules.specs.Rows.{Row}
use Rattle.elimination_rules.proofs.Tests.{and_left, and_right, and_both}
use Rattle.sum_rules.specs.Joins.{sign_field, zero_output}
use Rattle.sum_rules.specs.Shallowest.{order_of_operands, first_operand, join_of, depths_with, row_in_order, joins_of, sum_of, sum_outputs}
use Rattle.sum_rules.specs.SumDepth.{EachTerm}
use Rattle.sum_rules.specs.Signs.{AllNegative}
use Rattle.sum_rules.proofs.Sums.{length_permuted, each_permuted}
use Rattle.sum_rules.proofs.TermOrder.{in_order_permuted}
use Rattle.sum_rules.proofs.RowSums.{after_join}

abbrev Negative : Term → Type 0
Negative t = t.negative ≡ true

-- the first operand is negative only where both terms are
first-operand : (t u : Term) (a b : Bool) → t.negative ≡ a → u.negative ≡ b → (first_operand order_of_operands t u).negative ≡ a && b
first-operand t u true true e f = rw (e, f, first_operand) e
first-operand t u true false e f = rw (e, f, first_operand) f
first-operand t u false b e f = rw (e, first_operand) e

first_negative : (t u : Term) → (first_operand order_of_operands t u).negative ≡ t.negative && u.negative
first_negative t u = first-operand t u t.negative u.negative refl refl

minus_field : (b : Bool) → sign_field b ≡ 1 → b ≡ true
unfolding sign_field
minus_field true e = refl
minus_field false e = absurd (omega arith)

joins_minus : (most : ℕ) (ds : List ℕ) (r : Row) → length r ≤ most → 1 ≤ length r
    → ((joins_of order_of_operands most ds r).output.sign ≡ 1) ↔ EachTerm Negative r
unfolding joins_of sign_field
joins_minus zero ds r l some = absurd (omega arith)
joins_minus (suc most) ds [] l some = absurd (omega arith)
joins_minus (suc most) ds (t ∷ []) l some = ((λ e. (minus_field t.negative e, tt)), (λ h. ap sign_field h.0))
joins_minus (suc most) ds (t ∷ u ∷ r) l some =
    let after : List ℕ = depths_with ds (join_of order_of_operands t u) in
    let left : Row = after_join order_of_operands ds t u r in
    let p : Permᴰ left (row_in_order after left) = in_order_permuted after left in
    let rest = joins_minus most after (row_in_order after left) (omega (arith, length_permuted p)) (omega (arith, length_permuted p)) in (
      (λ e. let h = each_permuted Negative (mathlib.Core.List.Permᴰ.symm p) (rest.0 e) in
          let both = sym (first_negative t u) ∙ h.0 in
          (and_left t.negative u.negative both, (and_right t.negative u.negative both, h.1))),
      (λ h. rest.1 (each_permuted Negative p (first_negative t u ∙ and_both t.negative u.negative h.0 h.1.0, h.1.1))),
    )

pub sum-minus : (ds : List ℕ) (r : Row) → ((sum_of order_of_operands ds r).output.sign ≡ 1) ↔ AllNegative r
unfolding sum_of joins_of
sum-minus ds [] = ((λ e. absurd (omega arith)), (λ h. absurd (omega (arith, h.0))))
sum-minus ds (t ∷ r) =
    let p : Permᴰ (t ∷ r) (row_in_order ds (t ∷ r)) = in_order_permuted ds (t ∷ r) in
    let joins = joins_minus (length (t ∷ r)) ds (row_in_order ds (t ∷ r)) (omega (arith, length_permuted p)) (omega (arith, length_permuted p)) in (
      (λ e. (omega arith, each_permuted Negative (mathlib.Core.List.Permᴰ.symm p) (joins.0 e))),
      (λ h. joins.1 (each_permuted Negative p h.1)),
    )

-- of rows, one after another: past the last row there is neither an output that is minus nor a row with terms
pub sums_minus : (ds : List ℕ) (rows : List Row) (i : ℕ)
    → ((get_or (sum_outputs order_of_operands ds rows) i zero_output).sign ≡ 1) ↔ AllNegative (get_or rows i [])
unfolding sum_outputs
sums_minus ds [] i = ((λ e. absurd (omega arith)), (λ h. absurd (omega (arith, h.0))))
sums_minus ds (r ∷ rows) zero = sum-minus ds r
sums_minus ds (r ∷ rows) (suc i) = sums_minus (depths ds (sum_of order_of_operands ds r).operations) rows i
