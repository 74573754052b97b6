-- Document 01, "Row sums": of all ways of joining a row's terms two at a time, none gives the row a smaller depth than the shallowest
-- order. The least depth of a row is the least D with the sum of 2^depth over its terms at most 2^D.
-- Assumes nothing.
use Prim.Native.Nat.{ℕ, zero, suc, ◌+◌, ◌^◌, ◌≤◌, max}
use mathlib.Core.Path.{◌≡◌, refl, sym, ap, ap₂, ◌∙◌}
use mathlib.Core.List.{List, [], ◌∷◌, Permᴰ}
use native.Mathlib.Omega.{arith}
use lib.ListN.{length, get_or}
use lib.Seq.{get_or_at}
use Rattle.term.specs.declared.Term.{Term}
use Rattle.layout_rules.specs.declared.Operation.{Operation}
use Rattle.layout_rules.specs.declared.Output.{Output}
use Rattle.board_rules.specs.Machine.{operation_depth, depths}
use Rattle.elimination_rules.specs.Rows.{Row}
use Rattle.elimination_rules.proofs.Tests.{by_bool}
use Rattle.sum_rules.specs.Joins.{joined_term, join_operation}
use Rattle.sum_rules.specs.Sums.{Summed, nothing, last, join}
use Rattle.sum_rules.proofs.Sums.{length_permuted, each_permuted, each_term}
use Rattle.sum_rules.specs.Shallowest.{OperandOrder, first_operand, second_operand, join_of, term_depth, depths_with, row_in_order, joins_of, sum_of}
use Rattle.sum_rules.specs.SumDepth.{output_depth, sum_depth, power_sum, HasDepth, EachTerm}
use Rattle.sum_rules.proofs.TermOrder.{NoLater, InOrder, in_order_permuted, in_order_lem}
use Rattle.sum_rules.proofs.RowSums.{length_with, after_join, sum_summed}
use Rattle.sum_rules.proofs.Powers.{exponents_in_order, join-of_powers, room_for_join, powers_permuted, powers_kept, powers_multiple}

-- ---- what an operation more leaves: its own depth, and the depths of the other terms

depth_new : (ds : List ℕ) (o : Operation) (next : ℕ) (t : Term) → length ds ≡ next → term_depth (depths_with ds o) (joined_term next t) ≡ operation_depth ds o
depth_new ds o next t e = get_or_at ds (operation_depth ds o) [] 0 next e

pub after_have_depth : (ds : List ℕ) (o : Operation) (next : ℕ) (t : Term) (others : Row) → length ds ≡ next → EachTerm (HasDepth ds) others
    → EachTerm (HasDepth (depths_with ds o)) (joined_term next t ∷ others)
after_have_depth ds o next t others e h =
    (omega (arith, length_with ds o), each_term (HasDepth ds) (HasDepth (depths_with ds o)) (λ u k. omega (arith, length_with ds o)) others h)

pub after_powers : (ds : List ℕ) (o : Operation) (next : ℕ) (t : Term) (others : Row) → length ds ≡ next → EachTerm (HasDepth ds) others
    → power_sum (depths_with ds o) (joined_term next t ∷ others) ≡ 2 ^ operation_depth ds o + power_sum ds others
unfolding power_sum
after_powers ds o next t others e h =
    ap₂ ◌+◌ (ap (λ (d : ℕ). 2 ^ d) (depth_new ds o next t e)) (powers_kept ds (operation_depth ds o ∷ []) others h)

-- ---- no way of joining is shallower: 2^depth is at least the sum of the powers

pub summed_depth : {next : ℕ} {r : Row} {os : List Operation} {o : Output} → Summed next r os o → (ds : List ℕ) → length ds ≡ next
    → EachTerm (HasDepth ds) r → 1 ≤ length r → power_sum ds r ≤ 2 ^ output_depth ds os o
unfolding power_sum depths
summed_depth nothing ds e h some = absurd (omega arith)
summed_depth (last t) ds e h some = omega arith
summed_depth {next} (join t u others p q s) ds e h some =
    let o : Operation = join_operation t u in
    let k = each_permuted (HasDepth ds) p h in
    omega (
      arith,
      powers_permuted ds p,
      join-of_powers (term_depth ds t) (term_depth ds u),
      after_powers ds o next t others e k.1.1,
      powers_permuted (depths_with ds o) q,
      summed_depth s (depths_with ds o) (length_with ds o ∙ ap suc e)
          (each_permuted (HasDepth (depths_with ds o)) q (after_have_depth ds o next t others e k.1.1)) (omega (arith, length_permuted q)),
    )

-- a row without terms has the zero output, whose symbol is 0
pub empty-depth : {next : ℕ} {r : Row} {os : List Operation} {o : Output} (ds : List ℕ) → Summed next r os o → length r ≡ 0 → output_depth ds os o ≡ get_or ds 0 0
unfolding depths
empty-depth ds nothing e = refl
empty-depth ds (last t) e = absurd (omega arith)
empty-depth ds (join t u others p q s) e = absurd (omega (arith, length_permuted p))

module _ (order : OperandOrder) where
  -- which of the two is the first operand does not matter
  operands_depth : (ds : List ℕ) (t u : Term) → operation_depth ds (join_of order t u) ≡ suc (max (term_depth ds t) (term_depth ds u))
  operands_depth ds t u = by_bool (order t u)
      (λ e. rw (e, first_operand, second_operand) (omega arith)) (λ e. rw (e, first_operand, second_operand) refl)

  -- ---- the shallowest order keeps within every power of two that the sum of the powers is within

  -- a join of the first two
  join-within : (ds : List ℕ) (t u : Term) (r : Row) (D : ℕ) → EachTerm (HasDepth ds) (t ∷ u ∷ r) → InOrder ds (t ∷ u ∷ r) → power_sum ds (t ∷ u ∷ r) ≤ 2 ^ D
      → power_sum (depths_with ds (join_of order t u)) (after_join order ds t u r) ≤ 2 ^ D
  unfolding power_sum
  join-within ds t u r D h i l =
      let second : operation_depth ds (join_of order t u) ≡ suc (term_depth ds u) = omega (arith, operands_depth ds t u, i.0.0.0) in
      let others : EachTerm (λ v. term_depth ds u ≤ term_depth ds v) r = each_term (NoLater ds u) _ (λ v k. k.0) r i.1.0 in
      omega (
        arith,
        ap (λ (d : ℕ). 2 ^ d) second,
        after_powers ds (join_of order t u) (length ds) (first_operand order t u) r refl h.1.1,
        room_for_join (term_depth ds t) (term_depth ds u) (power_sum ds r) D (powers_multiple ds (term_depth ds u) r others) l,
      )

  joins_depth : (most : ℕ) (ds : List ℕ) (r : Row) (D : ℕ) → length r ≤ most → 1 ≤ length r → EachTerm (HasDepth ds) r → InOrder ds r → power_sum ds r ≤ 2 ^ D
      → output_depth ds (joins_of order most ds r).operations (joins_of order most ds r).output ≤ D
  unfolding joins_of depths power_sum
  joins_depth zero ds r D l some h i w = absurd (omega arith)
  joins_depth (suc most) ds [] D l some h i w = absurd (omega arith)
  joins_depth (suc most) ds (t ∷ []) D l some h i w = exponents_in_order (term_depth ds t) D (omega arith)
  joins_depth (suc most) ds (t ∷ u ∷ r) D l some h i w =
      let o : Operation = join_of order t u in
      let after : List ℕ = depths_with ds o in
      let p : Permᴰ (after_join order ds t u r) (row_in_order after (after_join order ds t u r)) = in_order_permuted after (after_join order ds t u r) in
      joins_depth most after (row_in_order after (after_join order ds t u r)) D
      (omega (arith, length_permuted p)) (omega (arith, length_permuted p))
      (each_permuted (HasDepth after) p (after_have_depth ds o (length ds) (first_operand order t u) r refl h.1.1))
      (in_order_lem after (after_join order ds t u r))
      (rw (sym (powers_permuted after p)) (join-within ds t u r D h i w))

  -- ---- the depth of a row's sum is the least D with the sum of the powers at most 2^D

  pub sum-depth_enough : (ds : List ℕ) (r : Row) → EachTerm (HasDepth ds) r → 1 ≤ length r → power_sum ds r ≤ 2 ^ sum_depth order ds r
  sum-depth_enough ds r h some = summed_depth (sum_summed order ds r) ds refl h some

  pub sum-depth-least : (ds : List ℕ) (r : Row) (D : ℕ) → EachTerm (HasDepth ds) r → 1 ≤ length r → power_sum ds r ≤ 2 ^ D → sum_depth order ds r ≤ D
  unfolding sum_of
  sum-depth-least ds r D h some w =
      let p : Permᴰ r (row_in_order ds r) = in_order_permuted ds r in
      joins_depth (length r) ds (row_in_order ds r) D (omega (arith, length_permuted p)) (omega (arith, length_permuted p))
      (each_permuted (HasDepth ds) p h) (in_order_lem ds r) (omega (arith, powers_permuted ds p))

  -- ---- "Of all ways of joining the same terms two at a time, none gives that row a smaller depth"

  pub shallowest : (ds : List ℕ) (r : Row) {os : List Operation} {o : Output} → EachTerm (HasDepth ds) r → Summed (length ds) r os o
      → sum_depth order ds r ≤ output_depth ds os o
  unfolding sum_of joins_of depths row_in_order
  shallowest ds [] h s = omega (arith, empty-depth ds s refl)
  shallowest ds (t ∷ r) h s =
      sum-depth-least ds (t ∷ r) _ h (omega arith) (summed_depth s ds refl h (omega arith))

-- which of two terms is the first operand does not matter
pub same-depth : (x y : OperandOrder) (ds : List ℕ) (r : Row) → EachTerm (HasDepth ds) r → sum_depth x ds r ≡ sum_depth y ds r
same-depth x y ds r h = omega (arith, shallowest x ds r h (sum_summed y ds r), shallowest y ds r h (sum_summed x ds r))
