-- Document 01, "Row sums": the shallowest order sums a row two terms at a time, so that it takes (terms − 1) operations and gives the
-- row's value; and no more joins than terms are made.
-- Assumes nothing.
use Prim.Native.Nat.{ℕ, zero, suc, ◌+◌, ◌≤◌, pred}
use mathlib.Core.Path.{◌≡◌, refl, ap, subst}
use mathlib.Core.List.{List, [], ◌∷◌, Permᴰ}
use native.Mathlib.Omega.{arith}
use lib.IntN.{ℤ}
use lib.ListN.{length, replicate, length-append, length-replicate}
use Rattle.term.specs.declared.Term.{Term}
use Rattle.layout_rules.specs.declared.Operation.{Operation}
use Rattle.layout_rules.specs.declared.Output.{Output}
use Rattle.board_rules.specs.Machine.{operation_depth, depths}
use Rattle.board_rules.proofs.MachineLaws.{Follows}
use Rattle.board_rules.proofs.DepthLaws.{length-depths}
use Rattle.elimination_rules.specs.Rows.{Row, row_value}
use Rattle.elimination_rules.proofs.Tests.{by_bool}
use Rattle.sum_rules.specs.Joins.{joined_term, term_output, zero_output}
use Rattle.sum_rules.specs.Sums.{Summed, nothing, last, join, SummedRows, end, first-row}
use Rattle.sum_rules.proofs.Sums.{length_permuted, each_permuted, summed_length}
use Rattle.sum_rules.proofs.Values.{output_of, summed_value}
use Rattle.sum_rules.specs.Shallowest.{OperandOrder, first_operand, second_operand, join_of, RowSum, depths_of, depths_with, row_in_order, joins_of, sum_of, sum_operations, sum_outputs}
use Rattle.sum_rules.proofs.TermOrder.{in_order_permuted}

-- ---- a row's terms in another order

nothing_permuted : {next : ℕ} (q : Row) → Permᴰ q [] → Summed next q [] zero_output
nothing_permuted [] p = nothing
nothing_permuted (t ∷ q) p = absurd (omega (arith, length_permuted p))

last_permuted : {next : ℕ} (t : Term) (q : Row) → Permᴰ q (t ∷ []) → Summed next q [] (term_output t)
last_permuted t [] p = absurd (omega (arith, length_permuted p))
last_permuted {next} t (u ∷ []) p =
    subst (λ (v : Term). Summed next (u ∷ []) [] (term_output v)) (each_permuted (λ v. u ≡ v) p (refl, tt)).0 (last u)
last_permuted t (u ∷ v ∷ q) p = absurd (omega (arith, length_permuted p))

summed_permuted : {next : ℕ} {q r : Row} {os : List Operation} {o : Output} → Permᴰ q r → Summed next r os o → Summed next q os o
summed_permuted {q = q} p nothing = nothing_permuted q p
summed_permuted {q = q} p (last t) = last_permuted t q p
summed_permuted p (join t u others m n s) = join t u others (mathlib.Core.List.Permᴰ.trans p m) n s

pub length-depths-of : (n : ℕ) (os : List Operation) → length (depths_of n os) ≡ n + length os
length-depths-of n os = omega (arith, length-depths (replicate n 0) os, length-replicate n zero)

pub length_with : (ds : List ℕ) (o : Operation) → length (depths_with ds o) ≡ suc (length ds)
length_with ds o = omega (arith, length-append ds (operation_depth ds o ∷ []))

module _ (order : OperandOrder) where
  -- either term may be the first operand
  pub operands_permuted : (t u : Term) (r : Row) → Permᴰ (t ∷ u ∷ r) (first_operand order t u ∷ second_operand order t u ∷ r)
  operands_permuted t u r = by_bool (order t u) (λ e. rw (e, first_operand, second_operand) (mathlib.Core.List.Permᴰ.swap refl refl)) (λ e. rw (e, first_operand, second_operand) (mathlib.Core.List.Permᴰ.refl (t ∷ u ∷ r)))

  -- what a join leaves
  abbrev pub after_join : List ℕ → Term → Term → Row → Row
  after_join ds t u r = joined_term (length ds) (first_operand order t u) ∷ r

  pub length-after : (ds : List ℕ) (t u : Term) (r : Row)
      → length (row_in_order (depths_with ds (join_of order t u)) (after_join ds t u r)) ≡ suc (length r)
  length-after ds t u r = omega (arith, length_permuted (in_order_permuted (depths_with ds (join_of order t u)) (after_join ds t u r)))

  -- ---- the relation

  joins_summed : (most : ℕ) (ds : List ℕ) (r : Row) → length r ≤ most
      → Summed (length ds) r (joins_of order most ds r).operations (joins_of order most ds r).output
  unfolding joins_of
  joins_summed zero ds [] l = nothing
  joins_summed zero ds (t ∷ r) l = absurd (omega arith)
  joins_summed (suc most) ds [] l = nothing
  joins_summed (suc most) ds (t ∷ []) l = last t
  joins_summed (suc most) ds (t ∷ u ∷ r) l =
      let after : List ℕ = depths_with ds (join_of order t u) in
      let left : Row = row_in_order after (after_join ds t u r) in
      join (first_operand order t u) (second_operand order t u) r (operands_permuted t u r) (in_order_permuted after (after_join ds t u r))
      (subst (λ (k : ℕ). Summed k left (joins_of order most after left).operations (joins_of order most after left).output)
      (length_with ds (join_of order t u)) (joins_summed most after left (omega (arith, length-after ds t u r))))

  pub sum_summed : (ds : List ℕ) (r : Row) → Summed (length ds) r (sum_of order ds r).operations (sum_of order ds r).output
  unfolding sum_of
  sum_summed ds r =
      let p : Permᴰ r (row_in_order ds r) = in_order_permuted ds r in
      summed_permuted p (joins_summed (length r) ds (row_in_order ds r) (omega (arith, length_permuted p)))

  pub sums_summed : (ds : List ℕ) (rows : List Row) → SummedRows (length ds) rows (sum_operations order ds rows) (sum_outputs order ds rows)
  unfolding sum_operations sum_outputs
  sums_summed ds [] = end
  sums_summed ds (r ∷ rows) =
      let os : List Operation = (sum_of order ds r).operations in
      first-row (sum_summed ds r)
      (subst (λ (k : ℕ). SummedRows k rows (sum_operations order (depths ds os) rows) (sum_outputs order (depths ds os) rows))
      (length-depths ds os) (sums_summed (depths ds os) rows))

  -- ---- counts and values

  pub sum-length : (ds : List ℕ) (r : Row) → length (sum_of order ds r).operations ≡ pred (length r)
  sum-length ds r = summed_length (sum_summed ds r)

  pub sum-value : (v : ℕ → ℤ) (ds : List ℕ) (r : Row) → Follows v (length ds) (sum_of order ds r).operations
      → output_of v (sum_of order ds r).output ≡ row_value v r
  sum-value v ds r f = summed_value v (sum_summed ds r) f

  -- ---- as many joins as a row has terms are enough, and more change nothing

  pub joins_enough : (m n : ℕ) (ds : List ℕ) (r : Row) → length r ≤ m → length r ≤ n → joins_of order m ds r ≡ joins_of order n ds r
  unfolding joins_of
  joins_enough zero zero ds r k l = refl
  joins_enough zero (suc n) ds [] k l = refl
  joins_enough zero (suc n) ds (t ∷ r) k l = absurd (omega arith)
  joins_enough (suc m) zero ds [] k l = refl
  joins_enough (suc m) zero ds (t ∷ r) k l = absurd (omega arith)
  joins_enough (suc m) (suc n) ds [] k l = refl
  joins_enough (suc m) (suc n) ds (t ∷ []) k l = refl
  joins_enough (suc m) (suc n) ds (t ∷ u ∷ r) k l =
      ap (λ (s : RowSum). record { operations = join_of order t u ∷ s.operations; output = s.output })
      (joins_enough m n (depths_with ds (join_of order t u)) (row_in_order (depths_with ds (join_of order t u)) (after_join ds t u r))
      (omega (arith, length-after ds t u r)) (omega (arith, length-after ds t u r)))
