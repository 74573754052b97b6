-- The form that code takes, in which only the result of a join is put into its place, is the same sum.
-- Assumes nothing.
use Prim.Native.Nat.{ℕ, zero, suc}
use mathlib.Core.Path.{◌≡◌, refl, sym, ap, ◌∙◌}
use mathlib.Core.List.{List, [], ◌∷◌, ◌++◌}
use native.Mathlib.Omega.{arith}
use lib.ListN.{length, get_or-append}
use Rattle.term.specs.declared.Term.{Term}
use Rattle.layout_rules.specs.declared.Operation.{Operation}
use Rattle.board_rules.specs.Machine.{operation_depth}
use Rattle.elimination_rules.specs.Rows.{Row}
use Rattle.sum_rules.specs.Joins.{joined_term}
use Rattle.sum_rules.proofs.Sums.{each_permuted}
use Rattle.sum_rules.specs.Shallowest.{OperandOrder, first_operand, join_of, RowSum, depths_with, placed, row_in_order, joins_of, sum_of}
use Rattle.sum_rules.specs.Placing.{placing_joins_of}
use Rattle.sum_rules.specs.SumDepth.{HasDepth, EachTerm}
use Rattle.sum_rules.proofs.TermOrder.{NoLater, InOrder, placed_permuted, placed_in_order, in_order_lem, in_order_permuted, in_order_stays}
use Rattle.sum_rules.proofs.RowDepth.{after_have_depth}

-- a depth more leaves a row in order
each_no_later : (ds more : List ℕ) (t : Term) (r : Row) → HasDepth ds t → EachTerm (HasDepth ds) r → EachTerm (NoLater ds t) r → EachTerm (NoLater (ds ++ more) t) r
each_no_later ds more t [] k h i = tt
each_no_later ds more t (u ∷ r) k h i =
    let first = get_or-append ds more 0 t.symbol k in
    let second = get_or-append ds more 0 u.symbol h.0 in
    ((omega arith, λ s. i.0.1 (omega arith)), each_no_later ds more t r k h.1 i.1)

order-kept : (ds more : List ℕ) (r : Row) → EachTerm (HasDepth ds) r → InOrder ds r → InOrder (ds ++ more) r
order-kept ds more [] h i = tt
order-kept ds more (t ∷ r) h i = (each_no_later ds more t r h.0 h.1 i.0, order-kept ds more r h.1 i.1)

module _ (order : OperandOrder) where
  placing_joins : (most : ℕ) (ds : List ℕ) (r : Row) → EachTerm (HasDepth ds) r → InOrder ds r → placing_joins_of order most ds r ≡ joins_of order most ds r
  unfolding joins_of placing_joins_of row_in_order
  placing_joins zero ds r h i = refl
  placing_joins (suc most) ds [] h i = refl
  placing_joins (suc most) ds (t ∷ []) h i = refl
  placing_joins (suc most) ds (t ∷ u ∷ r) h i =
      let o : Operation = join_of order t u in
      let after : List ℕ = depths_with ds o in
      let new : Term = joined_term (length ds) (first_operand order t u) in
      let kept : InOrder after r = order-kept ds (operation_depth ds o ∷ []) r h.1.1 i.1.1 in
      ap (λ (s : RowSum). record { operations = o ∷ s.operations; output = s.output })
      (placing_joins most after (placed after new r)
      (each_permuted (HasDepth after) (placed_permuted after new r) (after_have_depth ds o (length ds) (first_operand order t u) r refl h.1.1))
      (placed_in_order after new r kept)
      ∙ ap (λ (q : Row). joins_of order most after (placed after new q)) (sym (in_order_stays after r kept)))

  pub placing_sum : (ds : List ℕ) (r : Row) → EachTerm (HasDepth ds) r → placing_joins_of order (length r) ds (row_in_order ds r) ≡ sum_of order ds r
  unfolding sum_of
  placing_sum ds r h = placing_joins (length r) ds (row_in_order ds r) (each_permuted (HasDepth ds) (in_order_permuted ds r) h) (in_order_lem ds r)
