-- `compile_sums::sum_row` meets its contract. Assumes nothing.
use Rattle.std.proofs.Common.{◌≡◌, refl, sym, ap, ap₂, ◌∙◌, ℕ, suc, ◌+◌, ◌-◌, ◌≤◌, List, [], ◌∷◌, ◌++◌, length, drop, arith, rules}
use borrow.Rule.Slice.PartMut.{same_len_mid}
use lib.ListN.{get_or, set, length-take, length-drop, drop_of_length-le}
use Rattle.limits.specs.Limits.{max_symbols, max_terms}
use Rattle.term.specs.declared.Term.{Term}
use Rattle.layout_rules.specs.declared.Operation.{Operation}
use Rattle.board_rules.specs.Machine.{operation_depth}
use Rattle.elimination_rows.specs.State.{row_terms, no_term}
use Rattle.compile_lists.specs.Lists.{operations_list}
use Rattle.compile_order.proofs.PlaceLaws.{lent_behind, given_back}
use Rattle.sum_rules.specs.Joins.{join_operation, joined_term, term_output}
use Rattle.sum_rules.specs.Shallowest.{order_of_operands, first_operand, join_of, placed, row_in_order}
use Rattle.sum_rules.proofs.Sums.{length_permuted}
use Rattle.sum_rules.proofs.TermOrder.{in_order_permuted}
use Rattle.compile_sums.proofs.JoinLaws.{each_below, before-first, none_left, one_left, others-within, operand-depths, before_next, two_at_end, one_at_end, next_fits}
use Rattle.compile_sums.proofs.sum_row.Goals as goal

pub in_order-terms-requires : goal.in_order-terms-requires
in_order-terms-requires c =
    each_below (c.args.n + length (operations_list c.args.operations.now)) max_symbols (row_terms c.args.row) (omega (arith, c.requires.n_le_max_columns)) c.requires.each_term

-- the row has a place for each of its terms
row_within : (terms : List Term) (ds : List ℕ) (r : List Term) → length terms ≡ max_terms → drop (max_terms - length r) terms ≡ row_in_order ds r → length r ≤ max_terms
row_within terms ds r size e = omega (arith, length-drop (max_terms - length r) terms, ap (length {A = Term}) e, length_permuted (in_order_permuted ds r))

pub overflow_step-at : goal.overflow_step-at
overflow_step-at c = omega (arith, c.count-at.ensures, row_within c.in_order-terms.result c.args.depths.now (row_terms c.args.row) (search rules) c.in_order-terms.ensures)

pub loop-at-init : goal.loop-at-init
loop-at-init c =
    let made = operations_list c.args.operations.now in
    let terms : drop (max_terms - c.count-at.result) c.in_order-terms.result ≡ row_in_order c.args.depths.now (row_terms c.args.row) = rw c.count-at.ensures.number c.in_order-terms.ensures in
    (search rules, before-first c.args.n made (row_terms c.args.row) c.args.depths.now c.requires.holds_depths c.requires.each_term _ terms c.requires.n_le_max_columns.1)

-- the next operation and its symbol
pub bounds-depths-symbol : goal.bounds-depths-symbol
bounds-depths-symbol c = omega (arith, c.count-count.ensures.number, next_fits c.loop-at.terms c.loop-at.at c.loop-at.invariant.1 c.requires.n_le_max_columns.0 (omega arith))

pub push-requires : goal.push-requires
push-requires c = omega (arith, c.count-count.ensures.number, next_fits c.loop-at.terms c.loop-at.at c.loop-at.invariant.1 c.requires.n_le_max_columns.0 (omega arith))

pub joined_term-requires : goal.joined_term-requires
joined_term-requires c = omega (arith, c.count-count.ensures.number, next_fits c.loop-at.terms c.loop-at.at c.loop-at.invariant.1 c.requires.n_le_max_columns.0 (omega arith))

pub place-requires-clause-some : goal.place-requires-clause-some
place-requires-clause-some c =
    let symbol = ap (λ (t : Term). t.symbol) c.joined_term.ensures in
    let behind = c.loop-at.at + 1 in (
      omega (arith, length-take (max_terms - behind) (drop behind c.loop-at.terms), length-drop behind c.loop-at.terms),
      omega (arith, symbol, c.count-count.ensures.number, next_fits c.loop-at.terms c.loop-at.at c.loop-at.invariant.1 c.requires.n_le_max_columns.0 (omega arith)),
    )

pub place-requires-clause-each_term : goal.place-requires-clause-each_term
place-requires-clause-each_term c =
    let two = two_at_end c.loop-at.terms c.loop-at.at (omega arith) in
    rw (lent_behind c.loop-at.terms max_terms (c.loop-at.at + 1) c.loop-at.invariant.0 (suc (c.loop-at.at + 1)) refl)
    (others-within c.loop-at.invariant.1 c.requires.n_le_max_columns.0 _ _ _ two)

pub operation_depth-requires-clause-a_bound : goal.operation_depth-requires-clause-a_bound
operation_depth-requires-clause-a_bound c =
    let two = two_at_end c.loop-at.terms c.loop-at.at (omega arith) in
    rw (c.join_operation-o.ensures, c.of.ensures.first_value, c.of.ensures.second_value)
    (operand-depths c.loop-at.invariant.1 c.requires.n_le_max_columns.0 _ _ _ two)

pub loop-at-preserved : goal.loop-at-preserved
loop-at-preserved c =
    let b = c.loop-at.invariant.1 in
    let columns = c.requires.n_le_max_columns.0 in
    let n = c.args.n in
    let terms = c.loop-at.terms in
    let at = c.loop-at.at in
    let t : Term = get_or terms at no_term in
    let u : Term = get_or terms (at + 1) no_term in
    let others : List Term = drop (suc (at + 1)) terms in
    let two = two_at_end terms at (omega arith) in
    let os : List Operation = operations_list c.loop-at.operations in
    let fits = next_fits terms at b columns (omega arith) in
    let symbol : n + c.count-count.result ≡ n + length os = ap (λ (k : ℕ). n + k) c.count-count.ensures.number in
    let operand : Term = first_operand order_of_operands t u in
    let operation : c.join_operation-o.result ≡ join_of order_of_operands t u =
    c.join_operation-o.ensures ∙ ap₂ join_operation c.of.ensures.first_value c.of.ensures.second_value in
    let table_after : List ℕ = set c.loop-at.depths (n + length os) (operation_depth c.loop-at.depths (join_of order_of_operands t u)) in
    let table : set c.loop-at.depths (n + c.count-count.result) c.operation_depth.result ≡ table_after =
    ap₂ (λ (k d : ℕ). set c.loop-at.depths k d) symbol (c.operation_depth.ensures ∙ ap (operation_depth c.loop-at.depths) operation) in
    let new : c.joined_term.result ≡ joined_term (n + length os) operand = c.joined_term.ensures ∙ ap₂ joined_term symbol c.of.ensures.first_value in
    let left = given_back terms max_terms (at + 1) c.loop-at.invariant.0 (omega arith) c.place.new.terms
    ∙ c.place.ensures
    ∙ ap (placed _ _) (lent_behind terms max_terms (at + 1) c.loop-at.invariant.0 (suc (at + 1)) refl)
    ∙ ap₂ (λ (ds : List ℕ) (x : Term). placed ds x others) table new in
    let all = c.push.ensures ∙ ap (λ (p : Operation). os ++ (p ∷ [])) operation in (
      same_len_mid (at + 1) (max_terms - (at + 1)) terms c.place.new.terms (search rules) ∙ c.loop-at.invariant.0,
      before_next b columns t u others two _ _ _ all table left,
    )

-- the row has no terms
pub returns-then-count-eq0 : goal.returns-then-count-eq0
returns-then-count-eq0 c =
    let none : drop c.loop-at.at c.loop-at.terms ≡ [] = drop_of_length-le c.loop-at.terms {i = c.loop-at.at} (omega (arith, c.loop-at.invariant.0, c.count.ensures.number, c.count-at.ensures.number)) in
    let end = none_left c.loop-at.invariant.1 none in
    record { operations_value = end.0; output_value = c.zero_output.ensures ∙ end.1; holds_depths_2 = c.loop-at.invariant.1.depths-held }

-- after the joins one term is left
pub returns-else-count-eq0 : goal.returns-else-count-eq0
returns-else-count-eq0 c =
    let last : c.loop-at.at ≡ 63 = omega (arith, c.count.ensures.number, c.count-at.ensures.number, c.if-count-eq0.false) in
    let end = one_left c.loop-at.invariant.1 _ (one_at_end c.loop-at.terms c.loop-at.at (omega (arith, c.loop-at.invariant.0))) in
    record {
      operations_value = end.0;
      output_value = c.term_output.ensures ∙ ap (λ (i : ℕ). term_output (get_or c.loop-at.terms i no_term)) (sym last) ∙ end.1;
      holds_depths_2 = c.loop-at.invariant.1.depths-held;
    }
