-- Document 01, "Row sums": what holds before each join of a row, from the first one to the last, and where the terms stand that are left.
-- Assumes nothing.
use Prim.Native.Nat.{ℕ, suc, ◌+◌, ◌≤◌, ◌<◌, pred}
use mathlib.Core.Path.{◌≡◌, refl, sym, ap, ap₂, subst, ◌∙◌}
use mathlib.Core.List.{List, [], ◌∷◌, ◌++◌, append_assoc, append-nil}
use native.Mathlib.Omega.{arith}
use native.Mathlib.Numerals.{add-one}
use lib.ListN.{length, get_or, set, drop, replicate, length-append, drop_of_length-le}
use lib.Seq.{drop-cons}
use Rattle.limits.specs.Limits.{max_columns, max_operations, max_symbols}
use Rattle.term.specs.declared.Term.{Term}
use Rattle.layout_rules.specs.declared.Operation.{Operation}
use Rattle.layout_rules.specs.declared.Output.{Output}
use Rattle.board_rules.specs.Machine.{operation_depth}
use Rattle.board_rules.specs.Table.{HoldsDepths}
use Rattle.board_rules.proofs.DepthLaws.{depths_snoc}
use Rattle.board_rules.proofs.TableLaws.{depth_at, operands_fit, depths_appended}
use Rattle.elimination_rules.specs.Rows.{Row}
use Rattle.elimination_rows.specs.State.{no_term}
use Rattle.sum_rules.specs.Joins.{joined_term, term_output, zero_output}
use Rattle.sum_rules.specs.Shallowest.{order_of_operands, first_operand, second_operand, join_of, RowSum, depths_of, depths_with, placed, row_in_order, sum_of}
use Rattle.sum_rules.specs.Placing.{placing_joins_of}
use Rattle.sum_rules.specs.SumDepth.{HasDepth, EachTerm}
use Rattle.sum_rules.proofs.Sums.{length_permuted, each_permuted, each_term}
use Rattle.sum_rules.proofs.TermOrder.{SameDepth, placed_same, in_order-same, placed_permuted, in_order_permuted}
use Rattle.sum_rules.proofs.RowSums.{length-depths-of, operands_permuted}
use Rattle.sum_rules.proofs.Placing.{placing_sum}

-- ---- the depths of the symbols so far

-- a term's symbol is an input or one of so many operations
abbrev pub Below : ℕ → Term → Type 0
Below bound t = t.symbol < bound

pub each_below : (k bound : ℕ) (r : Row) → k ≤ bound → EachTerm (Below k) r → EachTerm (Below bound) r
each_below k bound r l h = each_term (Below k) (Below bound) (λ t m. omega arith) r h

-- the table has the depths of such terms
table_same : (n : ℕ) (os : List Operation) (table : List ℕ) → HoldsDepths n os table → (r : Row) → EachTerm (Below (n + length os)) r
    → EachTerm (SameDepth table (depths_of n os)) r
table_same n os table H r h = each_term (Below (n + length os)) (SameDepth table (depths_of n os)) (λ t k. depth_at n os table H t.symbol k) r h

-- ---- before each join of a row

-- operations and what comes after them, together
abbrev behind : List Operation → RowSum → RowSum
behind os s = record { operations = os ++ s.operations; output = s.output }

behind_more : (os : List Operation) (o : Operation) (s : RowSum) → behind (os ++ (o ∷ [])) s ≡ behind os (record { operations = o ∷ s.operations; output = s.output })
behind_more os o s = ap (λ (l : List Operation). record { operations = l; output = s.output }) (append_assoc os (o ∷ []) s.operations)

-- a row's joins behind operations; its terms are in order
abbrev joins_behind : ℕ → List Operation → Row → RowSum
joins_behind n os r = behind os (placing_joins_of order_of_operands (length r) (depths_of n os) r)

-- a row is joined behind the operations `made`. There are the operations `os` so far, with their depths in the table, and the terms `r` are
-- left: their joins behind `os` come to those of the row
pub record BeforeJoin (n : ℕ) (made : List Operation) (row : Row) (os : List Operation) (table : List ℕ) (r : Row) : Type 0 where
  pub depths-held : HoldsDepths n os table
  pub below : EachTerm (Below (n + length os)) r
  pub few : length os + pred (length r) ≤ max_operations
  pub rest : joins_behind n os r ≡ behind made (sum_of order_of_operands (depths_of n made) row)

-- the row in order
module _ (n : ℕ) (made : List Operation) (row : Row) (table : List ℕ) (H : HoldsDepths n made table) (h : EachTerm (Below (n + length made)) row)
    (first : Row) (e : first ≡ row_in_order table row) where
  in_order_by_table : first ≡ row_in_order (depths_of n made) row
  in_order_by_table = e ∙ in_order-same table (depths_of n made) row (table_same n made table H row h)

  length-first : length first ≡ length row
  length-first = ap length in_order_by_table ∙ sym (length_permuted (in_order_permuted (depths_of n made) row))

  first-sum : placing_joins_of order_of_operands (length first) (depths_of n made) first ≡ sum_of order_of_operands (depths_of n made) row
  first-sum =
      let ds : List ℕ = depths_of n made in
      ap₂ (λ (k : ℕ) (q : Row). placing_joins_of order_of_operands k ds q) length-first in_order_by_table
      ∙ placing_sum order_of_operands ds row (each_term (Below (n + length made)) (HasDepth ds) (λ t k. omega (arith, length-depths-of n made)) row h)

  pub before-first : length made + pred (length row) ≤ max_operations → BeforeJoin n made row made table first
  before-first few =
      record {
        depths-held = H;
        below = subst (EachTerm (Below (n + length made))) (sym e) (each_permuted (Below (n + length made)) (in_order_permuted table row) h);
        few = omega (arith, length-first);
        rest = ap (behind made) first-sum;
      }

-- one join, and what comes after it
placing_join : (ds : List ℕ) (t u : Term) (r : Row) → (let o = join_of order_of_operands t u in
    let after = depths_with ds o in
    let others = placing_joins_of order_of_operands (suc (length r)) after (placed after (joined_term (length ds) (first_operand order_of_operands t u)) r) in
    record { operations = o ∷ others.operations; output = others.output } ≡ placing_joins_of order_of_operands (length (t ∷ u ∷ r)) ds (t ∷ u ∷ r))
unfolding placing_joins_of
placing_join ds t u r = refl

module _ {n : ℕ} {made : List Operation} {row : Row} {os : List Operation} {table : List ℕ} {r : Row} (b : BeforeJoin n made row os table r) where
  -- at the end, no join is left
  abbrev whole : RowSum
  whole = sum_of order_of_operands (depths_of n made) row

  ended : (o : Output) → record { operations = []; output = o } ≡ placing_joins_of order_of_operands (length r) (depths_of n os) r
      → (os ≡ made ++ whole.operations) × (o ≡ whole.output)
  ended o e =
      let all : behind os (record { operations = []; output = o }) ≡ behind made whole = ap (behind os) e ∙ b.rest in
      (sym (append-nil os) ∙ ap (λ (s : RowSum). s.operations) all, ap (λ (s : RowSum). s.output) all)

  pub none_left : r ≡ [] → (os ≡ made ++ whole.operations) × (zero_output ≡ whole.output)
  unfolding placing_joins_of
  none_left e = ended zero_output (rw e refl)

  pub one_left : (t : Term) → r ≡ t ∷ [] → (os ≡ made ++ whole.operations) × (term_output t ≡ whole.output)
  unfolding placing_joins_of
  one_left t e = ended (term_output t) (rw e refl)

  -- the first two terms are joined
  module _ (columns : n ≤ max_columns) (t u : Term) (others : Row) (e : r ≡ t ∷ u ∷ others) where
    abbrev o : Operation
    o = join_of order_of_operands t u

    abbrev operand : Term
    operand = first_operand order_of_operands t u

    -- the terms that are left, the two that are joined in the order of their operands
    left_below : EachTerm (Below (n + length os)) (operand ∷ second_operand order_of_operands t u ∷ others)
    left_below = each_permuted (Below (n + length os)) (operands_permuted order_of_operands t u others) (subst (EachTerm (Below (n + length os))) e b.below)

    pub room : length os < max_operations
    room = omega (arith, ap (length {A = Term}) e, b.few)

    pub operands_within : ((join_of order_of_operands t u).a < max_symbols) × ((join_of order_of_operands t u).b < max_symbols)
    operands_within = (omega (arith, room, left_below.0), omega (arith, room, left_below.1.0))

    pub others-within : EachTerm (Below max_symbols) others
    others-within = each_below (n + length os) max_symbols others (omega (arith, room)) left_below.1.1

    pub operand-depths : (get_or table (join_of order_of_operands t u).a 0 < 65535) × (get_or table (join_of order_of_operands t u).b 0 < 65535)
    operand-depths = operands_fit n os table b.depths-held o left_below.0 left_below.1.0 (omega (arith, room))

    abbrev ds : List ℕ
    ds = depths_of n os

    abbrev new : Term
    new = joined_term (n + length os) operand

    abbrev table_after : List ℕ
    table_after = set table (n + length os) (operation_depth table o)

    held_after : HoldsDepths n (os ++ (o ∷ [])) table_after
    held_after = depths_appended n os table b.depths-held o left_below.0 left_below.1.0 (omega (arith, room))

    depths-after : depths_of n (os ++ (o ∷ [])) ≡ depths_with ds o
    depths-after = depths_snoc (replicate n 0) os o

    length_more : length (os ++ (o ∷ [])) ≡ suc (length os)
    length_more = omega (arith, length-append os (o ∷ []))

    after-below : EachTerm (Below (n + length (os ++ (o ∷ [])))) (new ∷ others)
    after-below = (omega (arith, length_more), each_below (n + length os) _ others (omega (arith, length_more)) left_below.1.1)

    -- the table places the new term as the depths do
    placed_by_table : placed table_after new others ≡ placed (depths_with ds o) (joined_term (length ds) operand) others
    placed_by_table =
        let same = table_same n (os ++ (o ∷ [])) table_after held_after (new ∷ others) after-below in
        placed_same table_after (depths_of n (os ++ (o ∷ []))) new others same.0 same.1
        ∙ ap₂ (λ (es : List ℕ) (k : ℕ). placed es (joined_term k operand) others) depths-after (sym (length-depths-of n os))

    length-placed : length (placed table_after new others) ≡ suc (length others)
    length-placed = sym (length_permuted (placed_permuted table_after new others))

    rest-after : joins_behind n (os ++ (o ∷ [])) (placed table_after new others) ≡ joins_behind n os r
    rest-after =
        let after : List ℕ = depths_with ds o in
        let q : Row = placed after (joined_term (length ds) operand) others in
        let joins : RowSum = placing_joins_of order_of_operands (suc (length others)) after q in
        ap₂ (λ (k : ℕ) (es : List ℕ). behind (os ++ (o ∷ [])) (placing_joins_of order_of_operands k es (placed table_after new others))) length-placed depths-after
        ∙ ap (λ (l : Row). behind (os ++ (o ∷ [])) (placing_joins_of order_of_operands (suc (length others)) after l)) placed_by_table
        ∙ behind_more os o joins
        ∙ ap (behind os) (placing_join ds t u others)
        ∙ sym (ap (joins_behind n os) e)

    pub before_next : (after : List Operation) (table_now : List ℕ) (left : Row) → after ≡ os ++ (o ∷ []) → table_now ≡ table_after → left ≡ placed table_after new others
        → BeforeJoin n made row after table_now left
    before_next after table_now left a d l =
        rw (a, d, l) (record {
          depths-held = held_after;
          below = each_permuted (Below (n + length (os ++ (o ∷ [])))) (placed_permuted table_after new others) after-below;
          few = omega (arith, length_more, length-placed, ap (length {A = Term}) e, b.few);
          rest = rest-after ∙ b.rest;
        })

-- ---- the terms that are left stand at the end of their array

module _ (terms : Row) (at : ℕ) where
  pub two_at_end : at + 1 < length terms → drop at terms ≡ get_or terms at no_term ∷ get_or terms (at + 1) no_term ∷ drop (suc (at + 1)) terms
  two_at_end h =
      drop-cons terms at no_term (omega arith)
      ∙ ap (λ (q : Row). get_or terms at no_term ∷ q) (rw (add-one at) (drop-cons terms (suc at) no_term (omega arith)))

  pub one_at_end : length terms ≡ at + 1 → drop at terms ≡ get_or terms at no_term ∷ []
  one_at_end h = drop-cons terms at no_term (omega arith) ∙ ap (λ (q : Row). get_or terms at no_term ∷ q) (drop_of_length-le terms {i = suc at} (omega arith))

-- before a join of such terms there is room for one more operation and its symbol
pub next_fits : {n : ℕ} {made : List Operation} {row : Row} {table : List ℕ} {os : List Operation} (terms : Row) (at : ℕ)
    → BeforeJoin n made row os table (drop at terms) → n ≤ max_columns → at + 1 < length terms
    → (length os < max_operations) × (n + length os < max_symbols)
next_fits terms at b columns h =
    let few = room b columns _ _ _ (two_at_end terms at h) in
    (omega (arith, few), omega (arith, few))
