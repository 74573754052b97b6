-- Document 01, "Row sums" and the plain count: rows one after another, and what holds before each of them.
-- Assumes nothing.
use Prim.Native.Nat.{ℕ, suc, ◌+◌, ◌≤◌, ◌<◌, pred}
use mathlib.Core.Path.{◌≡◌, refl, sym, ap, ap₂, ◌∙◌}
use mathlib.Core.List.{List, [], ◌∷◌, ◌++◌, append_assoc, append-nil}
use native.Mathlib.Omega.{arith}
use lib.ListN.{length, get_or, drop, replicate, length-append, drop_of_length-le}
use lib.Seq.{drop-cons}
use Rattle.limits.specs.Limits.{max_operations}
use Rattle.layout_rules.specs.declared.Operation.{Operation}
use Rattle.layout_rules.specs.declared.Output.{Output}
use Rattle.board_rules.specs.Machine.{depths}
use Rattle.board_rules.specs.Table.{HoldsDepths}
use Rattle.board_rules.proofs.DepthLaws.{depths-append}
use Rattle.elimination_rules.specs.Rows.{Row, plain_count, EachRow}
use Rattle.elimination_rules.proofs.Order.{each_row}
use Rattle.elimination_rows.proofs.Members.{member_at}
use Rattle.sum_rules.specs.Shallowest.{order_of_operands, RowSum, depths_of, sum_of, sum_operations, sum_outputs}
use Rattle.sum_rules.specs.SumDepth.{EachTerm}
use Rattle.sum_rules.proofs.RowSums.{sum-length}
use Rattle.compile_sums.proofs.JoinLaws.{Below, each_below}

-- ---- the plain count

module _ (rows : List Row) (i : ℕ) where
  plain-cons : (r : Row) (rows : List Row) → plain_count (r ∷ rows) ≡ pred (length r) + plain_count rows
  unfolding plain_count
  plain-cons r rows = refl

  pub plain_next : i < length rows → plain_count (drop i rows) ≡ pred (length (get_or rows i [])) + plain_count (drop (suc i) rows)
  plain_next h = ap plain_count (drop-cons rows i [] h) ∙ plain-cons (get_or rows i []) (drop (suc i) rows)

  plain-none : (rows : List Row) → rows ≡ [] → plain_count rows ≡ 0
  unfolding plain_count
  plain-none rows e = ap plain_count e

  pub plain_end : length rows ≤ i → plain_count (drop i rows) ≡ 0
  plain_end h = plain-none (drop i rows) (drop_of_length-le rows {i = i} h)

-- ---- before each row

-- the rows are summed behind the operations `made`. There are the operations `os` and the outputs so far, with the operations' depths in the
-- table, and the rows from the i-th on are left: their sums behind `os` come to those of all rows
pub record BeforeRow (n : ℕ) (made : List Operation) (rows : List Row) (i : ℕ) (os : List Operation) (outputs : List Output) (table : List ℕ) : Type 0 where
  pub depths-held : HoldsDepths n os table
  pub grown : length made ≤ length os
  pub few : length os + plain_count (drop i rows) ≤ max_operations
  pub counted : length outputs ≡ i
  pub operations-rest : os ++ sum_operations order_of_operands (depths_of n os) (drop i rows) ≡ made ++ sum_operations order_of_operands (depths_of n made) rows
  pub outputs-rest : outputs ++ sum_outputs order_of_operands (depths_of n os) (drop i rows) ≡ sum_outputs order_of_operands (depths_of n made) rows

pub before-rows : (n : ℕ) (made : List Operation) (rows : List Row) (table : List ℕ) → HoldsDepths n made table → length made + plain_count rows ≤ max_operations
    → BeforeRow n made rows 0 made [] table
before-rows n made rows table H l =
    record { depths-held = H; grown = omega arith; few = l; counted = refl; operations-rest = refl; outputs-rest = refl }

operations-cons : (ds : List ℕ) (r : Row) (rows : List Row) → (let os = (sum_of order_of_operands ds r).operations in
    os ++ sum_operations order_of_operands (depths ds os) rows ≡ sum_operations order_of_operands ds (r ∷ rows))
unfolding sum_operations
operations-cons ds r rows = refl

outputs-cons : (ds : List ℕ) (r : Row) (rows : List Row) → (let s = sum_of order_of_operands ds r in
    s.output ∷ sum_outputs order_of_operands (depths ds s.operations) rows ≡ sum_outputs order_of_operands ds (r ∷ rows))
unfolding sum_outputs
outputs-cons ds r rows = refl

operations-none : (ds : List ℕ) (rows : List Row) → rows ≡ [] → sum_operations order_of_operands ds rows ≡ []
unfolding sum_operations
operations-none ds rows e = ap (sum_operations order_of_operands ds) e

outputs-none : (ds : List ℕ) (rows : List Row) → rows ≡ [] → sum_outputs order_of_operands ds rows ≡ []
unfolding sum_outputs
outputs-none ds rows e = ap (sum_outputs order_of_operands ds) e

module _ {n : ℕ} {made : List Operation} {rows : List Row} {i : ℕ} {os : List Operation} {outputs : List Output} {table : List ℕ}
    (b : BeforeRow n made rows i os outputs table) where
  abbrev ds : List ℕ
  ds = depths_of n os

  pub rows-ended : length rows ≤ i → (os ≡ made ++ sum_operations order_of_operands (depths_of n made) rows) × (outputs ≡ sum_outputs order_of_operands (depths_of n made) rows)
  rows-ended h =
      let none : drop i rows ≡ [] = drop_of_length-le rows {i = i} h in (
        sym (ap (λ (l : List Operation). os ++ l) (operations-none ds (drop i rows) none) ∙ append-nil os) ∙ b.operations-rest,
        sym (ap (λ (l : List Output). outputs ++ l) (outputs-none ds (drop i rows) none) ∙ append-nil outputs) ∙ b.outputs-rest,
      )

  module _ (h : i < length rows) where
    abbrev r : Row
    r = get_or rows i []

    abbrev others : List Row
    others = drop (suc i) rows

    abbrev sum : RowSum
    sum = sum_of order_of_operands ds r

    pub row_room : length os + pred (length r) ≤ max_operations
    row_room = omega (arith, plain_next rows i h, b.few)

    pub row_below : EachRow (EachTerm (Below (n + length made))) rows → EachTerm (Below (n + length os)) r
    row_below all = each_below (n + length made) (n + length os) r (omega (arith, b.grown))
        (each_row (EachTerm (Below (n + length made))) rows all r (member_at rows i [] h))

    depths_with_row : depths_of n (os ++ sum.operations) ≡ depths ds sum.operations
    depths_with_row = depths-append (replicate n 0) os sum.operations

    operations-after : (os ++ sum.operations) ++ sum_operations order_of_operands (depths_of n (os ++ sum.operations)) others
        ≡ os ++ sum_operations order_of_operands ds (drop i rows)
    operations-after =
        ap (λ (es : List ℕ). (os ++ sum.operations) ++ sum_operations order_of_operands es others) depths_with_row
        ∙ append_assoc os sum.operations (sum_operations order_of_operands (depths ds sum.operations) others)
        ∙ ap (λ (l : List Operation). os ++ l) (operations-cons ds r others)
        ∙ ap (λ (l : List Row). os ++ sum_operations order_of_operands ds l) (sym (drop-cons rows i [] h))

    outputs-after : (outputs ++ (sum.output ∷ [])) ++ sum_outputs order_of_operands (depths_of n (os ++ sum.operations)) others
        ≡ outputs ++ sum_outputs order_of_operands ds (drop i rows)
    outputs-after =
        ap (λ (es : List ℕ). (outputs ++ (sum.output ∷ [])) ++ sum_outputs order_of_operands es others) depths_with_row
        ∙ append_assoc outputs (sum.output ∷ []) (sum_outputs order_of_operands (depths ds sum.operations) others)
        ∙ ap (λ (l : List Output). outputs ++ l) (outputs-cons ds r others)
        ∙ ap (λ (l : List Row). outputs ++ sum_outputs order_of_operands ds l) (sym (drop-cons rows i [] h))

    pub before_next_row : (after : List Operation) (outputs_now : List Output) (table_now : List ℕ) → after ≡ os ++ sum.operations
        → outputs_now ≡ outputs ++ (sum.output ∷ []) → HoldsDepths n after table_now → BeforeRow n made rows (suc i) after outputs_now table_now
    before_next_row after outputs_now table_now a o H =
        let l : length after ≡ length os + pred (length r) = ap length a ∙ length-append os sum.operations ∙ ap (λ (k : ℕ). length os + k) (sum-length order_of_operands ds r) in
        record {
          depths-held = H;
          grown = omega (arith, l, b.grown);
          few = omega (arith, l, plain_next rows i h, b.few);
          counted = ap length o ∙ length-append outputs (sum.output ∷ []) ∙ omega (arith, b.counted);
          operations-rest = ap (λ (l : List Operation). l ++ sum_operations order_of_operands (depths_of n l) others) a ∙ operations-after ∙ b.operations-rest;
          outputs-rest =
              ap₂ (λ (l : List Output) (k : List Operation). l ++ sum_outputs order_of_operands (depths_of n k) others) o a ∙ outputs-after ∙ b.outputs-rest;
        }
