-- Document 01, "Row sums", rows one after another: no way of joining the rows' terms gives a row, or all of them, a smaller depth.
-- Assumes nothing.
use Prim.Native.Nat.{ℕ, zero, suc, ◌+◌, ◌^◌, ◌≤◌, ◌<◌}
use mathlib.Core.Path.{◌≡◌, refl, sym, ap, ◌∙◌, subst}
use mathlib.Core.List.{List, [], ◌∷◌, ◌++◌}
use native.Mathlib.Omega.{arith}
use lib.ListN.{length, get_or}
use lib.Pow.{pow_mono}
use Rattle.layout_rules.specs.declared.Operation.{Operation}
use Rattle.layout_rules.specs.declared.Output.{Output}
use Rattle.board_rules.specs.Machine.{operation_depth, depths, largest}
use Rattle.board_rules.proofs.DepthLaws.{depths-append, depths_keep, length-depths, largest_snoc, largest_at}
use Rattle.elimination_rules.specs.Rows.{Row, EachRow}
use Rattle.sum_rules.specs.Joins.{join_operation, zero_output}
use Rattle.sum_rules.specs.Sums.{Summed, nothing, last, join, SummedRows, end, first-row}
use Rattle.sum_rules.specs.Shallowest.{OperandOrder, depths_with, row_in_order, joins_of, sum_of, sum_operations, sum_outputs}
use Rattle.sum_rules.specs.SumDepth.{output_depth, sum_depth, power_sum, HasDepth, EachTerm}
use Rattle.sum_rules.proofs.Sums.{length_permuted, each_permuted, each_term}
use Rattle.sum_rules.proofs.RowSums.{length_with, sum_summed}
use Rattle.sum_rules.proofs.Powers.{exponents_in_order, powers_permuted, powers_same}
use Rattle.sum_rules.proofs.RowDepth.{after_have_depth, after_powers, summed_depth, empty-depth, sum-depth-least}

-- ---- the largest depth

largest_grows : (ds : List ℕ) (os : List Operation) → largest ds ≤ largest (depths ds os)
unfolding depths
largest_grows ds [] = omega arith
largest_grows ds (o ∷ os) = omega (arith, largest_snoc ds (operation_depth ds o), largest_grows (depths_with ds o) os)

-- no operation of a row's sum is deeper than the output
largest-of-row : {next : ℕ} {r : Row} {os : List Operation} {o : Output} → Summed next r os o → (ds : List ℕ) → length ds ≡ next → EachTerm (HasDepth ds) r
    → (D : ℕ) → largest ds ≤ D → output_depth ds os o ≤ D → largest (depths ds os) ≤ D
unfolding depths
largest-of-row nothing ds e h D l m = l
largest-of-row (last t) ds e h D l m = l
largest-of-row {next} (join {after = after} t u others p q s) ds e h D l m =
    let o : Operation = join_operation t u in
    let with_o : List ℕ = depths_with ds o in
    let known : EachTerm (HasDepth ds) others = (each_permuted (HasDepth ds) p h).1.1 in
    let k : EachTerm (HasDepth with_o) after = each_permuted (HasDepth with_o) q (after_have_depth ds o next t others e known) in
    let longer : length with_o ≡ suc next = length_with ds o ∙ ap suc e in
    let within : 2 ^ operation_depth ds o ≤ 2 ^ D = omega (
      arith,
      after_powers ds o next t others e known,
      powers_permuted with_o q,
      summed_depth s with_o longer k (omega (arith, length_permuted q)),
      pow_mono m,
    ) in
    largest-of-row s with_o longer k D (omega (arith, largest_snoc ds (operation_depth ds o), exponents_in_order (operation_depth ds o) D within)) m

-- ---- rows, whose symbols have depths that stay

record Extends (base ds : List ℕ) : Type 0 where
  longer : length base ≤ length ds
  same : (symbol : ℕ) → symbol < length base → get_or ds symbol 0 ≡ get_or base symbol 0

extends_more : (base ds : List ℕ) (os : List Operation) → Extends base ds → Extends base (depths ds os)
extends_more base ds os x = record {
  longer = omega (arith, length-depths ds os, x.longer);
  same = λ symbol k. depths_keep ds os symbol (omega (arith, x.longer)) ∙ x.same symbol k;
}

module _ (base : List ℕ) where
  abbrev Known : List Row → Type 0
  Known rows = EachRow (EachTerm (HasDepth base)) rows

  abbrev Within : ℕ → List Row → Type 0
  Within D rows = EachRow (λ r. power_sum base r ≤ 2 ^ D) rows

  known_in : (ds : List ℕ) (r : Row) → Extends base ds → EachTerm (HasDepth base) r → EachTerm (HasDepth ds) r
  known_in ds r x h = each_term (HasDepth base) (HasDepth ds) (λ t k. omega (arith, x.longer)) r h

  powers_in : (ds : List ℕ) (r : Row) → Extends base ds → EachTerm (HasDepth base) r → power_sum ds r ≡ power_sum base r
  powers_in ds r x h = powers_same base ds r (each_term (HasDepth base) _ (λ t k. x.same t.symbol k) r h)

  row_within : {next : ℕ} {os : List Operation} {o : Output} (ds : List ℕ) (r : Row) (D : ℕ) → length ds ≡ next → Extends base ds → EachTerm (HasDepth base) r
      → Summed next r os o → largest (depths ds os) ≤ D → power_sum base r ≤ 2 ^ D
  unfolding power_sum
  row_within ds [] D e x h s l = omega arith
  row_within {os = os} {o = o} ds (t ∷ r) D e x h s l =
      let deep : output_depth ds os o ≤ D = omega (arith, largest_at (depths ds os) o.symbol) in
      omega (arith, powers_in ds (t ∷ r) x h, summed_depth s ds e (known_in ds (t ∷ r) x h) (omega arith), pow_mono deep)

  -- whatever the order, each row's sum of powers is within 2^depth
  rows-within : {next : ℕ} {rows : List Row} {os : List Operation} {outputs : List Output} → SummedRows next rows os outputs
      → (ds : List ℕ) → length ds ≡ next → Extends base ds → Known rows → (D : ℕ) → largest (depths ds os) ≤ D → Within D rows
  rows-within end ds e x h D l = tt
  rows-within (first-row {r = r} {os = os} {others = others} s more) ds e x h D l =
      let both : largest (depths (depths ds os) others) ≤ D = subst (λ (es : List ℕ). largest es ≤ D) (depths-append ds os others) l in (
        row_within ds r D e x h.0 s (omega (arith, largest_grows (depths ds os) others)),
        rows-within more (depths ds os) (omega (arith, length-depths ds os)) (extends_more base ds os x) h.1 D both,
      )

  module _ (order : OperandOrder) where
    row-depth : (ds : List ℕ) (r : Row) (D : ℕ) → Extends base ds → EachTerm (HasDepth base) r → largest ds ≤ D → power_sum base r ≤ 2 ^ D
        → largest (depths ds (sum_of order ds r).operations) ≤ D
    unfolding sum_of joins_of row_in_order depths
    row-depth ds [] D x h l w = l
    row-depth ds (t ∷ r) D x h l w =
        let known : EachTerm (HasDepth ds) (t ∷ r) = known_in ds (t ∷ r) x h in
        largest-of-row (sum_summed order ds (t ∷ r)) ds refl known D l
        (sum-depth-least order ds (t ∷ r) D known (omega arith) (omega (arith, powers_in ds (t ∷ r) x h)))

    -- the shallowest order keeps within every depth that the rows' sums of powers allow
    rows-depth : (ds : List ℕ) (rows : List Row) (D : ℕ) → Extends base ds → Known rows → largest ds ≤ D → Within D rows
        → largest (depths ds (sum_operations order ds rows)) ≤ D
    unfolding sum_operations depths
    rows-depth ds [] D x h l w = l
    rows-depth ds (r ∷ rows) D x h l w =
        let os : List Operation = (sum_of order ds r).operations in
        subst (λ (es : List ℕ). largest es ≤ D) (sym (depths-append ds os (sum_operations order (depths ds os) rows)))
        (rows-depth (depths ds os) rows D (extends_more base ds os x) h.1 (row-depth ds r D x h.0 l w.0) w.1)

-- ---- each row, after all operations

-- an output's symbol has a depth once the row is summed
output_has_depth : {next : ℕ} {r : Row} {os : List Operation} {o : Output} → Summed next r os o → (ds : List ℕ) → length ds ≡ next → EachTerm (HasDepth ds) r
    → 0 < length ds → o.symbol < length (depths ds os)
unfolding depths
output_has_depth nothing ds e h some = some
output_has_depth (last t) ds e h some = h.0
output_has_depth {next} (join t u others p q s) ds e h some =
    let o : Operation = join_operation t u in
    output_has_depth s (depths_with ds o) (length_with ds o ∙ ap suc e)
    (each_permuted (HasDepth (depths_with ds o)) q (after_have_depth ds o next t others e (each_permuted (HasDepth ds) p h).1.1))
    (omega (arith, length_with ds o))

-- later operations leave it as it is
output-depth-kept : {next : ℕ} {r : Row} {os : List Operation} {o : Output} → Summed next r os o → (ds : List ℕ) (more : List Operation) → length ds ≡ next
    → EachTerm (HasDepth ds) r → 0 < length ds → output_depth ds (os ++ more) o ≡ output_depth ds os o
output-depth-kept {os = os} {o = o} s ds more e h some =
    ap (λ (es : List ℕ). get_or es o.symbol 0) (depths-append ds os more)
    ∙ depths_keep (depths ds os) more o.symbol (output_has_depth s ds e h some)

module _ (base : List ℕ) (some : 0 < length base) (order : OperandOrder) where
  row_shallowest : {next : ℕ} {os : List Operation} {o : Output} (ds es : List ℕ) (r : Row) → Extends base ds → Extends base es → length es ≡ next
      → EachTerm (HasDepth base) r → Summed next r os o → sum_depth order ds r ≤ output_depth es os o
  unfolding sum_of joins_of depths row_in_order
  row_shallowest ds es [] x y e h s = omega (arith, empty-depth es s refl, x.same 0 some, y.same 0 some)
  row_shallowest ds es (t ∷ r) x y e h s =
      sum-depth-least order ds (t ∷ r) _ (known_in base ds (t ∷ r) x h) (omega arith)
      (omega (arith, powers_in base ds (t ∷ r) x h, powers_in base es (t ∷ r) y h, summed_depth s es e (known_in base es (t ∷ r) y h) (omega arith)))

  rows_shallowest : {next : ℕ} {rows : List Row} {os : List Operation} {outputs : List Output} → SummedRows next rows os outputs
      → (ds es : List ℕ) → length es ≡ next → Extends base ds → Extends base es → EachRow (EachTerm (HasDepth base)) rows
      → (i : ℕ) → output_depth ds (sum_operations order ds rows) (get_or (sum_outputs order ds rows) i zero_output) ≤ output_depth es os (get_or outputs i zero_output)
  unfolding sum_operations sum_outputs depths
  rows_shallowest end ds es e x y h i = omega (arith, x.same 0 some, y.same 0 some)
  rows_shallowest (first-row {r = r} {rows = rows} {os = os} {others = others} s more) ds es e x y h zero =
      let known : EachTerm (HasDepth ds) r = known_in base ds r x h.0 in
      let first : List Operation = (sum_of order ds r).operations in
      omega (
        arith,
        output-depth-kept (sum_summed order ds r) ds (sum_operations order (depths ds first) rows) refl known (omega (arith, x.longer)),
        output-depth-kept s es others e (known_in base es r y h.0) (omega (arith, y.longer)),
        row_shallowest ds es r x y e h.0 s,
      )
  rows_shallowest (first-row {r = r} {rows = rows} {os = os} {others = others} {outputs = outputs} s more) ds es e x y h (suc i) =
      let first : List Operation = (sum_of order ds r).operations in
      let after : List ℕ = depths ds first in
      rw (depths-append ds first (sum_operations order after rows), depths-append es os others)
      (rows_shallowest more after (depths es os) (omega (arith, length-depths es os)) (extends_more base ds first x) (extends_more base es os y) h.1 i)

-- ---- of all rows joined in any order, whichever operand is first: each row's depth, and the largest depth of all

whole : (ds : List ℕ) → Extends ds ds
whole ds = record { longer = omega arith; same = λ symbol k. refl }

-- where there are rows, symbol 0, that of a zero output, has a depth
pub each-row_shallowest : (order : OperandOrder) (ds : List ℕ) (rows : List Row) {os : List Operation} {outputs : List Output}
    → (0 < length rows → 0 < length ds) → EachRow (EachTerm (HasDepth ds)) rows → SummedRows (length ds) rows os outputs
    → (i : ℕ) → output_depth ds (sum_operations order ds rows) (get_or (sum_outputs order ds rows) i zero_output) ≤ output_depth ds os (get_or outputs i zero_output)
unfolding sum_operations sum_outputs
each-row_shallowest order ds [] some h end i = omega arith
each-row_shallowest order ds (r ∷ rows) some h s i = rows_shallowest ds (some (omega arith)) order s ds ds refl (whole ds) (whole ds) h i

pub rows-largest : (order : OperandOrder) (ds : List ℕ) (rows : List Row) {os : List Operation} {outputs : List Output} → EachRow (EachTerm (HasDepth ds)) rows
    → SummedRows (length ds) rows os outputs → largest (depths ds (sum_operations order ds rows)) ≤ largest (depths ds os)
rows-largest order ds rows {os} h s =
    rows-depth ds order ds rows (largest (depths ds os)) (whole ds) h (largest_grows ds os)
    (rows-within ds s ds refl (whole ds) h (largest (depths ds os)) (omega arith))
