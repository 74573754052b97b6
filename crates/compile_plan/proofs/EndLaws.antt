-- Document 01, "Elimination": at most so many steps of elimination, one at a time.
-- Assumes nothing.
use Prim.Native.Nat.{ℕ, zero, suc, ◌+◌, ◌*◌, ◌≤◌, ◌<◌}
use mathlib.Core.Path.{◌≡◌, refl, sym, ap, ap₂, ◌∙◌}
use mathlib.Core.List.{List, [], ◌∷◌, ◌++◌, map, append_assoc, append-nil, map-append}
use native.Mathlib.Omega.{arith}
use lib.ListN.{length, get_or, set, replicate, length-append, length-map}
use Rattle.limits.specs.Limits.{max_columns, positions, max_operations, term_symbols, max_symbols}
use Rattle.elimination_rules.specs.declared.Divisor.{Divisor}
use Rattle.elimination_rules.specs.Rows.{Row, plain_count}
use Rattle.elimination_rules.specs.Divisors.{score}
use Rattle.elimination_rules.specs.Lookup.{Proper}
use Rattle.elimination_rules.specs.Elimination.{TieOrder, symbol_depths, shallower, shallowest_first, Scored, no_pairs, pick, rows_after, Eliminated, ended, eliminate}
use Rattle.elimination_rules.specs.Rank.{lower_rank}
use Rattle.kept_rules.specs.Kept.{Kept, best_entry}
use Rattle.kept_rules.proofs.TablePick.{table-pick_by_rank}
use Rattle.elimination_rules.proofs.Order.{DivisorWithin, divisor-within}
use Rattle.elimination_rules.proofs.Counts.{plain-after}
use Rattle.elimination_rules.proofs.Pick.{pick-score}
use Rattle.elimination_rules.proofs.Rank.{pick_by_depths}
use Rattle.elimination_rules.proofs.PairScores.{scored-proper}
use Rattle.elimination_rules.proofs.End.{eliminate-ends, eliminate_goes_on}
use Rattle.elimination_rows.specs.State.{Ready}
use Rattle.elimination_rows.proofs.Ready.{ready_after}
use Rattle.layout_rules.specs.declared.Operation.{Operation}
use Rattle.board_rules.specs.Machine.{operation_depth, depths}
use Rattle.board_rules.specs.Table.{filled, HoldsDepths}
use Rattle.board_rules.proofs.TableLaws.{depths_started, depth_at, operands_fit, depths_appended}
use Rattle.sum_rules.specs.Joins.{divisor_operation}
use Rattle.compile_rules.proofs.Depths.{symbol-depths}

-- what was done and what was left to do, together
abbrev with_rest : List Divisor → ℕ → Eliminated → Eliminated
with_rest made k e = record { divisors = made ++ e.divisors; replacements = k + e.replacements; remaining_rows = e.remaining_rows }

module _ (order : TieOrder) where
  rest-start : (most n : ℕ) (rows : List Row) → with_rest [] 0 (eliminate order most n [] rows) ≡ eliminate order most n [] rows
  rest-start most n rows =
      let e : Eliminated = eliminate order most n [] rows in
      ap (λ (k : ℕ). record { divisors = e.divisors; replacements = k; remaining_rows = e.remaining_rows }) (omega arith)

  module _ (symbol : ℕ) (made : List Divisor) (k : ℕ) (rows : List Row) where
    abbrev best : Scored
    best = pick (order made) rows

    rest-none : record { divisors = made; replacements = k; remaining_rows = rows } ≡ with_rest made k (ended rows)
    rest-none =
        let none : k ≡ k + 0 = omega arith in
        ap₂ (λ (ds : List Divisor) (j : ℕ). record { divisors = ds; replacements = j; remaining_rows = rows }) (sym (append-nil made)) none

    -- no more steps are asked for
    rest_spent : record { divisors = made; replacements = k; remaining_rows = rows } ≡ with_rest made k (eliminate order zero symbol made rows)
    unfolding eliminate
    rest_spent = rest-none

    rest-ends : (left : ℕ) → best.score < 2 → record { divisors = made; replacements = k; remaining_rows = rows } ≡ with_rest made k (eliminate order left symbol made rows)
    rest-ends left h = rest-none ∙ ap (with_rest made k) (sym (eliminate-ends order symbol made rows left h))

    rest_goes_on : (left : ℕ) → 2 ≤ best.score
        → with_rest (made ++ (best.divisor ∷ [])) (k + best.score) (eliminate order left (suc symbol) (made ++ (best.divisor ∷ [])) (rows_after symbol best.divisor rows))
        ≡ with_rest made k (eliminate order (suc left) symbol made rows)
    rest_goes_on left h =
        let e : Eliminated = eliminate order left (suc symbol) (made ++ (best.divisor ∷ [])) (rows_after symbol best.divisor rows) in
        let sum : (k + best.score) + e.replacements ≡ k + (best.score + e.replacements) = omega arith in
        ap₂ (λ (ds : List Divisor) (j : ℕ). record { divisors = ds; replacements = j; remaining_rows = e.remaining_rows })
        (append_assoc made (best.divisor ∷ []) e.divisors) sum
        ∙ ap (with_rest made k) (sym (eliminate_goes_on order symbol made rows left h))

-- ---- before each step

-- the operations are those of the divisors made so far, the table holds their depths, and what is left to do, with so many steps, comes to
-- elimination's end
pub record BeforeStep (most n : ℕ) (first : List Row) (left symbol : ℕ) (operations : List Operation) (table : List ℕ) (k : ℕ) (rows : List Row) : Type 0 where
  pub made : List Divisor
  pub operations-made : operations ≡ map divisor_operation made
  pub depths-held : HoldsDepths n operations table
  pub ready : Ready symbol rows
  pub next_symbol : symbol ≡ n + length made
  pub few : 2 * length made + plain_count rows ≤ max_operations
  pub replaced : k + plain_count rows ≤ max_operations
  pub rest : with_rest made k (eliminate (shallowest_first n) left symbol made rows) ≡ eliminate (shallowest_first n) most n [] first

pub before-first : (most n : ℕ) (rows : List Row) (table : List ℕ) → Ready n rows → n ≤ max_columns → plain_count rows ≤ max_operations → table ≡ filled max_symbols 0
    → BeforeStep most n rows most n [] table 0 rows
before-first most n rows table ready columns few blank =
    record {
      made = [];
      operations-made = refl;
      depths-held = depths_started n table (omega arith) blank;
      ready = ready;
      next_symbol = omega arith;
      few = omega (arith, few);
      replaced = omega (arith, few);
      rest = rest-start (shallowest_first n) most n rows;
    }

module _ {most n : ℕ} {first : List Row} {left symbol : ℕ} {operations : List Operation} {table : List ℕ} {k : ℕ} {rows : List Row}
    (b : BeforeStep most n first left symbol operations table k rows) where
  pub length-made : length operations ≡ length b.made
  length-made = ap length b.operations-made ∙ length-map b.made divisor_operation

  -- the next symbol is at most one past those of terms
  pub symbols-few : n ≤ max_columns → symbol ≤ term_symbols
  symbols-few h = omega (arith, b.next_symbol, b.few)

  -- the best of the kept scores is the pick
  pub best_picked : n ≤ max_columns → (kept : List Scored) → Kept rows kept → (best : Scored) → best ≡ best_entry (lower_rank table) no_pairs kept → best ≡ pick (shallower table) rows
  best_picked h kept of best e =
      e ∙ table-pick_by_rank positions symbol (omega arith) (omega (arith, symbols-few h)) rows b.ready.well_formed kept of table

  pub spent_is : left ≡ 0 → record { divisors = b.made; replacements = k; remaining_rows = rows } ≡ eliminate (shallowest_first n) most n [] first
  spent_is z =
      rest_spent (shallowest_first n) symbol b.made k rows
      ∙ sym (ap (λ (j : ℕ). with_rest b.made k (eliminate (shallowest_first n) j symbol b.made rows)) z)
      ∙ b.rest

  -- the depths in the table are those of the divisors made so far
  pick_by_table : pick (shallower table) rows ≡ pick (shallowest_first n b.made) rows
  unfolding shallowest_first
  pick_by_table = pick_by_depths positions symbol rows b.ready.well_formed table (symbol_depths n b.made) (λ s h.
      depth_at n operations table b.depths-held s (omega (arith, length-made, b.next_symbol))
      ∙ ap (λ (os : List Operation). get_or (depths (replicate n 0) os) s 0) b.operations-made
      ∙ ap (λ (ds : List ℕ). get_or ds s 0) (sym (symbol-depths n b.made)))

  module _ (best : Scored) (found : best ≡ pick (shallower table) rows) where
    picked : best ≡ pick (shallowest_first n b.made) rows
    picked = found ∙ pick_by_table

    pub ended_is : best.score < 2 → record { divisors = b.made; replacements = k; remaining_rows = rows } ≡ eliminate (shallowest_first n) most n [] first
    ended_is h = rest-ends (shallowest_first n) symbol b.made k rows left (rw picked at h) ∙ b.rest

    module _ (h : 2 ≤ best.score) where
      -- its score is that of its divisor
      scores : best.score ≡ score best.divisor rows
      scores = rw picked (pick-score (shallowest_first n b.made) rows (rw picked at h))

      -- a step takes as many terms as its score
      pub plain_less : plain_count (rows_after symbol best.divisor rows) + best.score ≡ plain_count rows
      plain_less = omega (arith, scores, plain-after symbol best.divisor rows)

      pub next_within : n ≤ max_columns → symbol < term_symbols
      next_within l = omega (arith, plain_less, b.next_symbol, b.few)

      -- its symbols have come into being
      pub within : DivisorWithin positions symbol best.divisor
      within = divisor-within positions symbol best.divisor rows b.ready.well_formed (omega (arith, scores))

      pub earlier : ((divisor_operation best.divisor).a < symbol) × ((divisor_operation best.divisor).b < symbol)
      earlier = (within.a, within.b)

      pub depths-small : (get_or table best.divisor.a 0 < 65535) × (get_or table best.divisor.b 0 < 65535)
      depths-small =
          operands_fit n operations table b.depths-held (divisor_operation best.divisor)
          (omega (arith, length-made, b.next_symbol, within.a)) (omega (arith, length-made, b.next_symbol, within.b)) (omega (arith, length-made, b.few))

      -- its terms are in order
      pub proper : Proper best.divisor
      proper = scored-proper positions symbol best.divisor rows b.ready.well_formed (omega (arith, scores))

      pub before_next : n ≤ max_columns → (next : ℕ) → left ≡ suc next → (after : List Operation) → after ≡ operations ++ (divisor_operation best.divisor ∷ [])
          → BeforeStep most n first next (suc symbol) after (set table symbol (operation_depth table (divisor_operation best.divisor))) (k + best.score) (rows_after symbol best.divisor rows)
      before_next columns next one_less after a =
          let d : Divisor = best.divisor in
          let o : Operation = divisor_operation d in
          let l : length (b.made ++ (d ∷ [])) ≡ length b.made + 1 = length-append b.made (d ∷ []) in
          let at : symbol ≡ n + length operations = omega (arith, length-made, b.next_symbol) in
          record {
            made = b.made ++ (d ∷ []);
            operations-made = a ∙ ap (λ (os : List Operation). os ++ (o ∷ [])) b.operations-made ∙ sym (map-append divisor_operation b.made (d ∷ []));
            depths-held = rw (a, at) (depths_appended n operations table b.depths-held o (omega (arith, at, within.a)) (omega (arith, at, within.b)) (omega (arith, at, next_within columns)));
            ready = ready_after symbol d rows b.ready;
            next_symbol = omega (arith, l, b.next_symbol);
            few = omega (arith, l, plain_less, b.few);
            replaced = omega (arith, plain_less, b.replaced);
            rest =
                rw picked (rest_goes_on (shallowest_first n) symbol b.made k rows next (rw picked at h))
                ∙ sym (ap (λ (j : ℕ). with_rest b.made k (eliminate (shallowest_first n) j symbol b.made rows)) one_less)
                ∙ b.rest;
          }
