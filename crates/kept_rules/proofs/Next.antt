-- The table of the first rows is a table of those rows, and the table after a step is one of the rows after it. The divisors of its
-- entries are within the limits of the rows, and those that a step adds are counted anew.
-- Assumes nothing.
use Prim.Native.Nat.{ℕ, suc, ◌+◌, ◌≤◌, ◌<◌}
use mathlib.Core.Path.{◌≡◌, refl, sym, ◌∙◌, ap}
use mathlib.Core.Logic.{⊎_elim}
use mathlib.Core.Bool.{Bool, true}
use mathlib.Core.List.{List, ◌++◌, Memᴰ}
use native.Mathlib.Omega.{arith}
use lib.Dec.{leb}
use lib.ListN.{length}
use borrow.Author.Tests.{leb-true, leb-false}
use Rattle.elimination_rules.specs.declared.Divisor.{Divisor}
use Rattle.elimination_rules.specs.Rows.{Row, WellFormed, EachRow}
use Rattle.elimination_rules.specs.Divisors.{Pair, co_divisor, divisor_of, score}
use Rattle.elimination_rules.specs.Elimination.{Scored, rows_after}
use Rattle.elimination_rules.specs.Lookup.{Proper, sign_at, occurs_at, pair_at}
use Rattle.elimination_rules.proofs.Tests.{by_bool, by_test}
use Rattle.elimination_rules.proofs.RowOrder.{Occurrence, row_at}
use Rattle.elimination_rules.proofs.Order.{rows_well_formed_after, rows-after_member, length-rows-after, score_occurs, each_row, DivisorWithin, divisor-within}
use Rattle.elimination_rules.proofs.Pick.{all_pairs_lem}
use Rattle.elimination_rules.proofs.LookupSigns.{none-there, pair_occurs, occurs_second, occurrence_looked_up}
use Rattle.elimination_rules.proofs.PairScores.{scored-proper, pair-scores}
use Rattle.elimination_rules.proofs.SignsAfter.{occurs_before}
use Rattle.kept_rules.specs.Kept.{kept_score, Once, Kept, signs_in, counted_anew, refreshed_entry, refreshed, gained_table, first_table, next_table}
use Rattle.kept_rules.proofs.Gained.{gained-all, gained-only, gained-once}
use Rattle.kept_rules.proofs.Table.{kept_entry, entry_kept, entry_exact, entry_there}
use Rattle.kept_rules.proofs.First.{first_occurrence}
use Rattle.kept_rules.proofs.CountedAnew.{row_well_formed, unchanged_at, not-counted_at, same-score}
use Rattle.kept_rules.proofs.Refreshed.{refreshed_member, member_refreshed, refreshed-once, once-append}

-- ---- what makes a table one of rows

-- a table whose entries are exact, occur, stand once, and of which no occurring divisor is missing, is the table of the rows
kept_from : (rows : List Row) (table : List Scored) → ((s : Scored) → Memᴰ s table → (s.score ≡ score s.divisor rows) × (1 ≤ s.score)) → Once table
    → ((d : Divisor) → 1 ≤ score d rows → Memᴰ (record { divisor = d; score = score d rows }) table) → Kept rows table
kept_from rows table exact once there = record {
  scores = λ d. by_bool (leb 1 (score d rows))
      (λ e. kept_entry table once (record { divisor = d; score = score d rows }) (there d (leb-true 1 (score d rows) e)))
      (λ e. by_bool (leb 1 (kept_score table d))
      (λ f. (exact (record { divisor = d; score = kept_score table d }) (entry_kept table d (leb-true 1 (kept_score table d) f))).0)
      (λ f. omega (arith, leb-false 1 (score d rows) e, leb-false 1 (kept_score table d) f)));
  occurring = λ s m. (exact s m).1;
  once = once;
}

-- what the entries of a table of rows are
pub entries-within : (positions symbol : ℕ) (rows : List Row) → EachRow (WellFormed positions symbol) rows → (table : List Scored) → Kept rows table
    → (s : Scored) → Memᴰ s table → DivisorWithin positions symbol s.divisor × Proper s.divisor
entries-within positions symbol rows w table kept s m =
    let h : 1 ≤ score s.divisor rows = omega (arith, kept.occurring s m, entry_exact rows table kept s m) in
    (divisor-within positions symbol s.divisor rows w h, scored-proper positions symbol s.divisor rows w h)

-- ---- the table of the first rows

pub first-kept : (positions symbol : ℕ) (rows : List Row) → EachRow (WellFormed positions symbol) rows → Kept rows (first_table positions rows)
first-kept positions symbol rows w = kept_from rows (first_table positions rows)
    (λ s m. let h = gained-only positions symbol 0 rows w s m in (h.1, h.2))
    (gained-once positions symbol 0 rows w)
    (λ d h. gained-all positions symbol 0 rows w d h (omega arith))

-- ---- the table after a step

module _ (positions most symbol : ℕ) (d : Divisor) (proper : Proper d) (rows : List Row) (table : List Scored)
    (w : EachRow (WellFormed positions symbol) rows) (few : length rows ≤ most) (kept : Kept rows table) where
  abbrev next : List Row
  next = rows_after symbol d rows

  formed : EachRow (WellFormed positions (suc symbol)) next
  formed = rows_well_formed_after positions symbol d rows w

  -- a divisor without the new symbol that occurs after the step occurred before
  scored-before : (x : Divisor) → 1 ≤ score x next → x.b < symbol → 1 ≤ score x rows
  scored-before x h l =
      let p : Proper x = scored-proper positions (suc symbol) x next formed h in
      let a : x.a < symbol = ⊎_elim (λ k. omega arith) (λ k. omega arith) p.ordered in
      let o = score_occurs x next h in
      let u : WellFormed positions (suc symbol) o.0 = each_row (WellFormed positions (suc symbol)) next formed o.0 o.1 in
      let c : ℕ = co_divisor o.2.0 in
      let b = rows-after_member symbol d rows o.0 o.1 in
      let r : Row = b.0 in
      let v : WellFormed positions symbol r = each_row (WellFormed positions symbol) rows w r b.1 in
      let there : occurs_at (sign_at r) x c ≡ true = occurs_before positions symbol d proper r v x (λ e. omega arith) (λ e. omega arith) c
      (ap (λ z. occurs_at (sign_at z) x c) (sym b.2) ∙ (occurrence_looked_up positions x o.0 u.ascending u.exponents o.2.0 o.2.1).occurs) in
      let pair : Pair = pair_at (sign_at r) x c in
      let q : Occurrence x r pair = pair_occurs x p r v.ascending c there in
      let f : 1 ≤ score (divisor_of pair) rows = pair-scores positions symbol rows w pair (all_pairs_lem r rows b.1 pair q.pair) in
      rw q.divisor at f

  abbrev changed : Divisor → Bool
  changed = counted_anew positions most rows next

  abbrev scores : Divisor → ℕ
  scores x = score x next

  -- an entry has the score of the rows after the step: counted anew, or kept where nothing changed
  exact_next : (s : Scored) → Memᴰ s table → (refreshed_entry changed scores s).score ≡ score s.divisor next
  exact_next s m =
      by_test (changed s.divisor) (scores s.divisor) s.score (λ z. z ≡ score s.divisor next)
      (λ e. refl)
      (λ e. entry_exact rows table kept s m ∙ same-score positions most symbol (suc symbol) s.divisor rows next w formed few (omega (arith, few, length-rows-after symbol d rows)) e)

  -- so the table after the step is one of the rows after it: the old entries have no new symbol, and the gained ones have
  pub next_kept : Kept (rows_after symbol d rows) (next_table positions most symbol rows (rows_after symbol d rows) table)
  next_kept = kept_from next (refreshed changed scores table ++ gained_table positions symbol next)
      (λ s m. ⊎_elim
      (λ k.
      let x = refreshed_member changed scores table s k in
      (ap (λ z. z.score) x.2 ∙ exact_next x.0 x.1 ∙ ap (λ z. score z.divisor next) (sym x.2), x.3))
      (λ k. let x = gained-only positions (suc symbol) symbol next formed s k in (x.1, x.2))
      (mathlib.Core.List.Memᴰ.append_cases (refreshed changed scores table) m))
      (once-append (refreshed changed scores table) (gained_table positions symbol next) (refreshed-once changed scores table kept.once) (gained-once positions (suc symbol) symbol next formed)
      (λ s t m n e.
      let x = refreshed_member changed scores table s m in
      let old : x.0.divisor.b < symbol = (entries-within positions symbol rows w table kept x.0 x.1).0.b in
      let new : symbol ≤ t.divisor.b = (gained-only positions (suc symbol) symbol next formed t n).0 in
      let same : t.divisor.b ≡ x.0.divisor.b = ap (λ z. z.b) (sym e) ∙ ap (λ z. z.divisor.b) x.2 in
      omega arith))
      (λ x h. by_bool (leb symbol x.b)
      (λ e. mathlib.Core.List.Memᴰ.append_right (refreshed changed scores table) (gained-all positions (suc symbol) symbol next formed x h (leb-true symbol x.b e)))
      (λ e.
      let s : Scored = record { divisor = x; score = score x rows } in
      let m : Memᴰ s table = entry_there rows table kept x (scored-before x h (leb-false symbol x.b e)) in
      let same : score x next ≡ (refreshed_entry changed scores s).score = sym (exact_next s m) in
      mathlib.Core.List.Memᴰ.append_left (gained_table positions symbol next) (mathlib.Core.List.Memᴰ.cast (λ i. record { divisor = x; score = same i }) (member_refreshed changed scores table s m (omega (arith, same, h))))))

-- ---- what a step adds

-- every divisor that a step adds to the table is among those that it counts anew: the rows before it have no term of its symbol
pub gained-counted : (positions most symbol : ℕ) (d : Divisor) (rows : List Row) → EachRow (WellFormed positions symbol) rows → length rows ≤ most
    → (s : Scored) → Memᴰ s (gained_table positions symbol (rows_after symbol d rows)) → counted_anew positions most rows (rows_after symbol d rows) s.divisor ≡ true
unfolding counted_anew
gained-counted positions most symbol d rows w few s m =
    let after : List Row = rows_after symbol d rows in
    let formed = rows_well_formed_after positions symbol d rows w in
    let gain = gained-only positions (suc symbol) symbol after formed s m in
    let e : Divisor = s.divisor in
    let x = first_occurrence positions (suc symbol) after formed e (omega (arith, gain.1, gain.2)) in
    let i : ℕ = x.0.row in
    let c : ℕ = co_divisor x.0.pair in
    let row = row_well_formed positions (suc symbol) after formed i in
    let old = row_well_formed positions symbol rows w i in
    let seen = occurrence_looked_up positions e (row_at after i) row.ascending row.exponents x.0.pair x.1.occurrence in
    let none : sign_at (row_at rows i) e.b (e.eb + c) ≡ 0 = none-there (row_at rows i) e.b (e.eb + c) (λ t k same exponent. omega (arith, old.symbols t k, same, gain.0)) in
    by_bool (counted_anew positions most rows after e) (λ yes. yes)
    (λ no_change.
    let unchanged = unchanged_at (signs_in rows i) (signs_in after i) e positions
    (not-counted_at positions (signs_in rows) (signs_in after) e 0 most no_change i (omega arith) (omega (arith, x.1.there, length-rows-after symbol d rows))) c seen.below in
    absurd (occurs_second e.minus (sign_at (row_at rows i) e.a (e.ea + c)) (sign_at (row_at rows i) e.b (e.eb + c)) (unchanged ∙ seen.occurs) none))
