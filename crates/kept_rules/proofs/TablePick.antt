-- The pick from a table: the best entry of a table of rows is the pick, by any strict total order, and by ranks. And of functions that agree
-- on what they are asked of, the same entries.
-- Assumes nothing.
use Prim.Native.Nat.{ℕ, ◌≤◌, ◌<◌}
use mathlib.Core.Path.{◌≡◌, refl, sym, ◌∙◌, ap, ap₂}
use mathlib.Core.Logic.{◌⊎◌, inl, inr, ⊎_elim}
use mathlib.Core.Bool.{Bool, true, false, ◌&&◌, ◌||◌}
use mathlib.Core.List.Memᴰ
use mathlib.Core.List.{List, [], ◌∷◌, Memᴰ}
use native.Mathlib.Omega.{arith}
use lib.Dec.{eqb, ltb}
use borrow.Author.Tests.{eq-eqb, lt-ltb}
use Rattle.elimination_rules.specs.declared.Divisor.{Divisor}
use Rattle.elimination_rules.specs.Rows.{Row, WellFormed, EachRow}
use Rattle.elimination_rules.specs.Divisors.{Pair, divisor_of, score}
use Rattle.elimination_rules.specs.Visit.{InRow}
use Rattle.elimination_rules.specs.Elimination.{shallower, Scored, better, all_pairs, no_pairs, pick}
use Rattle.elimination_rules.specs.Rank.{symbol_room, exponent_room, lower_rank}
use Rattle.elimination_rules.proofs.Tests.{by_bool, clash, and_both, or_left, or_right}
use Rattle.elimination_rules.proofs.Order.{DivisorWithin, divisor-within}
use Rattle.elimination_rules.proofs.Pick.{better_yes, pick_is}
use Rattle.elimination_rules.proofs.Ties.{StrictTotal, pick-only, shallower-order}
use Rattle.elimination_rules.proofs.PairScores.{pair-scores}
use Rattle.elimination_rules.proofs.Rank.{rank_order}
use Rattle.kept_rules.specs.Kept.{Kept, best_entry, refreshed_entry, refreshed, gained}
use Rattle.kept_rules.proofs.Table.{entry_exact, entry_there, entry_pair}

-- ---- functions that agree

module _ (changed others : Divisor → Bool) (scores counts : Divisor → ℕ) where
  -- on a table's divisors
  pub refreshed_agree : (table : List Scored)
      → ((s : Scored) → Memᴰ s table → (changed s.divisor ≡ others s.divisor) × (scores s.divisor ≡ counts s.divisor))
      → refreshed changed scores table ≡ refreshed others counts table
  unfolding refreshed
  refreshed_agree [] h = refl
  refreshed_agree (s ∷ table) h =
      let e = h s (Memᴰ.head refl) in
      let same : refreshed_entry changed scores s ≡ refreshed_entry others counts s =
      ap₂ (λ (b : Bool) (n : ℕ). record { divisor = s.divisor; score = elim b [ true ↦ n | false ↦ s.score ] }) e.0 e.1 in
      ap₂ {C = List Scored} (λ t rest. elim (eqb t.score 0) [ true ↦ rest | false ↦ t ∷ rest ]) same (refreshed_agree table (λ t m. h t (Memᴰ.tail m)))

module _ (first others : InRow → Bool) (scores counts : Divisor → ℕ) where
  -- on the visited pairs
  pub gained_agree : (xs : List InRow) → ((x : InRow) → Memᴰ x xs → (first x ≡ others x) × (scores (divisor_of x.pair) ≡ counts (divisor_of x.pair)))
      → gained first scores xs ≡ gained others counts xs
  unfolding gained
  gained_agree [] h = refl
  gained_agree (x ∷ xs) h =
      let e = h x (Memᴰ.head refl) in
      let d : Divisor = divisor_of x.pair in
      let rest : gained first scores xs ≡ gained others counts xs = gained_agree xs (λ y m. h y (Memᴰ.tail m)) in
      ap₂ {C = List Scored} (λ (b : Bool) (n : ℕ). elim b [ true ↦ record { divisor = d; score = n } ∷ gained first scores xs | false ↦ gained first scores xs ]) e.0 e.1
      ∙ ap {B = List Scored} (λ z. elim (others x) [ true ↦ record { divisor = d; score = counts d } ∷ z | false ↦ z ]) rest

-- ---- the best of a table

module _ (first : Divisor → Divisor → Bool) where
  pub best_yes : (s t : Scored) (table : List Scored) → better first t s ≡ true → best_entry first s (t ∷ table) ≡ best_entry first t table
  unfolding best_entry
  best_yes s t table e = rw (e, best_entry)

  pub best_no : (s t : Scored) (table : List Scored) → better first t s ≡ false → best_entry first s (t ∷ table) ≡ best_entry first s table
  unfolding best_entry
  best_no s t table e = rw (e, best_entry)

  pub best_none : (s : Scored) → best_entry first s [] ≡ s
  unfolding best_entry
  best_none s = refl

  yes_better : (s t : Scored) → (t.score < s.score) ⊎ ((s.score ≡ t.score) × (first s.divisor t.divisor ≡ true)) → better first s t ≡ true
  yes_better s t (inl h) = or_left (ltb t.score s.score) (eqb s.score t.score && first s.divisor t.divisor) (lt-ltb t.score s.score h)
  yes_better s t (inr h) = or_right (ltb t.score s.score) (eqb s.score t.score && first s.divisor t.divisor)
      (and_both (eqb s.score t.score) (first s.divisor t.divisor) (eq-eqb s.score t.score h.0) h.1)

  -- any entry is better than no pair
  better_than_none : (s : Scored) → 1 ≤ s.score → better first s no_pairs ≡ true
  unfolding no_pairs
  better_than_none s h = yes_better s no_pairs (inl h)

  -- an entry that is better than every other one is the best, by a strict order
  module _ (order : StrictTotal first) (best : Scored) where
    abbrev Behind : Scored → Type 0
    Behind t = (t ≡ best) ⊎ (better first best t ≡ true)

    never_better : (t : Scored) → Behind t → better first t best ≡ false
    never_better t h = by_bool (better first t best)
        (λ e. let b = better_yes first t best e in absurd (⊎_elim (not_itself b) (λ f. not-both b (better_yes first best t f)) h))
        (λ e. e)
      where
        not_itself : (best.score < t.score) ⊎ ((t.score ≡ best.score) × (first t.divisor best.divisor ≡ true)) → t ≡ best → ⊥
        not_itself (inl l) w = omega (arith, ap (λ x. x.score) w)
        not_itself (inr l) w = clash (ap (λ x. first x.divisor best.divisor) (sym w) ∙ l.1) (order.irreflexive best.divisor)

        not-both : (best.score < t.score) ⊎ ((t.score ≡ best.score) × (first t.divisor best.divisor ≡ true))
            → (t.score < best.score) ⊎ ((best.score ≡ t.score) × (first best.divisor t.divisor ≡ true)) → ⊥
        not-both (inl l) (inl m) = omega arith
        not-both (inl l) (inr m) = omega arith
        not-both (inr l) (inl m) = omega arith
        not-both (inr l) (inr m) = clash (order.transitive best.divisor t.divisor best.divisor m.1 l.1) (order.irreflexive best.divisor)

    best_stays : (table : List Scored) → ((t : Scored) → Memᴰ t table → Behind t) → best_entry first best table ≡ best
    best_stays [] h = best_none best
    best_stays (t ∷ table) h = best_no best t table (never_better t (h t (Memᴰ.head refl))) ∙ best_stays table (λ u m. h u (Memᴰ.tail m))

    best_reached : (s : Scored) (table : List Scored) → better first best s ≡ true → ((t : Scored) → Memᴰ t table → Behind t) → Memᴰ best table
        → best_entry first s table ≡ best
    best_reached s [] e h m = absurd (Memᴰ.not-nil m)
    best_reached s (t ∷ table) e h m = ⊎_elim
        (λ w. here (sym w))
        (λ k. ⊎_elim here (λ f. by_bool (better first t s)
        (λ b. best_yes s t table b ∙ best_reached t table f rest k)
        (λ b. best_no s t table b ∙ best_reached s table e rest k))
        (h t (Memᴰ.head refl)))
        (Memᴰ.cases_cons m)
      where
        rest : (u : Scored) → Memᴰ u table → Behind u
        rest u k = h u (Memᴰ.tail k)

        here : t ≡ best → best_entry first s (t ∷ table) ≡ best
        here w = best_yes s t table (rw w e) ∙ ap (λ x. best_entry first x table) w ∙ best_stays table rest

-- ---- the best entry of a table of rows is the pick

module _ (positions symbol : ℕ) (first : Divisor → Divisor → Bool) (order : StrictTotal first) (rows : List Row)
    (well_formed : EachRow (WellFormed positions symbol) rows) (table : List Scored) (kept : Kept rows table) where
  no_entry : all_pairs rows ≡ [] → (rest : List Scored) → table ≡ rest → best_entry first no_pairs rest ≡ no_pairs
  no_entry e [] f = best_none first no_pairs
  no_entry e (s ∷ rest) f = let x = entry_pair rows table kept s (rw f (Memᴰ.head refl)) in absurd (Memᴰ.not-nil (rw e at x.1))

  behind-pick : (pick first rows).score ≡ score (pick first rows).divisor rows → (s : Scored) → Memᴰ s table → Behind first order (pick first rows) s
  behind-pick own s m =
      let exact : s.score ≡ score s.divisor rows = entry_exact rows table kept s m in
      ⊎_elim
      (λ e. let same : s.score ≡ (pick first rows).score = exact ∙ ap (λ d. score d rows) e ∙ sym own in inl (λ i. record { divisor = e i; score = same i }))
      (λ h. inr (yes_better first (pick first rows) s (⊎_elim (λ l. inl (omega (arith, exact))) (λ l. inr (sym l.0 ∙ sym exact, l.1)) h)))
      (pick-only first order rows s.divisor (omega (arith, kept.occurring s m, exact)))

  pub table-pick : best_entry first no_pairs table ≡ pick first rows
  table-pick = ⊎_elim
      (λ e. no_entry e.0 table refl ∙ sym e.1)
      (λ e.
      let p : Pair = e.0 in
      let one : 1 ≤ score (divisor_of p) rows = pair-scores positions symbol rows well_formed p e.1 in
      let own : (pick first rows).score ≡ score (divisor_of p) rows = ap (λ x. x.score) e.2 in
      best_reached first order (pick first rows) no_pairs table (better_than_none first (pick first rows) (omega (arith, one, own)))
      (behind-pick (own ∙ ap (λ x. score x.divisor rows) (sym e.2)))
      (rw e.2 (entry_there rows table kept (divisor_of p) one)))
      (pick_is first rows)

-- ---- by ranks, on divisors within the limits

-- orders that agree on some divisors, among them those of a table
module _ (first second : Divisor → Divisor → Bool) (Among : Divisor → Type 0) (agree : (d e : Divisor) → Among d → Among e → first d e ≡ second d e) where
  best_agrees : (s : Scored) (table : List Scored) → Among s.divisor → ((t : Scored) → Memᴰ t table → Among t.divisor)
      → best_entry first s table ≡ best_entry second s table
  best_agrees s [] a h = best_none first s ∙ sym (best_none second s)
  best_agrees s (t ∷ table) a h =
      let b : Among t.divisor = h t (Memᴰ.head refl) in
      let rest : (u : Scored) → Memᴰ u table → Among u.divisor = λ u m. h u (Memᴰ.tail m) in
      let same : better first t s ≡ better second t s = ap (λ z. ltb s.score t.score || (eqb t.score s.score && z)) (agree t.divisor s.divisor b a) in
      by_bool (better first t s)
      (λ e. best_yes first s t table e ∙ best_agrees t table b rest ∙ sym (best_yes second s t table (sym same ∙ e)))
      (λ e. best_no first s t table e ∙ best_agrees s table a rest ∙ sym (best_no second s t table (sym same ∙ e)))

  best_agrees_from-none : (table : List Scored) → ((t : Scored) → Memᴰ t table → Among t.divisor) → ((t : Scored) → Memᴰ t table → 1 ≤ t.score)
      → best_entry first no_pairs table ≡ best_entry second no_pairs table
  best_agrees_from-none [] h k = best_none first no_pairs ∙ sym (best_none second no_pairs)
  best_agrees_from-none (t ∷ table) h k =
      let one : 1 ≤ t.score = k t (Memᴰ.head refl) in
      best_yes first no_pairs t table (better_than_none first t one)
      ∙ best_agrees t table (h t (Memᴰ.head refl)) (λ u m. h u (Memᴰ.tail m))
      ∙ sym (best_yes second no_pairs t table (better_than_none second t one))

pub table-pick_by_rank : (positions symbol : ℕ) → positions ≤ exponent_room → symbol ≤ symbol_room → (rows : List Row) → EachRow (WellFormed positions symbol) rows
    → (table : List Scored) → Kept rows table → (depths : List ℕ) → best_entry (lower_rank depths) no_pairs table ≡ pick (shallower depths) rows
table-pick_by_rank positions symbol enough_positions enough_symbols rows well_formed table kept depths =
    best_agrees_from-none (lower_rank depths) (shallower depths) (DivisorWithin positions symbol)
    (λ d e u v. rank_order positions symbol enough_positions enough_symbols d e u v depths)
    table
    (λ s m. divisor-within positions symbol s.divisor rows well_formed (omega (arith, kept.occurring s m, entry_exact rows table kept s m)))
    kept.occurring
    ∙ table-pick positions symbol (shallower depths) (shallower-order depths) rows well_formed table kept
