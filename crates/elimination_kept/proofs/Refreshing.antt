-- The entries after a step, worked over in place: what is kept so far stands at the front, what is left stands where it stood.
-- Assumes nothing.
use Prim.Native.Nat.{ℕ, zero, suc, ◌+◌, ◌≤◌, ◌<◌}
use mathlib.Core.Path.{◌≡◌, refl, sym, ap, ap₂, ◌∙◌}
use mathlib.Core.Bool.{Bool, true, false, ◌||◌}
use mathlib.Core.List.{List, [], ◌∷◌, ◌++◌, append_assoc, append-nil}
use native.Mathlib.Omega.{arith}
use borrow.Author.Tests.{eq-eqb, ne_eqb}
use lib.Dec.{eqb}
use lib.ListN.{get_or, set, length-set}
use lib.Seq.{take-set-le, get_or-set_other}
use Rattle.limits.specs.Limits.{max_rows, max_pairs}
use Rattle.elimination_rules.specs.declared.Divisor.{Divisor}
use Rattle.elimination_rules.specs.Elimination.{Scored}
use Rattle.elimination_rules.specs.Rank.{key_divisor}
use Rattle.elimination_rules.proofs.Tests.{by_test, clash, or_no_left, or_no_right}
use Rattle.kept_rules.specs.Kept.{refreshed_entry, refreshed}
use Rattle.elimination_masks.specs.Masks.{occurrences_in, masks_differ_from}
use Rattle.elimination_masks.specs.Columns.{columns_differ}
use Rattle.elimination_kept.specs.Table.{entry_of, entries_of, table_of, Room, Fits, AllFit, shares_symbol, SameBut}
use Rattle.elimination_kept.proofs.TableLaws.{table_from, table_next, table-end, table_more, room_more, table_member}

-- ---- an entry that shares no symbol with the step is as it was

differ-none : (d : Divisor) (x y : List ℕ) (i k : ℕ) → masks_differ_from d x y x y i k ≡ false
unfolding masks_differ_from
differ-none d x y i zero = refl
differ-none d x y i (suc k) = rw (eq-eqb (occurrences_in d x y i) (occurrences_in d x y i) refl) (differ-none d x y (suc i) k)

pub shares_none : (a b : ℕ) (columns after : List (List ℕ)) → SameBut a b columns after → (d : Divisor) → shares_symbol a b d ≡ false → columns_differ columns after d ≡ false
unfolding columns_differ
shares_none a b columns after same d none =
    let x : List ℕ = get_or after d.a [] in
    let y : List ℕ = get_or after d.b [] in
    let past : eqb d.a b || (eqb d.b a || eqb d.b b) ≡ false = or_no_right (eqb d.a a) _ none in
    let last : eqb d.b a || eqb d.b b ≡ false = or_no_right (eqb d.a b) _ past in
    let other : (s t : ℕ) → eqb s t ≡ false → s ≡ t → ⊥ = λ s t f e. clash (eq-eqb s t e) f in
    ap₂ (λ (u v : List ℕ). masks_differ_from d u v x y 0 max_rows)
    (same d.a (other d.a a (or_no_left (eqb d.a a) _ none)) (other d.a b (or_no_left (eqb d.a b) _ past)))
    (same d.b (other d.b a (or_no_left (eqb d.b a) _ last)) (other d.b b (or_no_right (eqb d.b a) _ last)))
    ∙ differ-none d x y 0 max_rows

-- ---- one entry after another

module _ (changed : Divisor → Bool) (counts : Divisor → ℕ) where
  pub score-anew : (s : Scored) → changed s.divisor ≡ true → counts s.divisor ≡ (refreshed_entry changed counts s).score
  score-anew s h = by_test (changed s.divisor) (counts s.divisor) s.score (λ (n : ℕ). counts s.divisor ≡ n) (λ _. refl) (λ f. clash h f)

  pub score-same : (s : Scored) → changed s.divisor ≡ false → s.score ≡ (refreshed_entry changed counts s).score
  score-same s h = by_test (changed s.divisor) (counts s.divisor) s.score (λ (n : ℕ). s.score ≡ n) (λ f. clash f h) (λ _. refl)

  pub refreshed-none : refreshed changed counts [] ≡ []
  unfolding refreshed
  refreshed-none = refl

  module _ (s : Scored) (table : List Scored) where
    refreshed_gone : (refreshed_entry changed counts s).score ≡ 0 → refreshed changed counts (s ∷ table) ≡ refreshed changed counts table
    unfolding refreshed
    refreshed_gone h =
        by_test (eqb (refreshed_entry changed counts s).score 0) (refreshed changed counts table) (refreshed_entry changed counts s ∷ refreshed changed counts table)
        (λ (t : List Scored). t ≡ refreshed changed counts table) (λ _. refl) (λ f. clash (eq-eqb (refreshed_entry changed counts s).score 0 h) f)

    refreshed_stays : ((refreshed_entry changed counts s).score ≡ 0 → ⊥) → refreshed changed counts (s ∷ table) ≡ refreshed_entry changed counts s ∷ refreshed changed counts table
    unfolding refreshed
    refreshed_stays h =
        by_test (eqb (refreshed_entry changed counts s).score 0) (refreshed changed counts table) (refreshed_entry changed counts s ∷ refreshed changed counts table)
        (λ (t : List Scored). t ≡ refreshed_entry changed counts s ∷ refreshed changed counts table) (λ f. clash f (ne_eqb (refreshed_entry changed counts s).score 0 h)) (λ _. refl)

  -- the first `left` entries are those kept of the first i; the others stand where they stood
  pub record Refreshing (keys scores : List ℕ) (kept : ℕ) (now_keys now_scores : List ℕ) (left i : ℕ) : Type 0 where
    pub room : Room now_keys now_scores left
    pub behind : left ≤ i
    pub within : i ≤ kept
    pub keys_left : (j : ℕ) → i ≤ j → get_or now_keys j 0 ≡ get_or keys j 0
    pub scores_left : (j : ℕ) → i ≤ j → get_or now_scores j 0 ≡ get_or scores j 0
    pub so_far : table_of now_keys now_scores left ++ refreshed changed counts (table_from keys scores i kept) ≡ refreshed changed counts (table_of keys scores kept)

  module _ (keys scores : List ℕ) (kept : ℕ) (start : Room keys scores kept) where
    pub refreshing_first : Refreshing keys scores kept keys scores 0 0
    unfolding entries_of
    refreshing_first =
        record {
          room = record { keys-room = start.keys-room; scores-room = start.scores-room; within = omega arith };
          behind = omega arith;
          within = omega arith;
          keys_left = λ j h. refl;
          scores_left = λ j h. refl;
          so_far = refl;
        }

    module _ (now_keys now_scores : List ℕ) (left i : ℕ) (so : Refreshing keys scores kept now_keys now_scores left i) where
      pub refreshing_end : kept ≤ i → table_of now_keys now_scores left ≡ refreshed changed counts (table_of keys scores kept)
      refreshing_end h =
          sym (append-nil (table_of now_keys now_scores left))
          ∙ sym (ap (λ (t : List Scored). table_of now_keys now_scores left ++ t) (ap (refreshed changed counts) (table-end keys scores kept start i h) ∙ refreshed-none))
          ∙ so.so_far

      -- the entry that comes next has columns
      pub next_fits : i < kept → AllFit (table_of keys scores kept) → Fits (key_divisor (get_or now_keys i 0))
      next_fits h all = rw (so.keys_left i (omega arith)) (all _ (table_member keys scores kept start i h))

      module _ (h : i < kept) (score : ℕ) (is : score ≡ (refreshed_entry changed counts (entry_of (get_or now_keys i 0) (get_or now_scores i 0))).score) where
        abbrev key : ℕ
        key = get_or now_keys i 0

        abbrev entry : Scored
        entry = entry_of key (get_or now_scores i 0)

        abbrev after_keys : List ℕ
        after_keys = set now_keys left key

        abbrev after_scores : List ℕ
        after_scores = set now_scores left score

        same_keys : (j : ℕ) → i + 1 ≤ j → get_or after_keys j 0 ≡ get_or keys j 0
        same_keys j l = get_or-set_other now_keys left j key 0 (omega (arith, so.behind)) ∙ so.keys_left j (omega arith)

        same-scores : (j : ℕ) → i + 1 ≤ j → get_or after_scores j 0 ≡ get_or scores j 0
        same-scores j l = get_or-set_other now_scores left j score 0 (omega (arith, so.behind)) ∙ so.scores_left j (omega arith)

        abbrev rest : List Scored
        rest = table_from keys scores (i + 1) kept

        next : refreshed changed counts (table_from keys scores i kept) ≡ refreshed changed counts (entry ∷ rest)
        next =
            ap (refreshed changed counts)
            (table_next keys scores kept start i h ∙ sym (ap₂ (λ (k n : ℕ). entry_of k n ∷ rest) (so.keys_left i (omega arith)) (so.scores_left i (omega arith))))

        pub refreshing_gone : score ≡ 0 → Refreshing keys scores kept after_keys after_scores left (i + 1)
        refreshing_gone z =
            record {
              room = record {
                keys-room = length-set now_keys left key ∙ so.room.keys-room;
                scores-room = length-set now_scores left score ∙ so.room.scores-room;
                within = so.room.within;
              };
              behind = omega (arith, so.behind);
              within = omega arith;
              keys_left = same_keys;
              scores_left = same-scores;
              so_far =
                  ap₂ (λ (ks ss : List ℕ). entries_of ks ss ++ refreshed changed counts rest) (take-set-le left now_keys left key (omega arith)) (take-set-le left now_scores left score (omega arith))
                  ∙ sym (ap (λ (t : List Scored). table_of now_keys now_scores left ++ t) (next ∙ refreshed_gone entry rest (sym is ∙ z)))
                  ∙ so.so_far;
            }

        pub refreshing_stays : (score ≡ 0 → ⊥) → Refreshing keys scores kept after_keys after_scores (left + 1) (i + 1)
        refreshing_stays z =
            let room : left < max_pairs = omega (arith, so.behind, start.within) in
            record {
              room = room_more now_keys now_scores left so.room key score room;
              behind = omega (arith, so.behind);
              within = omega arith;
              keys_left = same_keys;
              scores_left = same-scores;
              so_far =
                  ap (λ (t : List Scored). t ++ refreshed changed counts rest) (table_more now_keys now_scores left so.room key score room)
                  ∙ append_assoc (table_of now_keys now_scores left) (entry_of key score ∷ []) (refreshed changed counts rest)
                  ∙ ap (λ (n : ℕ). table_of now_keys now_scores left ++ (entry_of key n ∷ refreshed changed counts rest)) is
                  ∙ sym (ap (λ (t : List Scored). table_of now_keys now_scores left ++ t) (next ∙ refreshed_stays entry rest (λ e. z (is ∙ e))))
                  ∙ so.so_far;
            }
