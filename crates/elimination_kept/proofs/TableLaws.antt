-- The entries of a table that is held in two arrays: each of them, those from one on, and one more.
-- Assumes nothing.
use Prim.Native.Nat.{ℕ, zero, suc, ◌+◌, ◌≤◌, ◌<◌}
use mathlib.Core.Path.{◌≡◌, refl, sym, ap, ◌∙◌}
use mathlib.Core.List.{List, [], ◌∷◌, ◌++◌, Memᴰ}
use native.Mathlib.Omega.{arith}
use lib.ListN.{length, get_or, take, drop, set, length-set}
use lib.Seq.{length-take-le, get_or-take}
use Rattle.limits.specs.Limits.{max_pairs}
use Rattle.elimination_rules.specs.Elimination.{Scored}
use Rattle.std.proofs.lemmas.List.{take_more_set}
use Rattle.elimination_rows.proofs.Members.{left_next, left_none}
use Rattle.elimination_kept.specs.Table.{entry_of, entries_of, table_of, Room}

entries-length : (keys scores : List ℕ) → length keys ≡ length scores → length (entries_of keys scores) ≡ length keys
unfolding entries_of
entries-length [] scores h = refl
entries-length (k ∷ keys) [] h = absurd (omega (arith, h))
entries-length (k ∷ keys) (s ∷ scores) h = ap suc (entries-length keys scores (omega (arith, h)))

entries-append : (keys others scores counts : List ℕ) → length keys ≡ length scores → entries_of (keys ++ others) (scores ++ counts) ≡ entries_of keys scores ++ entries_of others counts
unfolding entries_of
entries-append [] others [] counts h = refl
entries-append [] others (s ∷ scores) counts h = absurd (omega (arith, h))
entries-append (k ∷ keys) others [] counts h = absurd (omega (arith, h))
entries-append (k ∷ keys) others (s ∷ scores) counts h = ap (λ (t : List Scored). entry_of k s ∷ t) (entries-append keys others scores counts (omega (arith, h)))

entries-one : (key score : ℕ) → entries_of (key ∷ []) (score ∷ []) ≡ entry_of key score ∷ []
unfolding entries_of
entries-one key score = refl

entries-cons : (key score : ℕ) (keys scores : List ℕ) → entries_of (key ∷ keys) (score ∷ scores) ≡ entry_of key score ∷ entries_of keys scores
unfolding entries_of
entries-cons key score keys scores = refl

entries_none : (scores : List ℕ) → entries_of [] scores ≡ []
unfolding entries_of
entries_none scores = refl

-- the entries from one on
abbrev pub table_from : List ℕ → List ℕ → ℕ → ℕ → List Scored
table_from keys scores i kept = entries_of (drop i (take kept keys)) (drop i (take kept scores))

module _ (keys scores : List ℕ) (kept : ℕ) (room : Room keys scores kept) where
  keys_used : length (take kept keys) ≡ kept
  keys_used = length-take-le kept keys (omega (arith, room.keys-room, room.within))

  scores_used : length (take kept scores) ≡ kept
  scores_used = length-take-le kept scores (omega (arith, room.scores-room, room.within))

  pub table-length : length (table_of keys scores kept) ≡ kept
  table-length = entries-length (take kept keys) (take kept scores) (keys_used ∙ sym scores_used) ∙ keys_used

  pub table_next : (i : ℕ) → i < kept → table_from keys scores i kept ≡ entry_of (get_or keys i 0) (get_or scores i 0) ∷ table_from keys scores (i + 1) kept
  table_next i h =
      rw (left_next (take kept keys) i 0 (omega (arith, keys_used)), left_next (take kept scores) i 0 (omega (arith, scores_used)), get_or-take kept keys i 0 h, get_or-take kept scores i 0 h)
      (entries-cons (get_or keys i 0) (get_or scores i 0) (drop (i + 1) (take kept keys)) (drop (i + 1) (take kept scores)))

  pub table-end : (i : ℕ) → kept ≤ i → table_from keys scores i kept ≡ []
  table-end i h = rw (left_none (take kept keys) i (omega (arith, keys_used))) (entries_none (drop i (take kept scores)))

  -- one entry more
  pub table_more : (key score : ℕ) → kept < max_pairs → table_of (set keys kept key) (set scores kept score) (kept + 1) ≡ table_of keys scores kept ++ (entry_of key score ∷ [])
  table_more key score h =
      rw (take_more_set keys kept key (omega (arith, room.keys-room, h)), take_more_set scores kept score (omega (arith, room.scores-room, h)))
      (entries-append (take kept keys) (key ∷ []) (take kept scores) (score ∷ []) (keys_used ∙ sym scores_used)
      ∙ ap (λ (t : List Scored). table_of keys scores kept ++ t) (entries-one key score))

  -- and room for it
  pub room_more : (key score : ℕ) → kept < max_pairs → Room (set keys kept key) (set scores kept score) (kept + 1)
  room_more key score h =
      record {
        keys-room = length-set keys kept key ∙ room.keys-room;
        scores-room = length-set scores kept score ∙ room.scores-room;
        within = omega arith;
      }

entry_in : (keys scores : List ℕ) (i : ℕ) → i < length keys → length keys ≡ length scores → Memᴰ (entry_of (get_or keys i 0) (get_or scores i 0)) (entries_of keys scores)
unfolding entries_of
entry_in [] scores i h e = absurd (omega arith)
entry_in (k ∷ keys) [] i h e = absurd (omega (arith, e))
entry_in (k ∷ keys) (s ∷ scores) zero h e = Memᴰ.head refl
entry_in (k ∷ keys) (s ∷ scores) (suc i) h e = Memᴰ.tail (entry_in keys scores i (omega arith) (omega (arith, e)))

-- each entry in use
pub table_member : (keys scores : List ℕ) (kept : ℕ) → Room keys scores kept → (i : ℕ) → i < kept → Memᴰ (entry_of (get_or keys i 0) (get_or scores i 0)) (table_of keys scores kept)
table_member keys scores kept room i h =
    rw (sym (get_or-take kept keys i 0 h), sym (get_or-take kept scores i 0 h))
    (entry_in (take kept keys) (take kept scores) i (omega (arith, keys_used keys scores kept room)) (keys_used keys scores kept room ∙ sym (scores_used keys scores kept room)))
