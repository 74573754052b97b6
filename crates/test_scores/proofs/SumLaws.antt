-- The sums over a table of kept scores, one entry after the other, and how large a key times a score is.
-- Assumes nothing.
use Prim.Native.Nat.{ℕ, ◌+◌, ◌*◌, ◌≤◌, ◌<◌}
use mathlib.Core.Path.{◌≡◌, refl, sym, ap, ap₂, ◌∙◌}
use mathlib.Core.List.{List, [], ◌∷◌}
use native.Mathlib.Nat.{mul-le-mul}
use native.Mathlib.Numerals.{add-one}
use native.Mathlib.Omega.{arith}
use lib.ListN.{length, get_or, take}
use lib.Seq.{length-take-le}
use Rattle.elimination_rules.proofs.Rank.{divisor-key}
use Rattle.elimination_kept.specs.Table.{entries_of, table_of, Room}
use Rattle.elimination_kept.proofs.TableLaws.{table-length}
use Rattle.test_scores.specs.Sums.{keys_in, scores_in, score_sum, digest, largest_score, largest_product}

pub score-sum-none : (scores : List ℕ) → score_sum scores 0 ≡ 0
unfolding score_sum
score-sum-none scores = refl

pub score-sum_next : (scores : List ℕ) (i : ℕ) → score_sum scores (i + 1) ≡ score_sum scores i + get_or scores i 0
unfolding score_sum
score-sum_next scores i = ap (score_sum scores) (add-one i)

pub digest-none : (keys scores : List ℕ) → digest keys scores 0 ≡ 0
unfolding digest
digest-none keys scores = refl

pub digest_next : (keys scores : List ℕ) (i : ℕ) → digest keys scores (i + 1) ≡ digest keys scores i + get_or keys i 0 * get_or scores i 0
unfolding digest
digest_next keys scores i = ap (digest keys scores) (add-one i)

pub product_most : (key score : ℕ) → key < 4294967296 → score < 256 → key * score ≤ largest_product
product_most key score k s = mul-le-mul {n₂ = 4294967295} {m₂ = largest_score} (omega (arith, k)) (omega (arith, s))

-- ---- of the arrays that hold a table

entries-keys : (keys scores : List ℕ) → length keys ≡ length scores → keys_in (entries_of keys scores) ≡ keys
unfolding entries_of
entries-keys [] scores e = refl
entries-keys (k ∷ keys) [] e = absurd (omega (arith, e))
entries-keys (k ∷ keys) (s ∷ scores) e = ap₂ (λ (x : ℕ) (xs : List ℕ). x ∷ xs) (divisor-key k) (entries-keys keys scores (omega (arith, e)))

entries-scores : (keys scores : List ℕ) → length keys ≡ length scores → scores_in (entries_of keys scores) ≡ scores
unfolding entries_of
entries-scores [] [] e = refl
entries-scores [] (s ∷ scores) e = absurd (omega (arith, e))
entries-scores (k ∷ keys) [] e = absurd (omega (arith, e))
entries-scores (k ∷ keys) (s ∷ scores) e = ap (λ (xs : List ℕ). s ∷ xs) (entries-scores keys scores (omega (arith, e)))

module _ (keys scores : List ℕ) (count : ℕ) (room : Room keys scores count) where
  same-length : length (take count keys) ≡ length (take count scores)
  same-length = length-take-le count keys (omega (arith, room.keys-room, room.within)) ∙ sym (length-take-le count scores (omega (arith, room.scores-room, room.within)))

  pub table-scores : score_sum (take count scores) count ≡ score_sum (scores_in (table_of keys scores count)) (length (table_of keys scores count))
  table-scores = rw (entries-scores (take count keys) (take count scores) same-length, table-length keys scores count room)

  pub table-digest : digest (take count keys) (take count scores) count
      ≡ digest (keys_in (table_of keys scores count)) (scores_in (table_of keys scores count)) (length (table_of keys scores count))
  table-digest = rw (entries-keys (take count keys) (take count scores) same-length, entries-scores (take count keys) (take count scores) same-length, table-length keys scores count room)
