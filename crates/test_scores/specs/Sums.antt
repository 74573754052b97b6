-- What test_scores prints of a table of kept scores, from the keys of its entries and their scores.
-- Assumes nothing.
use Rattle.std.specs.Prelude.{ℕ, zero, suc, ◌+◌, ◌*◌, List, get_or, map}
use Rattle.elimination_rules.specs.Elimination.{Scored}
use Rattle.elimination_rules.specs.Rank.{divisor_key}

-- the keys and the scores of its entries
abbrev pub keys_in : List Scored → List ℕ
keys_in table = map (λ s. divisor_key s.divisor) table

abbrev pub scores_in : List Scored → List ℕ
scores_in table = map (λ s. s.score) table

-- the sum of the first scores
unfoldable pub score_sum : List ℕ → ℕ → ℕ
score_sum scores zero = 0
score_sum scores (suc i) = score_sum scores i + get_or scores i 0

-- the sum of key times score over the first entries
unfoldable pub digest : List ℕ → List ℕ → ℕ → ℕ
digest keys scores zero = 0
digest keys scores (suc i) = digest keys scores i + get_or keys i 0 * get_or scores i 0

-- a score has 8 bits and a key 32
abbrev pub largest_score : ℕ
largest_score = 255

abbrev pub largest_product : ℕ
largest_product = 4294967295 * largest_score
