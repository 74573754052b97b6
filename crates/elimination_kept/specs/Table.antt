-- Request A3: the kept scores as the code holds them, keys in one array and scores in another, the first ones of each in use. KeptScores
-- has `table_of` as its view and `Room` as its invariant.
-- Assumes nothing.
use Rattle.std.specs.Prelude.{ℕ, ◌≤◌, ◌<◌, ◌≡◌, Bool, ◌||◌, eqb, length, get_or, take}
use mathlib.Core.List.{List, [], ◌∷◌, Memᴰ}
use Rattle.limits.specs.Limits.{positions, max_pairs, term_symbols}
use Rattle.elimination_rules.specs.declared.Divisor.{Divisor}
use Rattle.elimination_rules.specs.Elimination.{Scored}
use Rattle.elimination_rules.specs.Rank.{key_divisor, divisor_rank}
use Rattle.elimination_kept.specs.declared.pick.Best.{Best}

abbrev pub entry_of : ℕ → ℕ → Scored
entry_of key score = record { divisor = key_divisor key; score = score }

unfoldable pub entries_of : List ℕ → List ℕ → List Scored
entries_of [] _ = []
entries_of (key ∷ keys) [] = []
entries_of (key ∷ keys) (score ∷ scores) = entry_of key score ∷ entries_of keys scores

-- the entries in use
abbrev pub table_of : List ℕ → List ℕ → ℕ → List Scored
table_of keys scores kept = entries_of (take kept keys) (take kept scores)

-- there is room for as many entries as rows can have pairs
pub record Room (keys scores : List ℕ) (kept : ℕ) : Type 0 where
  pub keys-room : length keys ≡ max_pairs
  pub scores-room : length scores ≡ max_pairs
  pub within : kept ≤ max_pairs

-- its symbols have columns, and its exponents are positions
abbrev pub Fits : Divisor → Type 0
Fits d = (d.a < term_symbols) × (d.b < term_symbols) × (d.ea < positions) × (d.eb < positions)

abbrev pub AllFit : List Scored → Type 0
AllFit table = (s : Scored) → Memᴰ s table → Fits s.divisor

-- ---- the best so far

abbrev pub scored_of : Best → Scored
scored_of s = entry_of s.key s.score

-- the rank is that of the divisor, by the depths of the symbols
abbrev pub Ranked : List ℕ → Best → Type 0
Ranked depths s = s.rank ≡ divisor_rank depths (key_divisor s.key)

-- ---- the symbols of a step

abbrev pub shares_symbol : ℕ → ℕ → Divisor → Bool
shares_symbol a b d = eqb d.a a || (eqb d.a b || (eqb d.b a || eqb d.b b))

-- two tables of columns differ at most in two symbols
abbrev pub SameBut : ℕ → ℕ → List (List ℕ) → List (List ℕ) → Type 0
SameBut a b columns after = (symbol : ℕ) → (symbol ≡ a → ⊥) → (symbol ≡ b → ⊥) → get_or columns symbol [] ≡ get_or after symbol []
