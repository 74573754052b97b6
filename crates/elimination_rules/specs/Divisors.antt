-- Document 01, "Elimination": divisors, occurrences, co-divisors and signs; overlap; what is taken; scores.
-- Assumes nothing.
use Rattle.std.specs.Prelude.{ℕ, ◌+◌, ◌-◌, ◌^◌, min, Bool, true, false, not, ◌&&◌, ◌||◌, List, [], ◌∷◌, ◌++◌, leb, ltb, eqb, ℤ, pos, ◌+ℤ◌, ◌*ℤ◌, length}
use Rattle.term.specs.declared.Term.{Term}
use Rattle.elimination_rules.specs.declared.Divisor.{Divisor}
use Rattle.elimination_rules.specs.Rows.{Row, signed}

-- ---- the divisor of two terms of one row

pub record Pair : Type 0 where
  pub first : Term
  pub second : Term

-- the smaller exponent
abbrev pub co_divisor : Pair → ℕ
co_divisor p = min p.first.exponent p.second.exponent

-- subtract the co-divisor from both
abbrev pub lowered : ℕ → Term → Term
lowered k t = record { symbol = t.symbol; exponent = t.exponent - k; negative = t.negative }

unfoldable pub without_co_divisor : Pair → Pair
without_co_divisor p = let k : ℕ = co_divisor p in record { first = lowered k p.first; second = lowered k p.second }

-- order them by symbol, then exponent
abbrev pub precedes : Term → Term → Bool
precedes t u = ltb t.symbol u.symbol || (eqb t.symbol u.symbol && ltb t.exponent u.exponent)

unfoldable pub in_order : Pair → Pair
in_order p = elim (precedes p.second p.first) [ true ↦ record { first = p.second; second = p.first } | false ↦ p ]

-- and if the first is negative negate both
abbrev pub negated : Term → Term
negated t = record { symbol = t.symbol; exponent = t.exponent; negative = not t.negative }

unfoldable pub first_positive : Pair → Pair
first_positive p = elim p.first.negative [ true ↦ record { first = negated p.first; second = negated p.second } | false ↦ p ]

-- the first is (a, ea) and the second (b, eb), with the sign of b
abbrev pub read_off : Pair → Divisor
read_off p = record { a = p.first.symbol; b = p.second.symbol; ea = p.first.exponent; eb = p.second.exponent; minus = p.second.negative }

unfoldable pub divisor_of : Pair → Divisor
unfolding without_co_divisor in_order first_positive
divisor_of p = read_off (first_positive (in_order (without_co_divisor p)))

-- the pair is an occurrence of its divisor; its sign is minus if it was negated
unfoldable pub sign_of : Pair → Bool
unfolding without_co_divisor in_order
sign_of p = (in_order (without_co_divisor p)).first.negative

-- what a divisor stands for, for values v of the symbols: (a shifted by ea) plus or minus (b shifted by eb)
unfoldable pub divisor_value : (ℕ → ℤ) → Divisor → ℤ
divisor_value v d = pos (2 ^ d.ea) *ℤ v d.a +ℤ signed d.minus (pos (2 ^ d.eb) *ℤ v d.b)

-- ---- the occurrences of a divisor in a row

-- the pairs of a term with each term of a row behind it, and all pairs of a row
unfoldable pub pairs_with : Term → Row → List Pair
pairs_with t [] = []
pairs_with t (u ∷ r) = record { first = t; second = u } ∷ pairs_with t r

unfoldable pub pairs_of : Row → List Pair
unfolding pairs_with
pairs_of [] = []
pairs_of (t ∷ r) = pairs_with t r ++ pairs_of r

abbrev pub same_sign : Bool → Bool → Bool
same_sign true b = b
same_sign false b = not b

abbrev pub same_divisor : Divisor → Divisor → Bool
same_divisor d e = eqb d.a e.a && eqb d.b e.b && eqb d.ea e.ea && eqb d.eb e.eb && same_sign d.minus e.minus

-- those of pairs whose divisor is d
unfoldable pub pairs_with_divisor : Divisor → List Pair → List Pair
unfolding divisor_of
pairs_with_divisor d [] = []
pairs_with_divisor d (p ∷ ps) = elim (same_divisor (divisor_of p) d) [ true ↦ p ∷ pairs_with_divisor d ps | false ↦ pairs_with_divisor d ps ]

-- by ascending co-divisor
unfoldable pub inserted : Pair → List Pair → List Pair
inserted p [] = p ∷ []
inserted p (q ∷ qs) = elim (leb (co_divisor p) (co_divisor q)) [ true ↦ p ∷ q ∷ qs | false ↦ q ∷ inserted p qs ]

unfoldable pub by_co_divisor : List Pair → List Pair
unfolding inserted
by_co_divisor [] = []
by_co_divisor (p ∷ ps) = inserted p (by_co_divisor ps)

unfoldable pub occurrences : Divisor → Row → List Pair
unfolding pairs_of pairs_with_divisor by_co_divisor
occurrences d r = by_co_divisor (pairs_with_divisor d (pairs_of r))

-- ---- overlap: two occurrences of one row overlap if they share a term, that is a symbol and exponent

abbrev pub same_place : Term → Term → Bool
same_place t u = eqb t.symbol u.symbol && eqb t.exponent u.exponent

abbrev pub overlap : Pair → Pair → Bool
overlap p q = same_place p.first q.first || same_place p.first q.second || same_place p.second q.first || same_place p.second q.second

unfoldable pub overlaps_any : Pair → List Pair → Bool
overlaps_any p [] = false
overlaps_any p (q ∷ qs) = elim (overlap p q) [ true ↦ true | false ↦ overlaps_any p qs ]

-- ---- what is taken, and the score

-- one is taken if it overlaps none taken before
unfoldable pub taking : List Pair → List Pair → List Pair
unfolding overlaps_any
taking before [] = []
taking before (p ∷ ps) = elim (overlaps_any p before) [ true ↦ taking before ps | false ↦ p ∷ taking (p ∷ before) ps ]

unfoldable pub taken : Divisor → Row → List Pair
unfolding occurrences taking
taken d r = taking [] (occurrences d r)

-- the number taken, over all rows: occurrences in different rows never overlap
unfoldable pub score : Divisor → List Row → ℕ
unfolding taken
score d [] = 0
score d (r ∷ rs) = length (taken d r) + score d rs
