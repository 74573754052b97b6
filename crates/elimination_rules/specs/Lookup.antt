-- Document 01, "Elimination", by the sign that a row has of each symbol and exponent, co-divisor by co-divisor: what the code's masks hold.
-- These are second definitions: on rows in order they agree with those of `Divisors` and `Elimination`, by the laws of proofs/.
-- Assumes nothing.
use Rattle.std.specs.Prelude.{ℕ, zero, suc, ◌+◌, ◌-◌, ◌<◌, min, ◌≡◌, ◌⊎◌, Bool, true, false, not, ◌&&◌, ◌||◌, leb, eqb, get_or}
use mathlib.Core.List.{List, [], ◌∷◌, ◌++◌, Memᴰ}
use Rattle.term.specs.declared.Term.{Term}
use Rattle.elimination_rules.specs.declared.Divisor.{Divisor}
use Rattle.elimination_rules.specs.Rows.{Row}
use Rattle.elimination_rules.specs.Divisors.{Pair, same_sign}

-- ---- the rows and divisors of which the definitions below agree with the others

-- the exponents of a row are below a number of digit positions
abbrev pub ExponentsBelow : ℕ → Row → Type 0
ExponentsBelow positions r = (t : Term) → Memᴰ t r → t.exponent < positions

-- what the divisor of two terms of a row is: its smaller exponent is 0, and its terms are in order; so if a and b are one symbol,
-- then ea is 0 and eb is not
pub record Proper (d : Divisor) : Type 0 where
  pub lowest : min d.ea d.eb ≡ 0
  pub ordered : (d.a < d.b) ⊎ ((d.a ≡ d.b) × (d.ea < d.eb))

-- ---- the sign of the term with a symbol and an exponent: 0 there is none, 1 plus, 2 minus

-- what a row, or a table of it, says of each symbol and exponent
abbrev pub Signs : Type 0
Signs = ℕ → ℕ → ℕ

abbrev pub sign_number : Bool → ℕ
sign_number false = 1
sign_number true = 2

unfoldable pub sign_at : Row → Signs
sign_at [] symbol exponent = 0
sign_at (t ∷ r) symbol exponent =
    elim (eqb t.symbol symbol && eqb t.exponent exponent) [ true ↦ sign_number t.negative | false ↦ sign_at r symbol exponent ]

-- ---- what is taken, for each co-divisor

-- both terms are there, and their signs differ exactly where the divisor's is minus
abbrev pub occurs_with : Bool → ℕ → ℕ → Bool
occurs_with minus x y = not (eqb x 0) && (not (eqb y 0) && same_sign minus (not (eqb x y)))

abbrev pub occurs_at : Signs → Divisor → ℕ → Bool
occurs_at signs d c = occurs_with d.minus (signs d.a (d.ea + c)) (signs d.b (d.eb + c))

-- only where a and b are one symbol can an occurrence overlap an earlier one: that whose second term is its first
abbrev pub overlaps_taken : Divisor → List Bool → ℕ → Bool
overlaps_taken d flags c = eqb d.a d.b && (leb d.eb c && get_or flags (c - d.eb) false)

-- whether the occurrence with co-divisor 0, 1, .. is taken, for so many co-divisors
unfoldable pub taken_flags : Signs → Divisor → ℕ → List Bool
taken_flags signs d zero = []
taken_flags signs d (suc c) = let flags = taken_flags signs d c in flags ++ ((occurs_at signs d c && not (overlaps_taken d flags c)) ∷ [])

-- the term with a symbol and an exponent, and the occurrence with a co-divisor, where there is one
abbrev pub term_at : Signs → ℕ → ℕ → Term
term_at signs symbol exponent = record { symbol = symbol; exponent = exponent; negative = eqb (signs symbol exponent) 2 }

abbrev pub pair_at : Signs → Divisor → ℕ → Pair
pair_at signs d c = record { first = term_at signs d.a (d.ea + c); second = term_at signs d.b (d.eb + c) }

-- the occurrences at the flagged co-divisors, from a co-divisor on
unfoldable pub pairs_from : Signs → Divisor → ℕ → List Bool → List Pair
pairs_from signs d c [] = []
pairs_from signs d c (true ∷ flags) = pair_at signs d c ∷ pairs_from signs d (suc c) flags
pairs_from signs d c (false ∷ flags) = pairs_from signs d (suc c) flags

unfoldable pub count_true : List Bool → ℕ
count_true [] = 0
count_true (true ∷ flags) = suc (count_true flags)
count_true (false ∷ flags) = count_true flags

-- ---- the row after a step

-- a term is part of a taken occurrence, as its first or its second term
abbrev pub part_as : ℕ → ℕ → List Bool → Term → Bool
part_as symbol exponent flags t =
    eqb t.symbol symbol && (leb exponent t.exponent && get_or flags (t.exponent - exponent) false)

abbrev pub part_of_taken : Divisor → List Bool → Term → Bool
part_of_taken d flags t = part_as d.a d.ea flags t || part_as d.b d.eb flags t

unfoldable pub kept_terms : Divisor → List Bool → Row → Row
kept_terms d flags [] = []
kept_terms d flags (t ∷ r) = elim (part_of_taken d flags t) [ true ↦ kept_terms d flags r | false ↦ t ∷ kept_terms d flags r ]

-- the sign of an occurrence is that of its first term
abbrev pub lookup_term : ℕ → Signs → Divisor → ℕ → Term
lookup_term symbol signs d c = record { symbol = symbol; exponent = c; negative = eqb (signs d.a (d.ea + c)) 2 }

-- from a co-divisor on
unfoldable pub lookup_terms_from : ℕ → Signs → Divisor → ℕ → List Bool → Row
lookup_terms_from symbol signs d c [] = []
lookup_terms_from symbol signs d c (true ∷ flags) = lookup_term symbol signs d c ∷ lookup_terms_from symbol signs d (suc c) flags
lookup_terms_from symbol signs d c (false ∷ flags) = lookup_terms_from symbol signs d (suc c) flags

unfoldable pub lookup_row_after : ℕ → ℕ → Divisor → Row → Row
unfolding sign_at taken_flags kept_terms lookup_terms_from
lookup_row_after positions symbol d r =
    let flags = taken_flags (sign_at r) d positions in
    kept_terms d flags r ++ lookup_terms_from symbol (sign_at r) d 0 flags
