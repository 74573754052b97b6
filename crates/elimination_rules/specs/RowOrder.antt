-- Document 01, "Elimination": the divisor, the sign and the occurrences again, in the shorter form that they have in a row in its
-- order. The first term of a pair is already the first in order, and the pairs of one divisor already come by ascending co-divisor.
-- Assumes nothing.
use Rattle.std.specs.Prelude.{◌-◌, Bool, true, false, not, List, [], ◌∷◌}
use Rattle.elimination_rules.specs.declared.Divisor.{Divisor}
use Rattle.elimination_rules.specs.Rows.{Row}
use Rattle.elimination_rules.specs.Divisors.{Pair, co_divisor, same_divisor, pairs_of}

-- whether two signs differ
abbrev pub differ : Bool → Bool → Bool
differ true b = not b
differ false b = b

abbrev pub row_order_divisor : Pair → Divisor
row_order_divisor p = record {
  a = p.first.symbol;
  b = p.second.symbol;
  ea = p.first.exponent - co_divisor p;
  eb = p.second.exponent - co_divisor p;
  minus = differ p.first.negative p.second.negative;
}

abbrev pub row_order_sign : Pair → Bool
row_order_sign p = p.first.negative

unfoldable pub row_order_pairs : Divisor → List Pair → List Pair
row_order_pairs d [] = []
row_order_pairs d (p ∷ ps) = elim (same_divisor (row_order_divisor p) d) [ true ↦ p ∷ row_order_pairs d ps | false ↦ row_order_pairs d ps ]

unfoldable pub row_order_occurrences : Divisor → Row → List Pair
unfolding row_order_pairs pairs_of
row_order_occurrences d r = row_order_pairs d (pairs_of r)
