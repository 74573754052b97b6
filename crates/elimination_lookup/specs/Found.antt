-- The first term of a row with a symbol and an exponent: where it stands, and its sign.
-- Assumes nothing.
use Rattle.std.specs.Prelude.{ℕ, suc, Bool, true, false, ◌&&◌, [], ◌∷◌, eqb}
use Rattle.std.specs.declared.option.Option.{Option}
use Rattle.std.specs.declared.option.Option.TheVariants.{Some, None}
use Rattle.term.specs.declared.Term.{Term}
use Rattle.elimination_rules.specs.Rows.{Row}
use Rattle.elimination_rules.specs.Lookup.{sign_number, sign_at}
use Rattle.elimination_lookup.specs.declared.Found.{Found as FoundTerm}

-- whether a term has the symbol and exponent
abbrev pub stands : ℕ → ℕ → Term → Bool
stands symbol exponent t = eqb t.symbol symbol && eqb t.exponent exponent

-- the number of terms before it; of all terms, where there is none
unfoldable pub place_at : Row → ℕ → ℕ → ℕ
place_at [] symbol exponent = 0
place_at (t ∷ r) symbol exponent =
    elim (eqb t.symbol symbol && eqb t.exponent exponent) [ true ↦ 0 | false ↦ suc (place_at r symbol exponent) ]

-- a place, and the number of a sign: 0 where there is no term
pub record Found : Type 0 where
  pub place : ℕ
  pub sign : ℕ

abbrev pub found_in : Row → ℕ → ℕ → Found
found_in r symbol exponent = record { place = place_at r symbol exponent; sign = sign_at r symbol exponent }

-- what code finds among so many terms, as the same numbers
abbrev pub as_numbers : ℕ → Option FoundTerm → Found
as_numbers count None = record { place = count; sign = 0 }
as_numbers count (Some f) = record { place = f.place; sign = sign_number f.negative }
