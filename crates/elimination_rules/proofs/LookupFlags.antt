-- Flags that are not set change nothing.
-- Assumes nothing.
use Prim.Native.Nat.{ℕ, zero, suc, ◌+◌, ◌-◌}
use mathlib.Core.Path.{◌≡◌, refl, ap, ap₂}
use mathlib.Core.Bool.{Bool, true, false, ◌&&◌, ◌||◌}
use mathlib.Core.List.{List, [], ◌∷◌, ◌++◌}
use lib.Dec.{eqb, leb}
use lib.ListN.{get_or, replicate}
use Rattle.elimination_rules.specs.declared.Divisor.{Divisor}
use Rattle.elimination_rules.specs.Rows.{Row}
use Rattle.elimination_rules.specs.Lookup.{Signs, part_as, kept_terms, lookup_term, lookup_terms_from}

pub padded_flag : (flags : List Bool) (k i : ℕ) → get_or (flags ++ replicate k false) i false ≡ get_or flags i false
padded_flag [] zero i = refl
padded_flag [] (suc k) zero = refl
padded_flag [] (suc k) (suc i) = padded_flag [] k i
padded_flag (f ∷ flags) k zero = refl
padded_flag (f ∷ flags) k (suc i) = padded_flag flags k i

pub padded_kept : (d : Divisor) (flags : List Bool) (k : ℕ) (r : Row) → kept_terms d (flags ++ replicate k false) r ≡ kept_terms d flags r
unfolding kept_terms
padded_kept d flags k [] = refl
padded_kept d flags k (t ∷ r) =
    let part : (symbol exponent : ℕ) → part_as symbol exponent (flags ++ replicate k false) t ≡ part_as symbol exponent flags t =
    λ symbol exponent. ap (λ z. eqb t.symbol symbol && (leb exponent t.exponent && z)) (padded_flag flags k (t.exponent - exponent)) in
    ap₂ {C = Row} (λ b s. elim b [ true ↦ s | false ↦ t ∷ s ]) (ap₂ ◌||◌ (part d.a d.ea) (part d.b d.eb)) (padded_kept d flags k r)

pub padded_new : (symbol : ℕ) (signs : Signs) (d : Divisor) (c : ℕ) (flags : List Bool) (k : ℕ)
    → lookup_terms_from symbol signs d c (flags ++ replicate k false) ≡ lookup_terms_from symbol signs d c flags
unfolding lookup_terms_from
padded_new symbol signs d c [] zero = refl
padded_new symbol signs d c [] (suc k) = padded_new symbol signs d (suc c) [] k
padded_new symbol signs d c (true ∷ flags) k = ap (λ z. lookup_term symbol signs d c ∷ z) (padded_new symbol signs d (suc c) flags k)
padded_new symbol signs d c (false ∷ flags) k = padded_new symbol signs d (suc c) flags k
