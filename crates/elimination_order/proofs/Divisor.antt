-- The divisor of two terms in row order, as the function works it out.
-- Assumes nothing.
use Prim.Native.Nat.{ℕ, ◌-◌, min}
use mathlib.Core.Path.{◌≡◌, refl, sym}
use mathlib.Core.Bool.{Bool, true, false, not, beq}
use Rattle.term.specs.declared.Term.{Term}
use Rattle.elimination_rules.specs.declared.Divisor.{Divisor}
use Rattle.elimination_rules.specs.Rows.{Precedes}
use Rattle.elimination_rules.specs.RowOrder.{differ}
use Rattle.elimination_rules.specs.Divisors.{divisor_of}
use Rattle.elimination_rules.proofs.RowOrder.{divisor_in_order}

not_same : (x y : Bool) → not (beq x y) ≡ differ x y
not_same true true = refl
not_same true false = refl
not_same false true = refl
not_same false false = refl

module _ (t u : Term) (a b te ue low : ℕ) (x y : Bool) where
  pub divisor_worked : a ≡ t.symbol → b ≡ u.symbol → te ≡ t.exponent → ue ≡ u.exponent → low ≡ min t.exponent u.exponent → x ≡ t.negative → y ≡ u.negative → Precedes t u
      → ◌≡◌ {A = Divisor} (record { a = a; b = b; ea = te - low; eb = ue - low; minus = not (beq x y) }) (divisor_of (record { first = t; second = u }))
  divisor_worked ha hb he hf hl hx hy p =
      rw (hl, ha, hb, he, hf, hx, hy, not_same t.negative u.negative) (sym (divisor_in_order (record { first = t; second = u }) p))
