-- `Held w n z`: the bits n hold the integer z at the width w. A signed local is its bits: each signed operation reads its operands
-- back from them (`to_z`) and writes its result's (`of_z`). A proof keeps one `Held` for each signed local or temporary; what an
-- operation needs (`need-..`) and what its result holds (`held-..`) follow from those of its operands.
-- Assumes nothing.
use mathlib.Core.Path.{◌≡◌, refl, sym, ap, ◌∙◌, subst}
use mathlib.Core.Bool.{true, false, not}
use Prim.Native.Nat.{ℕ, zero, suc, ◌+◌, ◌*◌, ◌-◌, ◌%◌, ◌^◌, ◌≤◌, ◌<◌}
use native.Mathlib.Omega.{arith}
use native.Mathlib.Nat.{mod-eq_of_lt, mul-add-mod_self_right}
use lib.Dec.{T, lt→ltb}
use borrow.Author.Tests.{leb-false}
use lib.IntN.{ℤ, pos, negsuc, neg_ℤ, ◌+ℤ◌, ◌-ℤ◌, ◌*ℤ◌, nat_abs, +ℤ_idl}
use lib.Signed.{◌≤ℤ◌, ◌<ℤ◌, mag, lt_z, le_z, lt_z_no, non_neg, shr_z, mag_shr}
use lib.Pow.{pow_pos}
use mir.Syntax.{Width}
use mir.Val.{SFits, Fits, to_z, of_z, hbits, bits}
use mir.ValLaws.{to_z-of_z, half_full, pow-bits}
use Rattle.integers.proofs.Size.{fits_abs, fits_wider, abs_neg}

pub record Held (w : Width) (n : ℕ) (z : ℤ) : Type 0 where
  pub bits : n ≡ of_z w z
  pub fits : SFits w z

-- what a signed operation reads back
pub is : {w : Width} {n : ℕ} {z : ℤ} → Held w n z → to_z w n ≡ z
is {w} {n} {z} h = ap (to_z w) h.bits ∙ to_z-of_z w z h.fits

-- a parameter, from `c.fits.x`; a call's result, from `c.f.ok`
pub held : {w : Width} {z : ℤ} → SFits w z → Held w (of_z w z) z
held f = record { bits = refl; fits = f }

-- an unsigned number after a cast, and a literal
pub held_nat : (w : Width) (n : ℕ) → SFits w (pos n) → Held w n (pos n)
held_nat w n f = record { bits = refl; fits = f }

-- another name for the same integer
pub held-is : {w : Width} {n : ℕ} {z y : ℤ} → Held w n z → z ≡ y → Held w n y
held-is {w} {n} h e = subst (Held w n) e h

-- what a function returns
pub returned : {w : Width} {n : ℕ} {z y : ℤ} → Held w n z → z ≡ y → to_z w n ≡ y
returned h e = is h ∙ e

-- a call's result, from `c.f.ok` and `c.f.ensures`
pub call_result : (w : Width) {z y : ℤ} → mag z < 2 ^ hbits w → z ≡ y → to_z w (of_z w z) ≡ y
call_result w h e = returned (held (record { sfits = h })) e

-- ---- sums, differences, comparisons (`when_le` and `when_gt` serve request A13's level)

not_le : (x y : ℤ) → le_z x y ≡ false → y <ℤ x
not_le (pos a) (pos b) t = record { lt = lt→ltb b a (leb-false a b t) }
not_le (pos a) (negsuc b) t = record { lt = tt }
not_le (negsuc a) (pos b) t = absurd (let z : ◌≡◌ {A = ℕ} 0 1 = cc in omega arith)
not_le (negsuc a) (negsuc b) t = record { lt = lt→ltb a b (leb-false b a t) }

module _ {w : Width} {a b : ℕ} {x y : ℤ} (ha : Held w a x) (hb : Held w b y) where
  pub need-+ : SFits w (x +ℤ y) → SFits w (to_z w a +ℤ to_z w b)
  need-+ f = rw (is ha, is hb) f

  pub need-- : SFits w (x -ℤ y) → SFits w (to_z w a -ℤ to_z w b)
  need-- f = rw (is ha, is hb) f

  pub held-+ : SFits w (x +ℤ y) → Held w (of_z w (to_z w a +ℤ to_z w b)) (x +ℤ y)
  held-+ f = rw (is ha, is hb) (held f)

  pub held-- : SFits w (x -ℤ y) → Held w (of_z w (to_z w a -ℤ to_z w b)) (x -ℤ y)
  held-- f = rw (is ha, is hb) (held f)

  -- what a test says
  pub when_lt : lt_z (to_z w a) (to_z w b) ≡ true → x <ℤ y
  when_lt t = record { lt = subst T (sym (rw (is ha, is hb) at t)) tt }

  pub when_ge : lt_z (to_z w a) (to_z w b) ≡ false → y ≤ℤ x
  when_ge t = lt_z_no {a = x} {b = y} (subst (λ u. T (not u)) (sym (rw (is ha, is hb) at t)) tt)

  pub when_le : le_z (to_z w a) (to_z w b) ≡ true → x ≤ℤ y
  when_le t = record { le = subst T (sym (rw (is ha, is hb) at t)) tt }

  pub when_gt : le_z (to_z w a) (to_z w b) ≡ false → y <ℤ x
  when_gt t = not_le x y (rw (is ha, is hb) at t)

  -- a test of equality is one of the bits
  pub when_eq : a ≡ b → x ≡ y
  when_eq e = sym (is ha) ∙ ap (to_z w) e ∙ is hb

  pub when_ne : (a ≡ b → ⊥) → x ≡ y → ⊥
  when_ne f e = f (ha.bits ∙ ap (of_z w) e ∙ sym hb.bits)

-- ---- negation, which is 0 − x, and casts

module _ {w : Width} {a : ℕ} {x : ℤ} (ha : Held w a x) where
  pub need_neg : SFits w (neg_ℤ x) → SFits w (pos 0 -ℤ to_z w a)
  need_neg f = rw (is ha, +ℤ_idl (neg_ℤ x)) f

  pub held_neg : SFits w (neg_ℤ x) → Held w (of_z w (pos 0 -ℤ to_z w a)) (neg_ℤ x)
  held_neg f = rw (is ha, +ℤ_idl (neg_ℤ x)) (held f)

module _ {w : Width} (v : Width) {a : ℕ} {x : ℤ} (ha : Held w a x) where
  pub need_cast : SFits v x → SFits v (to_z w a)
  need_cast f = rw (is ha) f

  pub held_cast : SFits v x → Held v (of_z v (to_z w a)) x
  held_cast f = rw (is ha) (held f)

-- to an unsigned type, of a number that is not negative
module _ {w : Width} (v : Width) {a n : ℕ} (ha : Held w a (pos n)) where
  pub need_unsigned : Fits v n → T (non_neg (to_z w a)) × Fits v (nat_abs (to_z w a))
  need_unsigned f = rw (is ha) (tt, f)

  pub is-unsigned : nat_abs (to_z w a) ≡ n
  is-unsigned = ap nat_abs (is ha)

-- ---- shifts: to the left the product with the power of two, where that fits; to the right rounded down, which always fits

-- (B − s)·P is (P − 1)·B + (B − s·P)
shl_below : (s d q : ℕ) → s * suc q ≤ s + d → 0 < s → (d * suc q) % (s + d) ≡ (s + d) - s * suc q
shl_below s d q h z = ap (λ (n : ℕ). n % (s + d)) e ∙ mul-add-mod_self_right q (s + d) ((s + d) - s * suc q) ∙ mod-eq_of_lt less
  where
    e : d * suc q ≡ q * (s + d) + ((s + d) - s * suc q)
    e = omega arith

    less : (s + d) - s * suc q < s + d
    less = omega arith

of_z_neg : (w : Width) (m : ℕ) → 0 < m → of_z w (neg_ℤ (pos m)) ≡ 2 ^ bits w - m
of_z_neg w zero h = absurd (omega arith)
of_z_neg w (suc m) h = refl

shl_bits : (w : Width) (x : ℤ) (q : ℕ) → SFits w x → SFits w (x *ℤ pos (suc q)) → (of_z w x * suc q) % 2 ^ bits w ≡ of_z w (x *ℤ pos (suc q))
shl_bits w (pos k) q f g = mod-eq_of_lt (half_full w g.sfits)
shl_bits w (negsuc k) q f g = go (2 ^ bits w - suc k) (omega (arith, half_full w f.sfits))
  where
    in_half : suc k * suc q ≤ 2 ^ hbits w
    in_half = omega (arith, fits_abs w (neg_ℤ (pos (suc k * suc q))) g, abs_neg (pos (suc k * suc q)))

    go : (d : ℕ) → 2 ^ bits w ≡ suc k + d → (d * suc q) % 2 ^ bits w ≡ of_z w (neg_ℤ (pos (suc k * suc q)))
    go d e = rw (of_z_neg w (suc k * suc q) (omega arith), e) (shl_below (suc k) d q (omega (arith, in_half, pow-bits w, e)) (omega arith))

pub held_shl : {w : Width} {a : ℕ} {x : ℤ} (s : ℕ) → Held w a x → SFits w (x *ℤ pos (2 ^ s)) → Held w ((a * 2 ^ s) % 2 ^ bits w) (x *ℤ pos (2 ^ s))
held_shl {w} {a} {x} s h f = record {
  bits = ap (λ (n : ℕ). (n * 2 ^ s) % 2 ^ bits w) h.bits ∙ go (2 ^ s) (pow_pos s) f;
  fits = f;
}
  where
    go : (P : ℕ) → 0 < P → SFits w (x *ℤ pos P) → (of_z w x * P) % 2 ^ bits w ≡ of_z w (x *ℤ pos P)
    go zero z g = absurd (omega arith)
    go (suc q) z g = shl_bits w x q h.fits g

pub held_shr : {w : Width} {a : ℕ} {x : ℤ} (m : ℕ) → Held w a x → Held w (of_z w (shr_z (to_z w a) m)) (shr_z x m)
held_shr {w} {a} {x} m h = rw (is h) (held (record { sfits = omega (arith, h.fits.sfits, mag_shr x m) }))

-- a number that fits a width, taken over into a wider one
module _ (w v : Width) (l : hbits w ≤ hbits v) {z : ℤ} (f : SFits w z) where
  pub need_widen : SFits v (to_z w (of_z w z))
  need_widen = need_cast v (held f) (fits_wider w v z l f)

  pub widened : to_z v (of_z v (to_z w (of_z w z))) ≡ z
  widened = is (held_cast v (held f) (fits_wider w v z l f))

-- what `search` is handed at a signed need
pub ruleset helds = (need-+, need--, need_neg, need_cast, held, held_nat, held-+, held--, held_neg, held_cast, held_shl, held_shr)
