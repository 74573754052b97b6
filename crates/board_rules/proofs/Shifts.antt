-- A call of `integers::shifted` on a small number: what it asks and what its result holds. And the cases of the signs.
-- Assumes nothing.
use mathlib.Core.Path.{◌≡◌, refl}
use Prim.Native.Nat.{ℕ, zero, suc, ◌^◌, ◌<◌}
use native.Mathlib.Omega.{arith}
use lib.IntN.{ℤ, pos, neg_ℤ, ◌+ℤ◌, ◌-ℤ◌, ◌*ℤ◌}
use lib.Signed.{mag}
use mir.Syntax.{w64}
use mir.Val.{SFits, to_z, of_z}
use Rattle.integers.proofs.Size.{abs-+, abs_sub, abs_neg, abs_fits}
use Rattle.integers.proofs.Held.{Held, held, held-is, is}
use Rattle.board_rules.specs.Machine.{shifted, joined, with_sign}
use Rattle.board_rules.specs.Table.{Small}

module _ {z : ℤ} {s : ℕ} (f : SFits w64 z) (h : Small z s) where
  pub shifted-asked : (s < 64) × SFits w64 (to_z w64 (of_z w64 z) *ℤ pos (2 ^ s))
  shifted-asked = (h.shift, rw (is (held f)) (abs_fits w64 (shifted z s) (omega (arith, h.size))))

  pub shifted-held : {r : ℤ} → mag r < 2 ^ 63 → r ≡ to_z w64 (of_z w64 z) *ℤ pos (2 ^ s) → Held w64 (of_z w64 r) (shifted z s)
  shifted-held {r} ok e = held-is (held (record { sfits = ok })) (rw (is (held f)) at e)

-- the sum, the difference and the negation of small numbers fit
module _ {a b : ℤ} {sa sb : ℕ} (ha : Small a sa) (hb : Small b sb) where
  pub sum_fits : SFits w64 (shifted a sa +ℤ shifted b sb)
  sum_fits = abs_fits w64 (shifted a sa +ℤ shifted b sb) (omega (arith, ha.size, hb.size, abs-+ (shifted a sa) (shifted b sb)))

  pub difference-fits : SFits w64 (shifted a sa -ℤ shifted b sb)
  difference-fits = abs_fits w64 (shifted a sa -ℤ shifted b sb) (omega (arith, ha.size, hb.size, abs_sub (shifted a sa) (shifted b sb)))

pub negation_fits : {a : ℤ} {sa : ℕ} → Small a sa → SFits w64 (neg_ℤ (shifted a sa))
negation_fits {a} {sa} ha = abs_fits w64 (neg_ℤ (shifted a sa)) (omega (arith, ha.size, abs_neg (shifted a sa)))

-- signs
pub joined-minus : (sign : ℕ) (x y : ℤ) → (sign ≡ 0 → ⊥) → x -ℤ y ≡ joined sign x y
joined-minus zero x y h = absurd (h refl)
joined-minus (suc sign) x y h = refl

pub signed-none : (sign : ℕ) (x : ℤ) → (sign ≡ 0 → ⊥) → (sign ≡ 1 → ⊥) → pos 0 ≡ with_sign sign x
signed-none zero x h k = absurd (h refl)
signed-none (suc zero) x h k = absurd (k refl)
signed-none (suc (suc sign)) x h k = refl
