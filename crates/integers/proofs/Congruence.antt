-- Integers that are congruent modulo m: sums, differences, negations and products keep it.
-- Assumes nothing.
use mathlib.Core.Path.{◌≡◌, ap, ◌∙◌}
use Prim.Native.Nat.{ℕ, ◌+◌, ◌*◌}
use native.Mathlib.Omega.{arith}
use lib.IntN.{ℤ, pos, neg_ℤ, ◌+ℤ◌, ◌-ℤ◌, ◌*ℤ◌}
use Rattle.integers.proofs.Expression.{positive, negative, at, nat, minus, ◌⊕◌, ◌⊝◌, ◌⊗◌, equal, equal_parts}

-- x is y and a multiple of m
pub record Congruent (m : ℕ) (x y : ℤ) : Type 0 where
  pub factor : ℤ
  pub differs : x ≡ y +ℤ factor *ℤ pos m

-- the same, of natural numbers
parts : {m : ℕ} {x y : ℤ} (c : Congruent m x y)
    → positive x + (negative y + negative c.factor * m) ≡ (positive y + positive c.factor * m) + negative x
parts {m} {x} {y} c = omega (arith, equal_parts (at x) (at y ⊕ at c.factor ⊗ nat m) c.differs)

module _ {m : ℕ} where
  pub congruent_same : {x y : ℤ} → x ≡ y → Congruent m x y
  congruent_same {x} {y} e = record { factor = pos 0; differs = e ∙ equal (at y) (at y ⊕ nat 0 ⊗ nat m) (omega arith) }

  pub congruent_sym : {x y : ℤ} → Congruent m x y → Congruent m y x
  congruent_sym {x} {y} c =
      let k = c.factor in
      record { factor = neg_ℤ k; differs = equal (at y) (at x ⊕ minus (at k) ⊗ nat m) (omega (arith, parts c)) }

  pub congruent_negation : {x y : ℤ} → Congruent m x y → Congruent m (neg_ℤ x) (neg_ℤ y)
  congruent_negation {x} {y} c =
      let k = c.factor in
      record { factor = neg_ℤ k; differs = equal (minus (at x)) (minus (at y) ⊕ minus (at k) ⊗ nat m) (omega (arith, parts c)) }

  pub congruent_product : {x y : ℤ} (p : ℕ) → Congruent m x y → Congruent m (x *ℤ pos p) (y *ℤ pos p)
  congruent_product {x} {y} p c =
      let k = c.factor in
      record {
        factor = k *ℤ pos p;
        differs = ap (λ z. z *ℤ pos p) c.differs ∙ equal ((at y ⊕ at k ⊗ nat m) ⊗ nat p) (at y ⊗ nat p ⊕ at k ⊗ nat p ⊗ nat m) (omega arith);
      }

  module _ {x y u v : ℤ} (c : Congruent m x y) (d : Congruent m u v) where
    pub congruent_sum : Congruent m (x +ℤ u) (y +ℤ v)
    congruent_sum =
        let k = c.factor in
        let l = d.factor in
        record { factor = k +ℤ l; differs = equal (at x ⊕ at u) (at y ⊕ at v ⊕ (at k ⊕ at l) ⊗ nat m) (omega (arith, parts c, parts d)) }

    pub congruent_difference : Congruent m (x -ℤ u) (y -ℤ v)
    congruent_difference =
        let k = c.factor in
        let l = d.factor in
        record { factor = k -ℤ l; differs = equal (at x ⊝ at u) (at y ⊝ at v ⊕ (at k ⊝ at l) ⊗ nat m) (omega (arith, parts c, parts d)) }

  pub congruent_trans : {x y z : ℤ} → Congruent m x y → Congruent m y z → Congruent m x z
  congruent_trans {x} {y} {z} c d =
      let k = c.factor in
      let l = d.factor in
      record { factor = k +ℤ l; differs = equal (at x) (at z ⊕ (at k ⊕ at l) ⊗ nat m) (omega (arith, parts c, parts d)) }

-- modulo a multiple of m is modulo m
pub congruent_divisor : {x y : ℤ} (m p : ℕ) → Congruent (m * p) x y → Congruent m x y
congruent_divisor {x} {y} m p c =
    let k = c.factor in
    record { factor = k *ℤ pos p; differs = c.differs ∙ equal (at y ⊕ at k ⊗ nat (m * p)) (at y ⊕ at k ⊗ nat p ⊗ nat m) (omega arith) }
