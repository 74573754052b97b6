-- The ring laws of ℤ that `lib.IntN` lacks, and `ring`, which multiplies out and sorts.
-- Assumes nothing.
use mathlib.Core.Path.{◌≡◌}
use native.Mathlib.Omega.{arith}
use lib.IntN.{ℤ, neg_ℤ, ◌+ℤ◌, ◌*ℤ◌, +ℤ_comm, +ℤ_assoc, *ℤ_comm, neg_ℤ-+ℤ, neg_ℤ-neg_ℤ}
use Rattle.integers.proofs.Expression.{at, minus, ◌⊕◌, ◌⊗◌, equal}

pub *-+ : (a b c : ℤ) → a *ℤ (b +ℤ c) ≡ a *ℤ b +ℤ a *ℤ c
*-+ a b c = equal (at a ⊗ (at b ⊕ at c)) (at a ⊗ at b ⊕ at a ⊗ at c) (omega arith)

pub +-* : (a b c : ℤ) → (a +ℤ b) *ℤ c ≡ a *ℤ c +ℤ b *ℤ c
+-* a b c = equal ((at a ⊕ at b) ⊗ at c) (at a ⊗ at c ⊕ at b ⊗ at c) (omega arith)

pub *-assoc : (a b c : ℤ) → (a *ℤ b) *ℤ c ≡ a *ℤ (b *ℤ c)
*-assoc a b c = equal (at a ⊗ at b ⊗ at c) (at a ⊗ (at b ⊗ at c)) (omega arith)

pub *-left_comm : (a b c : ℤ) → a *ℤ (b *ℤ c) ≡ b *ℤ (a *ℤ c)
*-left_comm a b c = equal (at a ⊗ (at b ⊗ at c)) (at b ⊗ (at a ⊗ at c)) (omega arith)

pub +-left_comm : (a b c : ℤ) → a +ℤ (b +ℤ c) ≡ b +ℤ (a +ℤ c)
+-left_comm a b c = equal (at a ⊕ (at b ⊕ at c)) (at b ⊕ (at a ⊕ at c)) (omega arith)

pub neg-* : (a b : ℤ) → neg_ℤ a *ℤ b ≡ neg_ℤ (a *ℤ b)
neg-* a b = equal (minus (at a) ⊗ at b) (minus (at a ⊗ at b)) (omega arith)

pub *-neg : (a b : ℤ) → a *ℤ neg_ℤ b ≡ neg_ℤ (a *ℤ b)
*-neg a b = equal (at a ⊗ minus (at b)) (minus (at a ⊗ at b)) (omega arith)

-- `simp ring` closes an equation of any terms that holds in every commutative ring without cancelling
pub ruleset ring = (*-+, +-*, +ℤ_assoc, +ℤ_comm, +-left_comm, *-assoc, *ℤ_comm, *-left_comm, neg-*, *-neg, neg_ℤ-+ℤ, neg_ℤ-neg_ℤ)
