-- The order of two numbers with what decides where they are equal behind it, as `smaller` has it: what it says, and that such an order is
-- strict, transitive and total where the one behind it is.
-- Assumes nothing.
use Prim.Native.Nat.{ℕ, ◌≤◌, ◌<◌}
use mathlib.Core.Path.{◌≡◌, sym, ◌∙◌}
use mathlib.Core.Logic.{◌⊎◌, inl, inr, ⊎_elim}
use mathlib.Core.Bool.{Bool, true, false, ◌&&◌, or-false, true≢false}
use native.Mathlib.Omega.{arith}
use lib.Dec.{eqb, ltb}
use borrow.Author.Tests.{eqb-true, eq-eqb, ne_eqb, ltb-true, ltb-false, lt-ltb, le-ltb}
use Rattle.elimination_rules.specs.Elimination.{smaller}
use Rattle.elimination_rules.proofs.Tests.{by_bool, clash, and_left, and_right, and_both, or_left, or_right, or_cases, or_no_left}

-- the three cases of two numbers
pub by_order {ℓ} : {P : Type ℓ} (x y : ℕ) → (x < y → P) → (x ≡ y → P) → (y < x → P) → P
by_order x y less equal more = by_bool (ltb x y)
    (λ e. less (ltb-true x y e))
    (λ e. by_bool (ltb y x)
    (λ f. more (ltb-true y x f))
    (λ f. equal (omega (arith, ltb-false x y e, ltb-false y x f))))

-- in one of two pairs of numbers the first is smaller, or they are the same and what follows decides
abbrev pub Smaller : ℕ → ℕ → Type 0 → Type 0
Smaller x y Otherwise = (x < y) ⊎ ((x ≡ y) × Otherwise)

-- ---- what the test says

pub smaller_yes : (x y : ℕ) (b : Bool) → smaller x y b ≡ true → (x < y) ⊎ ((x ≡ y) × (b ≡ true))
smaller_yes x y b h = ⊎_elim
    (λ l. inl (ltb-true x y l))
    (λ r. inr (eqb-true x y (and_left (eqb x y) b r), and_right (eqb x y) b r))
    (or_cases (ltb x y) (eqb x y && b) h)

pub yes_smaller : (x y : ℕ) (b : Bool) → (x < y) ⊎ ((x ≡ y) × (b ≡ true)) → smaller x y b ≡ true
yes_smaller x y b (inl h) = or_left (ltb x y) (eqb x y && b) (lt-ltb x y h)
yes_smaller x y b (inr h) = or_right (ltb x y) (eqb x y && b) (and_both (eqb x y) b (eq-eqb x y h.0) h.1)

pub smaller_no : (x y : ℕ) (b : Bool) → smaller x y b ≡ false → (y ≤ x) × (y ≡ x → b ≡ false)
smaller_no x y b h = (
  ltb-false x y (or_no_left (ltb x y) (eqb x y && b) h),
  λ s. by_bool b (λ t. clash (yes_smaller x y b (inr (sym s, t))) h) (λ f. f),
)

pub no_smaller : (x y : ℕ) (b : Bool) → y ≤ x → (y ≡ x → b ≡ false) → smaller x y b ≡ false
no_smaller x y b l f = by_bool (smaller x y b)
    (λ h. ⊎_elim (λ m. absurd (omega arith)) (λ r. clash r.1 (f (sym r.0))) (smaller_yes x y b h))
    (λ h. h)

-- what is behind equal numbers decides, and behind different ones nothing does
pub smaller_equal : (x y : ℕ) (b : Bool) → x ≡ y → smaller x y b ≡ b
smaller_equal x y b h = rw (le-ltb x y (omega arith), eq-eqb x y h)

pub smaller-apart : (x y : ℕ) (b : Bool) → (x ≡ y → ⊥) → smaller x y b ≡ ltb x y
smaller-apart x y b apart = rw (ne_eqb x y apart) (or-false (ltb x y))

-- the same as logic has it
pub smaller_as : {Q : Type 0} (x y : ℕ) (b : Bool) → (b ≡ true → Q) → smaller x y b ≡ true → Smaller x y Q
smaller_as x y b f h = ⊎_elim inl (λ r. inr (r.0, f r.1)) (smaller_yes x y b h)

pub as_smaller : {Q : Type 0} (x y : ℕ) (b : Bool) → (Q → b ≡ true) → Smaller x y Q → smaller x y b ≡ true
as_smaller x y b f h = yes_smaller x y b (⊎_elim inl (λ r. inr (r.0, f r.1)) h)

-- ---- a strict total order, where the one behind it is

pub smaller_self : (x : ℕ) (b : Bool) → b ≡ false → smaller x x b ≡ false
smaller_self x b e = no_smaller x x b (omega arith) (λ s. e)

pub smaller_transitive : (x y z : ℕ) (b c d : Bool) → (b ≡ true → c ≡ true → d ≡ true) → smaller x y b ≡ true → smaller y z c ≡ true → smaller x z d ≡ true
smaller_transitive x y z b c d f h k = ⊎_elim
    (λ l. ⊎_elim (λ m. yes_smaller x z d (inl (omega arith))) (λ m. yes_smaller x z d (inl (omega arith))) (smaller_yes y z c k))
    (λ l. ⊎_elim (λ m. yes_smaller x z d (inl (omega arith))) (λ m. yes_smaller x z d (inr (l.0 ∙ m.0, f l.1 m.1))) (smaller_yes y z c k))
    (smaller_yes x y b h)

pub smaller-total : {Q : Type 0} (x y : ℕ) (b c : Bool) → (b ≡ false → Q ⊎ (c ≡ true)) → smaller x y b ≡ false → ((x ≡ y) × Q) ⊎ (smaller y x c ≡ true)
smaller-total x y b c f h = by_bool (eqb x y)
    (λ e. ⊎_elim
    (λ q. inl (eqb-true x y e, q))
    (λ t. inr (yes_smaller y x c (inr (sym (eqb-true x y e), t))))
    (f (by_bool b (λ t. clash (yes_smaller x y b (inr (eqb-true x y e, t))) h) (λ t. t))))
    (λ e. inr (yes_smaller y x c (inl (above (ltb-false x y (or_no_left (ltb x y) (eqb x y && b) h)) (λ w. true≢false (sym (eq-eqb x y w) ∙ e))))))
  where
    above : {x y : ℕ} → y ≤ x → (x ≡ y → ⊥) → y < x
    above l n = omega arith
