-- Tests as the definitions make them: an `elim` of a Bool, and `&&`, `||`.
-- Assumes nothing.
use mathlib.Core.Path.{◌≡◌, refl, sym, ◌∙◌}
use mathlib.Core.Logic.{◌⊎◌, inl, inr}
use mathlib.Core.Bool.{Bool, true, false, ◌&&◌, ◌||◌, true≢false, false≢true}

-- a property of both branches
pub by_test {ℓ κ} : {A : Type ℓ} (b : Bool) (x y : A) (P : A → Type κ) → (b ≡ true → P x) → (b ≡ false → P y) → P (elim b [ true ↦ x | false ↦ y ])
by_test true x y P f g = f refl
by_test false x y P f g = g refl

-- a case split on a test: each side has the test's value as an equation
pub by_bool {ℓ} : {P : Type ℓ} (b : Bool) → (b ≡ true → P) → (b ≡ false → P) → P
by_bool true f g = f refl
by_bool false f g = g refl

-- two choices by one test, the one under a function
pub same_choice {ℓ κ} : {A : Type ℓ} {B : Type κ} (f : A → B) (b c : Bool) (x y : A) (v w : B) → c ≡ b → v ≡ f x → w ≡ f y
    → elim c [ true ↦ v | false ↦ w ] ≡ f (elim b [ true ↦ x | false ↦ y ])
same_choice f true true x y v w e g h = g
same_choice f false false x y v w e g h = h
same_choice f true false x y v w e g h = absurd (false≢true e)
same_choice f false true x y v w e g h = absurd (true≢false e)

pub clash {ℓ} : {P : Type ℓ} {b : Bool} → b ≡ true → b ≡ false → P
clash e f = absurd (true≢false (sym e ∙ f))

pub and_left : (a b : Bool) → a && b ≡ true → a ≡ true
and_left true b e = refl
and_left false b e = e

pub and_right : (a b : Bool) → a && b ≡ true → b ≡ true
and_right true b e = e
and_right false b e = absurd (false≢true e)

pub and_both : (a b : Bool) → a ≡ true → b ≡ true → a && b ≡ true
and_both true b e f = f
and_both false b e f = e

pub and_no_left : (a b : Bool) → a ≡ false → a && b ≡ false
and_no_left true b e = absurd (true≢false e)
and_no_left false b e = refl

pub and_no_right : (a b : Bool) → b ≡ false → a && b ≡ false
and_no_right true b e = e
and_no_right false b e = refl

pub or_no_left : (a b : Bool) → a || b ≡ false → a ≡ false
or_no_left true b e = e
or_no_left false b e = refl

pub or_no_right : (a b : Bool) → a || b ≡ false → b ≡ false
or_no_right true b e = absurd (true≢false e)
or_no_right false b e = e

pub or_neither : (a b : Bool) → a ≡ false → b ≡ false → a || b ≡ false
or_neither true b e f = e
or_neither false b e f = f

pub or_cases : (a b : Bool) → a || b ≡ true → (a ≡ true) ⊎ (b ≡ true)
or_cases true b e = inl refl
or_cases false b e = inr e

pub or_left : (a b : Bool) → a ≡ true → a || b ≡ true
or_left true b e = refl
or_left false b e = absurd (false≢true e)

pub or_right : (a b : Bool) → b ≡ true → a || b ≡ true
or_right true b e = refl
or_right false b e = e
