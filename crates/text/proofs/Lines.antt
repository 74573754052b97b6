-- Lines one after another: of a list that is made of another, and how long they are at most.
-- Assumes nothing.
use Prim.Native.Nat.{ℕ, suc, ◌+◌, ◌*◌, ◌≤◌}
use mathlib.Core.Path.{◌≡◌, refl, ap}
use mathlib.Core.List.{List, [], ◌∷◌, ◌++◌, map}
use native.Mathlib.Omega.{arith}
use lib.ListN.{length, length-append}
use Rattle.text.specs.Text.{lines}

pub lines-map : {A B : Type 0} (line : ℕ → B → List ℕ) (f : A → B) (first : ℕ) (xs : List A) → lines line first (map f xs) ≡ lines (λ k x. line k (f x)) first xs
unfolding lines
lines-map line f first [] = refl
lines-map line f first (x ∷ xs) = ap (λ (l : List ℕ). line first (f x) ++ l) (lines-map line f (suc first) xs)

-- where no line is longer than the most, so many lines are no longer than so many times the most
module _ {A : Type 0} (line : ℕ → A → List ℕ) (most : ℕ) where
  pub length-lines : (first : ℕ) (xs : List A) → ((before after : List A) (x : A) → xs ≡ before ++ x ∷ after → length (line (first + length before) x) ≤ most)
      → length (lines line first xs) ≤ most * length xs
  unfolding lines
  length-lines first [] h = omega arith
  length-lines first (x ∷ xs) h =
      omega (arith, length-append (line first x) (lines line (suc first) xs), here, length-lines (suc first) xs later)
    where
      here : length (line first x) ≤ most
      here = let e : first + 0 ≡ first = omega arith in rw e at (h [] xs x refl)

      later : (before after : List A) (y : A) → xs ≡ before ++ y ∷ after → length (line (suc first + length before) y) ≤ most
      later before after y e =
          let d : first + suc (length before) ≡ suc first + length before = omega arith in
          rw d at (h (x ∷ before) after y (ap (λ l. x ∷ l) e))
