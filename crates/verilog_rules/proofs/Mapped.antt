-- What holds of f of each in a list holds of each in the list that f makes of it.
-- Assumes nothing.
use mathlib.Core.Path.{◌≡◌, refl, ap, subst}
use mathlib.Core.List.{List, [], ◌∷◌, ◌++◌, map}
use Prim.Native.Nat.{ℕ, suc}
use native.Mathlib.Omega.{arith}
use lib.ListN.{length, get_or, drop, length-append}

pub each_mapped : {A B : Type 0} (f : A → B) (xs : List A) (P : ℕ → B → Type 0)
    → ((before after : List A) (x : A) → xs ≡ before ++ x ∷ after → P (length before) (f x))
    → (before after : List B) (y : B) → map f xs ≡ before ++ y ∷ after → P (length before) y
each_mapped f [] P h before after y e = absurd (omega (arith, ap length e, length-append before (y ∷ after)))
each_mapped f (x ∷ xs) P h [] after y e = subst (P 0) (ap (λ l. get_or l 0 y) e) (h [] xs x refl)
each_mapped f (x ∷ xs) P h (b ∷ before) after y e =
    each_mapped f xs (λ k. P (suc k)) (λ first later z d. h (x ∷ first) later z (ap (λ l. x ∷ l) d)) before after y (ap (drop 1) e)
