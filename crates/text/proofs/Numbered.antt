-- Lines by their numbers: one more of them, and those of a list.
-- Assumes nothing.
use Prim.Native.Nat.{ℕ, zero, suc, ◌+◌, ◌<◌}
use mathlib.Core.Path.{◌≡◌, refl, sym, ap, ap₂, ◌∙◌}
use mathlib.Core.List.{List, [], ◌∷◌, ◌++◌, append_assoc, append-nil}
use native.Mathlib.Omega.{arith}
use lib.ListN.{length, get_or}
use Rattle.text.specs.Text.{lines, lines_of}
use Rattle.text.specs.Wrote.{Wrote}
use Rattle.text.proofs.Wrote.{wrote_nothing}

pub lines_start : (before : List ℕ) (line : ℕ → List ℕ) → Wrote before before 0 (lines_of line 0)
unfolding lines_of
lines_start before line = wrote_nothing before

pub lines_more : (line : ℕ → List ℕ) (k : ℕ) → lines_of line k ++ line k ≡ lines_of line (k + 1)
unfolding lines_of
lines_more line k = let e : k + 1 ≡ suc k = omega arith in rw e refl

-- the first line apart
lines_behind : (line : ℕ → List ℕ) (count : ℕ) → lines_of line (suc count) ≡ line 0 ++ lines_of (λ k. line (suc k)) count
unfolding lines_of
lines_behind line zero = sym (append-nil (line 0))
lines_behind line (suc count) =
    ap (λ (l : List ℕ). l ++ line (suc count)) (lines_behind line count)
    ∙ append_assoc (line 0) (lines_of (λ k. line (suc k)) count) (line (suc count))

lines_each : {A : Type 0} (line : ℕ → A → List ℕ) (each : ℕ → List ℕ) (first : ℕ) (xs : List A)
    → ((k : ℕ) (x : A) → k < length xs → get_or xs k x ≡ x → each k ≡ line (first + k) x)
    → lines_of each (length xs) ≡ lines line first xs
unfolding lines_of lines
lines_each line each first [] h = refl
lines_each line each first (x ∷ xs) h =
    lines_behind each (length xs)
    ∙ ap₂ (λ (l rest : List ℕ). l ++ rest) here (lines_each line (λ k. each (suc k)) (suc first) xs later)
  where
    here : each 0 ≡ line first x
    here = let e : first + 0 ≡ first = omega arith in rw e at (h 0 x (omega arith) refl)

    later : (k : ℕ) (y : _) → k < length xs → get_or xs k y ≡ y → each (suc k) ≡ line (suc first + k) y
    later k y l e = let n : first + suc k ≡ suc first + k = omega arith in rw n at (h (suc k) y (omega arith) e)

-- the lines of a list that holds these items, by their numbers
pub lines_listed : {A : Type 0} (line : ℕ → A → List ℕ) (first : ℕ) (xs : List A) (item : ℕ → A) (count : ℕ) → length xs ≡ count
    → ((k : ℕ) (d : A) → k < count → get_or xs k d ≡ item k)
    → lines_of (λ k. line (first + k) (item k)) count ≡ lines line first xs
lines_listed line first xs item count e h =
    ap (lines_of (λ k. line (first + k) (item k))) (sym e)
    ∙ lines_each line (λ k. line (first + k) (item k)) first xs
    (λ k x l there. ap (line (first + k)) (sym (h k x (omega (arith, l, e))) ∙ there))
