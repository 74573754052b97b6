-- The elements of a list by their index, and those of rows in order.
-- Assumes nothing.
use Prim.Native.Nat.{ℕ, zero, suc, ◌+◌, ◌≤◌, ◌<◌}
use mathlib.Core.Path.{◌≡◌, refl}
use mathlib.Core.List.{List, [], ◌∷◌, Memᴰ}
use native.Mathlib.Omega.{arith}
use native.Mathlib.Numerals.{add-one}
use lib.ListN.{length, get_or, drop, drop_of_length-le}
use lib.Seq.{drop-cons}
use Rattle.term.specs.declared.Term.{Term}
use Rattle.elimination_rules.specs.Rows.{Row, Precedes, Ascending}

pub member_at : {A : Type 0} (l : List A) (i : ℕ) (d : A) → i < length l → Memᴰ (get_or l i d) l
member_at [] i d h = absurd (omega arith)
member_at (x ∷ l) zero d h = Memᴰ.head refl
member_at (x ∷ l) (suc i) d h = Memᴰ.tail (member_at l i d (omega arith))

-- what is left of a list, from an index on
pub left_next : {A : Type 0} (l : List A) (i : ℕ) (d : A) → i < length l → drop i l ≡ get_or l i d ∷ drop (i + 1) l
left_next l i d h = rw (add-one i, drop-cons l i d h)

pub left_none : {A : Type 0} (l : List A) (i : ℕ) → length l ≤ i → drop i l ≡ []
left_none l i h = drop_of_length-le l {i = i} h

-- a term precedes each that stands behind it
pub ascending_at : (r : Row) → Ascending r → (i j : ℕ) (d : Term) → i < j → j < length r → Precedes (get_or r i d) (get_or r j d)
ascending_at [] a i j d h k = absurd (omega arith)
ascending_at (t ∷ r) a zero zero d h k = absurd (omega arith)
ascending_at (t ∷ r) a zero (suc j) d h k = a.0 (get_or r j d) (member_at r j d (omega arith))
ascending_at (t ∷ r) a (suc i) zero d h k = absurd (omega arith)
ascending_at (t ∷ r) a (suc i) (suc j) d h k = ascending_at r a.1 i j d (omega arith) (omega arith)
