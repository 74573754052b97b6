-- Looking a symbol and an exponent up: what the first term says, that the first term that has both is found, and that what is found is the term asked for.
-- Assumes nothing.
use Prim.Native.Nat.{ℕ, zero, suc, ◌≤◌, ◌<◌}
use mathlib.Core.Path.{◌≡◌, refl, sym, ap, ◌∙◌}
use mathlib.Core.Bool.{Bool, true, false}
use mathlib.Core.List.{[], ◌∷◌}
use native.Mathlib.Omega.{arith}
use borrow.Author.Tests.{eqb-true, eq-eqb}
use lib.Dec.{eqb}
use lib.ListN.{length, get_or}
use Rattle.std.specs.Prelude.{cond, nat_lt, position, Some, None}
use Rattle.std.specs.List.{position_or_len}
use Rattle.std.proofs.lemmas.Bool.{ltb-false}
use Rattle.std.proofs.lemmas.Option.{none-some}
use Rattle.std.proofs.lemmas.List.Quantifiers.{position-Some}
use Rattle.std.proofs.lemmas.List.Recursion.{is_position_or_len}
use Rattle.term.specs.declared.Term.{Term}
use Rattle.elimination_rules.specs.Rows.{Row}
use Rattle.elimination_rules.specs.Lookup.{sign_number, sign_at}
use Rattle.elimination_rules.proofs.Tests.{by_bool, clash, and_left, and_right, and_both}
use Rattle.elimination_lookup.specs.Found.{Found, stands, place_at, found_in}

no_sign : (negative : Bool) → ◌≡◌ {A = ℕ} 0 (sign_number negative) → ⊥
no_sign true q = omega arith
no_sign false q = omega arith

module _ (s e : ℕ) where
  module _ (t : Term) where
    pub stands_yes : stands s e t ≡ true → (t.symbol ≡ s) × (t.exponent ≡ e)
    stands_yes h =
        (eqb-true t.symbol s (and_left (eqb t.symbol s) (eqb t.exponent e) h), eqb-true t.exponent e (and_right (eqb t.symbol s) (eqb t.exponent e) h))

    pub stands_no : stands s e t ≡ false → (t.symbol ≡ s) × (t.exponent ≡ e) → ⊥
    stands_no h k = clash (and_both _ _ (eq-eqb t.symbol s k.0) (eq-eqb t.exponent e k.1)) h

  -- what the first term says of a row
  module _ (t : Term) (r : Row) where
    pub sign_here : stands s e t ≡ true → sign_at (t ∷ r) s e ≡ sign_number t.negative
    unfolding sign_at
    sign_here h = rw (h, sign_at)

    pub sign-later : stands s e t ≡ false → sign_at (t ∷ r) s e ≡ sign_at r s e
    unfolding sign_at
    sign-later h = rw (h, sign_at)

    place_here : stands s e t ≡ true → place_at (t ∷ r) s e ≡ 0
    unfolding place_at
    place_here h = rw (h, place_at)

    place-later : stands s e t ≡ false → place_at (t ∷ r) s e ≡ suc (place_at r s e)
    unfolding place_at
    place-later h = rw (h, place_at)

  no_terms : sign_at [] s e ≡ 0
  unfolding sign_at
  no_terms = refl

  no_place : place_at [] s e ≡ 0
  unfolding place_at
  no_place = refl

  -- ---- the place of the first term that stands, and the sign there

  place_is : (r : Row) → place_at r s e ≡ position_or_len (stands s e) r
  place_is = is_position_or_len (λ r. place_at r s e) (stands s e) no_place
      (λ t r. by_bool (stands s e t) (λ y. rw y (place_here t r y)) (λ y. rw y (omega (arith, place-later t r y))))

  first_stands : (r : Row) (i : ℕ) (d : Term) → i < length r → stands s e (get_or r i d) ≡ true → ((k : ℕ) → k < i → stands s e (get_or r k d) ≡ false)
      → record { place = i; sign = sign_number (get_or r i d).negative } ≡ found_in r s e
  first_stands [] i d l y before = absurd (omega arith)
  first_stands (t ∷ r) zero d l y before = rw (place_here t r y, sign_here t r y) refl
  first_stands (t ∷ r) (suc i) d l y before =
      let n = before 0 (omega arith) in
      rw (place-later t r n, sign-later t r n) (ap (λ (f : Found). record { place = suc f.place; sign = f.sign }) (first_stands r i d (omega arith) y (λ k h. before (suc k) (omega arith))))

  none_stands : (r : Row) → length r ≤ place_at r s e → record { place = length r; sign = 0 } ≡ found_in r s e
  none_stands [] l = rw (no_place, no_terms) refl
  none_stands (t ∷ r) l =
      by_bool (stands s e t)
      (λ y. absurd (omega (arith, place_here t r y)))
      (λ y.
      rw (place-later t r y, sign-later t r y) (ap (λ (f : Found). record { place = suc f.place; sign = f.sign }) (none_stands r (omega (arith, place-later t r y)))))

  pub found_some : (r : Row) (i : ℕ) (d : Term) → position (stands s e) r ≡ Some i → record { place = i; sign = sign_number (get_or r i d).negative } ≡ found_in r s e
  found_some r i d h = let (l, y, before) = position-Some (stands s e) r i d h in first_stands r i d l y before

  pub found_nowhere : (r : Row) → position (stands s e) r ≡ None → record { place = length r; sign = 0 } ≡ found_in r s e
  found_nowhere r h =
      by_bool (nat_lt (position_or_len (stands s e) r) (length r))
      (λ y. absurd (none-some (position_or_len (stands s e) r) (sym h ∙ ap (λ (b : Bool). cond b (Some (position_or_len (stands s e) r)) None) y)))
      (λ y. none_stands r (rw (place_is r) (ltb-false _ _ y)))

  -- ---- what is found, where it is said to stand

  -- the term that stands there has the symbol, the exponent and the sign
  pub found_there : (r : Row) (d : Term) → (sign_at r s e ≡ 0 → ⊥)
      → (place_at r s e < length r) × ((get_or r (place_at r s e) d).symbol ≡ s) × ((get_or r (place_at r s e) d).exponent ≡ e) × (sign_number (get_or r (place_at r s e) d).negative ≡ sign_at r s e)
  found_there [] d h = absurd (h no_terms)
  found_there (t ∷ r) d h =
      by_bool (stands s e t)
      (λ y. rw (place_here t r y) (omega arith, (stands_yes t y).0, (stands_yes t y).1, sym (sign_here t r y)))
      (λ y. let (l, p, q, n) = found_there r d (λ z. h (sign-later t r y ∙ z)) in rw (place-later t r y, sign-later t r y) (omega arith, p, q, n))

  -- where no sign is found, the place is past the last term
  pub found_none : (r : Row) → sign_at r s e ≡ 0 → place_at r s e ≡ length r
  found_none [] h = no_place
  found_none (t ∷ r) h =
      by_bool (stands s e t)
      (λ y. absurd (no_sign t.negative (sym h ∙ sign_here t r y)))
      (λ y. place-later t r y ∙ ap suc (found_none r (sym (sign-later t r y) ∙ h)))
