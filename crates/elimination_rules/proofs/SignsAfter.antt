-- What the row after a step says of each symbol and exponent: of the new symbol, the taken occurrences; of any other, what the row said
-- before, without the terms of those.
-- Assumes nothing.
use Prim.Native.Nat.{ℕ, zero, suc, ◌+◌, ◌≤◌}
use mathlib.Core.Path.{◌≡◌, refl, sym, ◌∙◌, ap, ap₂}
use mathlib.Core.Logic.{⊎_elim}
use mathlib.Core.Bool.{Bool, true, false, not, ◌&&◌, false≢true}
use mathlib.Core.List.Memᴰ
use mathlib.Core.List.{List, [], ◌∷◌, ◌++◌, Memᴰ}
use native.Mathlib.Omega.{arith}
use lib.Dec.{eqb}
use lib.ListN.{get_or}
use lib.Seq.{get_or_at}
use borrow.Author.Tests.{eqb-true, eqb-false}
use Rattle.term.specs.declared.Term.{Term}
use Rattle.elimination_rules.specs.declared.Divisor.{Divisor}
use Rattle.elimination_rules.specs.Rows.{Row, WellFormed}
use Rattle.elimination_rules.specs.Divisors.{same_place}
use Rattle.elimination_rules.specs.Elimination.{row_after}
use Rattle.elimination_rules.specs.Lookup.{Proper, Signs, sign_number, sign_at, occurs_with, occurs_at, overlaps_taken, taken_flags, part_of_taken, kept_terms, lookup_term, lookup_terms_from, lookup_row_after}
use Rattle.elimination_rules.proofs.Tests.{by_bool, by_test, clash, and_left}
use Rattle.elimination_rules.proofs.Same.{same_place_lem, place_same}
use Rattle.elimination_rules.proofs.LookupSigns.{sign_yes, sign_no, none-there, occurs_first, occurs_second}
use Rattle.elimination_rules.proofs.LookupTaken.{flags-length, one_more}
use Rattle.elimination_rules.proofs.LookupAfter.{row-after_looked_up}

-- ---- signs

-- a term at a place; which sign it has does not count
abbrev pub place : ℕ → ℕ → Term
place s e = record { symbol = s; exponent = e; negative = false }

sign-number-there : (n : Bool) → sign_number n ≡ 0 → ⊥
sign-number-there true h = omega arith
sign-number-there false h = omega arith

sign-number-most : (n : Bool) → sign_number n ≤ 2
sign-number-most true = omega arith
sign-number-most false = omega arith

pub sign-most : (r : Row) (s e : ℕ) → sign_at r s e ≤ 2
unfolding sign_at
sign-most [] s e = omega arith
sign-most (t ∷ r) s e = by_test (same_place t (place s e)) (sign_number t.negative) (sign_at r s e) (λ z. z ≤ 2) (λ h. sign-number-most t.negative) (λ h. sign-most r s e)

-- the sign of a term that is there is 1 or 2
pub sign-number_back : (x : ℕ) → x ≤ 2 → (x ≡ 0 → ⊥) → sign_number (eqb x 2) ≡ x
sign-number_back zero l h = absurd (h refl)
sign-number_back (suc zero) l h = refl
sign-number_back (suc (suc zero)) l h = refl
sign-number_back (suc (suc (suc x))) l h = absurd (omega arith)

-- a row of two parts has the sign that one part has where the other has none
pub sign-append-first : (r q : Row) (s e : ℕ) → sign_at q s e ≡ 0 → sign_at (r ++ q) s e ≡ sign_at r s e
unfolding sign_at
sign-append-first [] q s e h = h
sign-append-first (t ∷ r) q s e h = ap (λ z. elim (same_place t (place s e)) [ true ↦ sign_number t.negative | false ↦ z ]) (sign-append-first r q s e h)

pub sign-append-second : (r q : Row) (s e : ℕ) → sign_at r s e ≡ 0 → sign_at (r ++ q) s e ≡ sign_at q s e
unfolding sign_at
sign-append-second [] q s e h = refl
sign-append-second (t ∷ r) q s e h = by_bool (same_place t (place s e))
    (λ k. absurd (sign-number-there t.negative (sym (sign_yes t r (place s e) k) ∙ h)))
    (λ k. sign_no t (r ++ q) (place s e) k ∙ sign-append-second r q s e (sym (sign_no t r (place s e) k) ∙ h))

-- ---- the terms that stay

kept_yes : (d : Divisor) (flags : List Bool) (t : Term) (r : Row) → part_of_taken d flags t ≡ true → kept_terms d flags (t ∷ r) ≡ kept_terms d flags r
unfolding kept_terms
kept_yes d flags t r e = rw (e, kept_terms)

kept_no : (d : Divisor) (flags : List Bool) (t : Term) (r : Row) → part_of_taken d flags t ≡ false → kept_terms d flags (t ∷ r) ≡ t ∷ kept_terms d flags r
unfolding kept_terms
kept_no d flags t r e = rw (e, kept_terms)

module _ (d : Divisor) (flags : List Bool) where
  -- whether a term is part of a taken occurrence rests on its place
  part_same : (t : Term) (s e : ℕ) → same_place t (place s e) ≡ true → part_of_taken d flags t ≡ part_of_taken d flags (place s e)
  part_same t s e k = let h = same_place_lem t (place s e) k in ap₂ (λ x y. part_of_taken d flags (place x y)) h.0 h.1

  kept-sign_gone : (r : Row) (s e : ℕ) → part_of_taken d flags (place s e) ≡ true → sign_at (kept_terms d flags r) s e ≡ 0
  unfolding kept_terms sign_at
  kept-sign_gone [] s e h = refl
  kept-sign_gone (t ∷ r) s e h = by_bool (part_of_taken d flags t)
      (λ k. ap (λ z. sign_at z s e) (kept_yes d flags t r k) ∙ kept-sign_gone r s e h)
      (λ k. ap (λ z. sign_at z s e) (kept_no d flags t r k) ∙ by_bool (same_place t (place s e))
      (λ l. clash (part_same t s e l ∙ h) k)
      (λ l. sign_no t (kept_terms d flags r) (place s e) l ∙ kept-sign_gone r s e h))

  kept-sign_stays : (r : Row) (s e : ℕ) → part_of_taken d flags (place s e) ≡ false → sign_at (kept_terms d flags r) s e ≡ sign_at r s e
  unfolding kept_terms sign_at
  kept-sign_stays [] s e h = refl
  kept-sign_stays (t ∷ r) s e h = by_bool (same_place t (place s e))
      (λ l. ap (λ z. sign_at z s e) (kept_no d flags t r (part_same t s e l ∙ h)) ∙ sign_yes t (kept_terms d flags r) (place s e) l ∙ sym (sign_yes t r (place s e) l))
      (λ l. by_bool (part_of_taken d flags t)
      (λ k. ap (λ z. sign_at z s e) (kept_yes d flags t r k))
      (λ k. ap (λ z. sign_at z s e) (kept_no d flags t r k) ∙ sign_no t (kept_terms d flags r) (place s e) l)
      ∙ kept-sign_stays r s e h ∙ sym (sign_no t r (place s e) l))

  pub sign-of-kept : (r : Row) (s e : ℕ) → sign_at (kept_terms d flags r) s e ≡ elim (part_of_taken d flags (place s e)) [ true ↦ 0 | false ↦ sign_at r s e ]
  sign-of-kept r s e = by_test (part_of_taken d flags (place s e)) 0 (sign_at r s e) (λ z. sign_at (kept_terms d flags r) s e ≡ z) (kept-sign_gone r s e) (kept-sign_stays r s e)

-- ---- the new terms

module _ (symbol : ℕ) (signs : Signs) (d : Divisor) where
  new_member : (c : ℕ) (flags : List Bool) (t : Term) → Memᴰ t (lookup_terms_from symbol signs d c flags) → (t.symbol ≡ symbol) × (c ≤ t.exponent)
  unfolding lookup_terms_from
  new_member c [] t m = absurd (Memᴰ.not-nil m)
  new_member c (true ∷ flags) t m = ⊎_elim
      (λ e. (ap (λ z. z.symbol) e, omega (arith, ap (λ z. z.exponent) e)))
      (λ k. let h = new_member (suc c) flags t k in (h.0, omega (arith, h.1)))
      (Memᴰ.cases_cons m)
  new_member c (false ∷ flags) t m = let h = new_member (suc c) flags t m in (h.0, omega (arith, h.1))

  pub sign-of_new : (c : ℕ) (flags : List Bool) (i e : ℕ) → e ≡ c + i
      → sign_at (lookup_terms_from symbol signs d c flags) symbol e ≡ elim (get_or flags i false) [ true ↦ sign_number (eqb (signs d.a (d.ea + e)) 2) | false ↦ 0 ]
  unfolding lookup_terms_from sign_at
  sign-of_new c [] i e h = refl
  sign-of_new c (true ∷ flags) zero e h =
      let here : c ≡ e = omega arith in
      sign_yes (lookup_term symbol signs d c) (lookup_terms_from symbol signs d (suc c) flags) (place symbol e) (place_same (lookup_term symbol signs d c) (place symbol e) (refl, here))
      ∙ ap (λ z. sign_number (eqb (signs d.a (d.ea + z)) 2)) here
  sign-of_new c (true ∷ flags) (suc i) e h =
      sign_no (lookup_term symbol signs d c) (lookup_terms_from symbol signs d (suc c) flags) (place symbol e)
      (by_bool (same_place (lookup_term symbol signs d c) (place symbol e)) (λ k. absurd (omega (arith, (same_place_lem (lookup_term symbol signs d c) (place symbol e) k).1))) (λ k. k))
      ∙ sign-of_new (suc c) flags i e (omega arith)
  sign-of_new c (false ∷ flags) zero e h = none-there (lookup_terms_from symbol signs d (suc c) flags) symbol e (λ t m s k. omega (arith, (new_member (suc c) flags t m).1))
  sign-of_new c (false ∷ flags) (suc i) e h = sign-of_new (suc c) flags i e (omega arith)

-- ---- a flag says that there is an occurrence

pub flag_occurs : (signs : Signs) (d : Divisor) (n i : ℕ) → get_or (taken_flags signs d n) i false ≡ true → occurs_at signs d i ≡ true
unfolding taken_flags
flag_occurs signs d zero i e = absurd (false≢true e)
flag_occurs signs d (suc c) i e =
    let flags : List Bool = taken_flags signs d c in
    let flag : Bool = occurs_at signs d c && not (overlaps_taken d flags c) in
    by_bool (eqb i c)
    (λ h. ap (occurs_at signs d) (eqb-true i c h) ∙ and_left (occurs_at signs d c) (not (overlaps_taken d flags c)) (sym (get_or_at flags flag [] false c (flags-length signs d c)) ∙ ap (λ z. get_or (flags ++ (flag ∷ [])) z false) (sym (eqb-true i c h)) ∙ e))
    (λ h. flag_occurs signs d c i (sym (one_more flags flag i (λ k. eqb-false i c h (k ∙ flags-length signs d c))) ∙ e))

-- ---- the row after a step

module _ (positions symbol : ℕ) (d : Divisor) (proper : Proper d) (r : Row) (w : WellFormed positions symbol r) where
  flags : List Bool
  flags = taken_flags (sign_at r) d positions

  in_parts : (s e : ℕ) → sign_at (row_after symbol d r) s e ≡ sign_at (kept_terms d flags r ++ lookup_terms_from symbol (sign_at r) d 0 flags) s e
  unfolding lookup_row_after flags
  in_parts s e = ap (λ z. sign_at z s e) (sym (row-after_looked_up positions symbol d proper r w.ascending w.exponents))

  -- the new symbol: the co-divisors of the taken occurrences, with the signs of their first terms
  pub sign-after_new : (e : ℕ)
      → sign_at (row_after symbol d r) symbol e ≡ elim (get_or (taken_flags (sign_at r) d positions) e false) [ true ↦ sign_at r d.a (d.ea + e) | false ↦ 0 ]
  unfolding flags
  sign-after_new e =
      let x : ℕ = sign_at r d.a (d.ea + e) in
      let y : ℕ = sign_at r d.b (d.eb + e) in
      let before : sign_at r symbol e ≡ 0 = none-there r symbol e (λ t m h k. omega (arith, w.symbols t m)) in
      let kept : sign_at (kept_terms d flags r) symbol e ≡ 0 = sign-of-kept d flags r symbol e
      ∙ by_test (part_of_taken d flags (place symbol e)) 0 (sign_at r symbol e) (λ z. z ≡ 0) (λ h. refl) (λ h. before) in
      in_parts symbol e
      ∙ sign-append-second (kept_terms d flags r) (lookup_terms_from symbol (sign_at r) d 0 flags) symbol e kept
      ∙ sign-of_new symbol (sign_at r) d 0 flags e e (omega arith)
      ∙ by_bool (get_or flags e false)
      (λ h. ap (λ b. elim b [ true ↦ sign_number (eqb x 2) | false ↦ 0 ]) h
      ∙ sign-number_back x (sign-most r d.a (d.ea + e)) (occurs_first d.minus x y (flag_occurs (sign_at r) d positions e h))
      ∙ ap (λ b. elim b [ true ↦ x | false ↦ 0 ]) (sym h))
      (λ h. ap (λ b. elim b [ true ↦ sign_number (eqb x 2) | false ↦ 0 ]) h ∙ ap (λ b. elim b [ true ↦ x | false ↦ 0 ]) (sym h))

  -- any other symbol: as before, without the terms of the taken occurrences
  pub sign-after_old : (s e : ℕ) → (s ≡ symbol → ⊥)
      → sign_at (row_after symbol d r) s e ≡ elim (part_of_taken d (taken_flags (sign_at r) d positions) (record { symbol = s; exponent = e; negative = false })) [ true ↦ 0 | false ↦ sign_at r s e ]
  unfolding flags
  sign-after_old s e n =
      in_parts s e
      ∙ sign-append-first (kept_terms d flags r) (lookup_terms_from symbol (sign_at r) d 0 flags) s e
      (none-there (lookup_terms_from symbol (sign_at r) d 0 flags) s e (λ t m h k. n (sym h ∙ (new_member symbol (sign_at r) d 0 flags t m).0)))
      ∙ sign-of-kept d flags r s e

  -- so an occurrence of a divisor without the new symbol was there before
  sign-before : (s e : ℕ) → (s ≡ symbol → ⊥) → (sign_at (row_after symbol d r) s e ≡ 0 → ⊥) → sign_at (row_after symbol d r) s e ≡ sign_at r s e
  sign-before s e n = rw (sign-after_old s e n) (by_test (part_of_taken d (taken_flags (sign_at r) d positions) (place s e)) 0 (sign_at r s e) (λ z. (z ≡ 0 → ⊥) → z ≡ sign_at r s e)
      (λ h there. absurd (there refl))
      (λ h there. refl))

  pub occurs_before : (x : Divisor) → (x.a ≡ symbol → ⊥) → (x.b ≡ symbol → ⊥) → (c : ℕ) → occurs_at (sign_at (row_after symbol d r)) x c ≡ true → occurs_at (sign_at r) x c ≡ true
  occurs_before x a b c e =
      let after : Signs = sign_at (row_after symbol d r) in
      let y : ℕ = after x.a (x.ea + c) in
      let z : ℕ = after x.b (x.eb + c) in
      sym (ap₂ (occurs_with x.minus) (sign-before x.a (x.ea + c) a (occurs_first x.minus y z e)) (sign-before x.b (x.eb + c) b (occurs_second x.minus y z e))) ∙ e
