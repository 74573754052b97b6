-- The refusals 1 to 5 of a matrix's bytes, each from what holds where it applies, and what accepted bytes are: none, or a matrix record.
-- Assumes nothing.
use Prim.Native.Nat.{ℕ, ◌+◌, ◌*◌, ◌<◌, ◌≤◌}
use mathlib.Core.Path.{◌≡◌, refl, sym, ap, subst}
use mathlib.Core.Bool.{true, false, not}
use mathlib.Core.List.{List, [], ◌∷◌}
use mathlib.Core.Logic.{◌↔◌, ◌⊎◌, inl, inr}
use native.Mathlib.Omega.{arith}
use lib.Dec.{ltb, eqb}
use lib.ListN.{length}
use borrow.Author.Tests.{lt-ltb, le-ltb, eq-eqb, ne_eqb, eqb-true, not-false}
use Rattle.limits.specs.Size.{BankSize, size_outside}
use Rattle.limits.proofs.Size.{size-within, size-inside, bank_size}
use Rattle.layout_rules.proofs.Refusal.{passed}
use Rattle.layout_rules.specs.Bytes.{word}
use Rattle.layout_rules.specs.Matrix.{rows, columns, coefficient_place, matrix_length, IsMatrixRecord, matrix_refusal}

module _ (b : List ℕ) where
  pub no_bytes : length b ≡ 0 → 0 ≡ matrix_refusal b
  unfolding matrix_refusal
  no_bytes h = simp (eq-eqb (length b) 0 h)

  pub some_bytes : 1 ≤ length b → eqb (length b) 0 ≡ false
  some_bytes h = ne_eqb (length b) 0 (λ e. omega (arith, e))

  pub too_short : 1 ≤ length b → length b < 6 → 1 ≡ matrix_refusal b
  unfolding matrix_refusal
  too_short some h = simp (some_bytes some, lt-ltb (length b) 6 h)

  module _ (enough : 6 ≤ length b) where
    some : eqb (length b) 0 ≡ false
    some = some_bytes (omega arith)

    pub other_length : (word b 0 ≡ length b → ⊥) → 2 ≡ matrix_refusal b
    unfolding matrix_refusal
    other_length h = simp (some, le-ltb (length b) 6 enough, ne_eqb (word b 0) (length b) h)

    module _ (counted : word b 0 ≡ length b) where
      pub other_kind : (word b 2 ≡ 1 → ⊥) → 3 ≡ matrix_refusal b
      unfolding matrix_refusal
      other_kind h = simp (some, le-ltb (length b) 6 enough, eq-eqb (word b 0) (length b) counted, ne_eqb (word b 2) 1 h)

      module _ (kind : word b 2 ≡ 1) where
        pub out_of-limits : size_outside (rows b) (columns b) ≡ true → 4 ≡ matrix_refusal b
        unfolding matrix_refusal
        out_of-limits h = simp (some, le-ltb (length b) 6 enough, eq-eqb (word b 0) (length b) counted, eq-eqb (word b 2) 1 kind, h)

        module _ (limits : size_outside (rows b) (columns b) ≡ false) where
          pub other_size : (length b ≡ matrix_length (rows b) (columns b) → ⊥) → 5 ≡ matrix_refusal b
          unfolding matrix_refusal
          other_size h =
              simp (some, le-ltb (length b) 6 enough, eq-eqb (word b 0) (length b) counted, eq-eqb (word b 2) 1 kind, limits, ne_eqb (length b) (matrix_length (rows b) (columns b)) h)

          pub none : length b ≡ matrix_length (rows b) (columns b) → 0 ≡ matrix_refusal b
          unfolding matrix_refusal
          none h =
              simp (some, le-ltb (length b) 6 enough, eq-eqb (word b 0) (length b) counted, eq-eqb (word b 2) 1 kind, limits, eq-eqb (length b) (matrix_length (rows b) (columns b)) h)

-- ---- what accepted bytes are

record-accepted : (b : List ℕ) → eqb (length b) 0 ≡ false → matrix_refusal b ≡ 0 → IsMatrixRecord b
unfolding matrix_refusal
record-accepted b some e =
    let past_none = rw some at e in
    let past_short = passed (ltb (length b) 6) 1 _ (omega arith) past_none in
    let past_length = passed (not (eqb (word b 0) (length b))) 2 _ (omega arith) past_short.1 in
    let past_kind = passed (not (eqb (word b 2) 1)) 3 _ (omega arith) past_length.1 in
    let past_limits = passed (size_outside (rows b) (columns b)) 4 _ (omega arith) past_kind.1 in
    let past_size = passed (not (eqb (length b) (matrix_length (rows b) (columns b)))) 5 0 (omega arith) past_limits.1 in
    record {
      counted = eqb-true (word b 0) (length b) (not-false _ past_length.0);
      kind = eqb-true (word b 2) 1 (not-false _ past_kind.0);
      limits = size-within (rows b) (columns b) past_limits.0;
      size = eqb-true (length b) (matrix_length (rows b) (columns b)) (not-false _ past_size.0);
    }

-- no bytes, or a matrix record
pub matrix-accepted : (b : List ℕ) → (matrix_refusal b ≡ 0) ↔ ((b ≡ []) ⊎ IsMatrixRecord b)
matrix-accepted b = (there b, back)
  where
    there : (b : List ℕ) → matrix_refusal b ≡ 0 → (b ≡ []) ⊎ IsMatrixRecord b
    there [] e = inl refl
    there (x ∷ xs) e = inr (record-accepted (x ∷ xs) (some_bytes (x ∷ xs) (omega arith)) e)

    back : (b ≡ []) ⊎ IsMatrixRecord b → matrix_refusal b ≡ 0
    back (inl e) = sym (no_bytes b (omega (arith, ap length e)))
    back (inr r) = sym (none b (omega (arith, r.size)) r.counted r.kind (size-inside (rows b) (columns b) r.limits) r.size)

-- what both have: m and n of a bank, and the bytes of every coefficient
pub record AcceptedMatrix (b : List ℕ) : Type 0 where
  pub limits : BankSize (rows b) (columns b)
  pub there : (index : ℕ) → index < rows b * columns b → coefficient_place index + 1 < length b

pub accepted-matrix : (b : List ℕ) → matrix_refusal b ≡ 0 → AcceptedMatrix b
accepted-matrix b e = go ((matrix-accepted b).0 e)
  where
    go : (b ≡ []) ⊎ IsMatrixRecord b → AcceptedMatrix b
    go (inl none) = subst AcceptedMatrix (sym none) (record { limits = (bank_size 0 0).1 (inl (refl, refl)); there = λ index h. absurd (omega arith) })
    go (inr r) = record { limits = (bank_size (rows b) (columns b)).1 (inr r.limits); there = λ index h. omega (arith, r.size) }
