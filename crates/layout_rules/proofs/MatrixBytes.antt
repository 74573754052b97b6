-- A matrix record is what its matrix says: no two records have one matrix.
-- Assumes nothing.
use Prim.Native.Nat.{ℕ, zero, suc, ◌+◌, ◌*◌, ◌/◌, ◌%◌, ◌<◌, ◌≤◌}
use mathlib.Core.Path.{◌≡◌, refl, sym, ap, ap₂, ◌∙◌, subst}
use mathlib.Core.Bool.{Bool, true, false, cond}
use mathlib.Core.Logic.{⊎_elim}
use mathlib.Core.List.{List, []}
use native.Mathlib.Nat.{mod-lt, mod-eq_of_lt, div-eq_of_lt, div-lt_iff_lt-mul, div-add-mod', mul-add-mod_self_right, mul-add-div_right, eq-zero-or-pos}
use native.Mathlib.Omega.{arith}
use lib.Dec.{ltb}
use lib.IntN.{ℤ, pos, ◌-ℤ◌}
use lib.ListN.{length, get_or}
use lib.Seq.{ext_get_or}
use borrow.Author.Tests.{ltb-true, ltb-false}
use Rattle.integers.proofs.Expression.{nat, ◌⊝◌, equal_parts}
use Rattle.layout_rules.proofs.LittleEndian.{AreBytes, word_below}
use Rattle.layout_rules.proofs.MatrixRows.{matrix-length, matrix-row-length, matrix_at}
use Rattle.layout_rules.specs.Bytes.{word}
use Rattle.layout_rules.specs.Matrix.{rows, columns, matrix, matrix_length, IsMatrixRecord, signed_word, coefficient_place, coefficient_at}

-- ---- numbers row by row

-- number i times n plus j stands in row i and column j
pub number_parts : (n i j : ℕ) → j < n → ((i * n + j) % n ≡ j) × ((i * n + j) / n ≡ i)
number_parts n i j h = (mul-add-mod_self_right i n j ∙ mod-eq_of_lt h, mul-add-div_right (omega arith) i j ∙ omega (arith, div-eq_of_lt h))

-- number k of m rows of n, one after another
pub parts_within : (m n k : ℕ) → 1 ≤ n → k < m * n → (k / n < m) × (k % n < n)
parts_within m n k some h = ((div-lt_iff_lt-mul some).1 h, mod-lt k some)

-- ---- coefficients

signed_same : (x y : ℕ) → x < 65536 → y < 65536 → signed_word x ≡ signed_word y → x ≡ y
unfolding signed_word
signed_same x y h k = go (ltb x 32768) (ltb y 32768) refl refl
  where
    go : (t u : Bool) → ltb x 32768 ≡ t → ltb y 32768 ≡ u → cond t (pos x) (pos x -ℤ pos 65536) ≡ cond u (pos y) (pos y -ℤ pos 65536) → x ≡ y
    go true true p q e = omega (arith, equal_parts (nat x) (nat y) e)
    go true false p q e = omega (arith, ltb-true x 32768 p, ltb-false y 32768 q, equal_parts (nat x) (nat y ⊝ nat 65536) e)
    go false true p q e = omega (arith, ltb-false x 32768 p, ltb-true y 32768 q, equal_parts (nat x ⊝ nat 65536) (nat y) e)
    go false false p q e = omega (arith, equal_parts (nat x ⊝ nat 65536) (nat y ⊝ nat 65536) e)

-- ---- records

module _ (b c : List ℕ) (bytes : AreBytes b) (others : AreBytes c) where
  -- both bytes at a place, from their number
  same_bytes : (place : ℕ) → word b place ≡ word c place → (get_or b place 0 ≡ get_or c place 0) × (get_or b (place + 1) 0 ≡ get_or c (place + 1) 0)
  same_bytes place e = omega (arith, bytes place, others place)

  module _ (r : IsMatrixRecord b) (s : IsMatrixRecord c) (e : matrix b ≡ matrix c) where
    same_rows : rows b ≡ rows c
    same_rows = sym (matrix-length b) ∙ ap length e ∙ matrix-length c

    same-columns : columns b ≡ columns c
    same-columns =
        sym (matrix-row-length b 0 r.limits.rows-least) ∙ ap (λ (m : List (List ℤ)). length (get_or m 0 [])) e ∙ matrix-row-length c 0 s.limits.rows-least

    same_length : length b ≡ length c
    same_length = r.size ∙ ap₂ matrix_length same_rows same-columns ∙ sym s.size

    same_count : word b 0 ≡ word c 0
    same_count = r.counted ∙ same_length ∙ sym s.counted

    same_kind : word b 2 ≡ word c 2
    same_kind = r.kind ∙ sym s.kind

    same_coefficient : (k : ℕ) → k < rows b * columns b → coefficient_at b k ≡ coefficient_at c k
    same_coefficient k h =
        let n = columns b in
        let within = parts_within (rows b) n k r.limits.columns-least h in
        ap (coefficient_at b) (sym (div-add-mod' k n))
        ∙ sym (matrix_at b (k / n) (k % n) within.0 within.1)
        ∙ ap (λ (m : List (List ℤ)). get_or (get_or m (k / n) []) (k % n) (pos 0)) e
        ∙ matrix_at c (k / n) (k % n) (omega (arith, same_rows)) (omega (arith, same-columns))
        ∙ ap (λ (m : ℕ). coefficient_at c (k / n * m + k % n)) (sym same-columns)
        ∙ ap (coefficient_at c) (div-add-mod' k n)

    same_word : (k : ℕ) → k < rows b * columns b → word b (coefficient_place k) ≡ word c (coefficient_place k)
    unfolding coefficient_at
    same_word k h =
        signed_same (word b (coefficient_place k)) (word c (coefficient_place k)) (word_below b bytes (coefficient_place k)) (word_below c others (coefficient_place k))
        (same_coefficient k h)

    same_byte : (i : ℕ) → i < length b → get_or b i 0 ≡ get_or c i 0
    same_byte zero h = (same_bytes 0 same_count).0
    same_byte (suc zero) h = (same_bytes 0 same_count).1
    same_byte (suc (suc zero)) h = (same_bytes 2 same_kind).0
    same_byte (suc (suc (suc zero))) h = (same_bytes 2 same_kind).1
    same_byte (suc (suc (suc (suc zero)))) h = same_rows
    same_byte (suc (suc (suc (suc (suc zero))))) h = same-columns
    same_byte (suc (suc (suc (suc (suc (suc i)))))) h =
        let both = same_bytes (coefficient_place (i / 2)) (same_word (i / 2) (omega (arith, r.size))) in
        let at : ℕ → Type 0 = λ k. get_or b k 0 ≡ get_or c k 0 in
        ⊎_elim (λ even. subst at (omega arith) both.0) (λ odd. subst at (omega arith) both.1) (eq-zero-or-pos (i % 2))

    pub matrix_determines : b ≡ c
    matrix_determines = ext_get_or 0 b c same_length same_byte
