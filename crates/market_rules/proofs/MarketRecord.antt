-- Two's complement reads back; and the record of an accepted text is a matrix record that has the text's entries, entry k in row k mod m of
-- column k div m.
-- Assumes nothing.
use Prim.Native.Nat.{ℕ, suc, ◌+◌, ◌*◌, ◌-◌, ◌/◌, ◌%◌, ◌≤◌, ◌<◌}
use mathlib.Core.Path.{◌≡◌, refl, sym, ap, ap₂, ◌∙◌}
use mathlib.Core.Logic.{◌↔◌}
use mathlib.Core.List.{List, [], ◌∷◌}
use native.Mathlib.Decide.{dec_lt}
use native.Mathlib.Nat.{mul_comm, mul-le-mul, le_refl, div-add-mod'}
use native.Mathlib.Omega.{arith}
use lib.IntN.{ℤ, pos, negsuc}
use lib.ListN.{length, get_or, get_or-eq_default}
use lib.Seq.{ext_get_or}
use lib.Signed.{◌≤ℤ◌}
use borrow.Author.Tests.{lt-ltb, le-ltb}
use Rattle.integers.proofs.Expression.{nat, minus, ◌⊝◌, equal, at_most_parts}
use Rattle.limits.specs.Size.{SizeLimits}
use Rattle.layout_rules.specs.Matrix.{rows, columns, matrix, matrix_length, IsMatrixRecord, signed_word}
use Rattle.layout_rules.specs.Tests.{Test, tested, AllPass, first_tests}
use Rattle.layout_rules.proofs.FirstRecords.{length-first, get_d_first}
use Rattle.layout_rules.proofs.LittleEndian.{AreBytes}
use Rattle.layout_rules.proofs.MatrixBytes.{number_parts, parts_within}
use Rattle.layout_rules.proofs.MatrixRecord.{matrix-record-length, matrix-record-bytes, matrix_coefficient}
use Rattle.layout_rules.proofs.MatrixRows.{matrix-length, matrix-row-length, matrix_at}
use Rattle.layout_rules.proofs.TestLaws.{all_append, all_split, first-all, all_first}
use Rattle.market_rules.specs.Lines.{line}
use Rattle.market_rules.specs.Forms.{first_line}
use Rattle.market_rules.specs.Market.{size_index, file_rows, file_columns, entry_count, entry_lines, entry_place, file_entry, twos_complement, entry_index, coefficient_words, market_record}
use Rattle.market_rules.specs.Tests.{SizeLine, EntryLine, entry_tests, market_tests}

-- ---- two's complement

pub signed_complement : (z : ℤ) → negsuc 32767 ≤ℤ z → z ≤ℤ pos 32767 → signed_word (twos_complement z) ≡ z
unfolding signed_word
signed_complement (pos x) least most = rw (lt-ltb x 32768 (omega (arith, at_most_parts (nat x) (nat 32767) most)))
signed_complement (negsuc x) least most =
    let few = at_most_parts (minus (nat 32768)) (minus (nat (suc x))) least in
    rw (le-ltb (65535 - x) 32768 (omega arith)) (equal (nat (65535 - x) ⊝ nat 65536) (minus (nat (suc x))) (omega arith))

pub complement_below : (z : ℤ) → z ≤ℤ pos 32767 → twos_complement z < 65536
complement_below (pos x) most = omega (arith, at_most_parts (nat x) (nat 32767) most)
complement_below (negsuc x) most = omega arith

-- ---- a record's matrix is what its entries column by column say

-- row k mod m of column k div m
abbrev pub column_entry : List ℕ → ℕ → ℤ
column_entry bytes k = get_or (get_or (matrix bytes) (k % rows bytes) []) (k / rows bytes) (pos 0)

entry_at : (b : List ℕ) (i j : ℕ) → i < rows b → column_entry b (j * rows b + i) ≡ get_or (get_or (matrix b) i []) j (pos 0)
entry_at b i j h =
    let parts = number_parts (rows b) j i h in
    ap₂ (λ (x y : ℕ). get_or (get_or (matrix b) x []) y (pos 0)) parts.0 parts.1

pub entries_determine : (b c : List ℕ) → rows b ≡ rows c → columns b ≡ columns c → ((k : ℕ) → k < rows b * columns b → column_entry b k ≡ column_entry c k)
    → matrix b ≡ matrix c
entries_determine b c same_rows same-columns each =
    ext_get_or [] (matrix b) (matrix c) (matrix-length b ∙ same_rows ∙ sym (matrix-length c)) (λ i h. same_row_lem i (omega (arith, matrix-length b)))
  where
    same_at : (i j : ℕ) → i < rows b → j < columns b → get_or (get_or (matrix b) i []) j (pos 0) ≡ get_or (get_or (matrix c) i []) j (pos 0)
    same_at i j h k =
        let up_to : suc j * rows b ≤ columns b * rows b = mul-le-mul k (le_refl (rows b)) in
        sym (entry_at b i j h) ∙ each (j * rows b + i) (omega (arith, mul_comm (rows b) (columns b)))
        ∙ ap (λ (m : ℕ). column_entry c (j * m + i)) same_rows
        ∙ entry_at c i j (omega arith)

    same_row_lem : (i : ℕ) → i < rows b → get_or (matrix b) i [] ≡ get_or (matrix c) i []
    same_row_lem i h =
        ext_get_or (pos 0) (get_or (matrix b) i []) (get_or (matrix c) i [])
        (matrix-row-length b i h ∙ same-columns ∙ sym (matrix-row-length c i (omega arith)))
        (λ j l. same_at i j h (omega (arith, matrix-row-length b i h)))

-- ---- what an accepted text is, whatever the buffer

pub record AcceptedText (text : List ℕ) : Type 0 where
  pub first-line : line text 0 ≡ first_line
  pub its_size : SizeLine (line text (size_index text)) (file_rows text) (file_columns text)
  pub limits : SizeLimits (file_rows text) (file_columns text)
  pub each_entry : (k : ℕ) → k < entry_count text → EntryLine (get_or (entry_lines text) k []) (file_entry text k)
  pub all-entries : length (entry_lines text) ≡ entry_count text

pub tests_passed : (text : List ℕ) (room : ℕ) → AllPass (market_tests text room) ↔ (AcceptedText text × (length (market_record text) ≤ room))
unfolding market_tests
tests_passed text room = (there, back)
  where
    last : List Test
    last = tested 18 (entry_place text (entry_count text)) (length (entry_lines text) ≡ entry_count text) ∷ tested 6 0 (length (market_record text) ≤ room) ∷ []

    there : AllPass (market_tests text room) → AcceptedText text × (length (market_record text) ≤ room)
    there a =
        let both = all_split (first_tests (entry_tests text) (entry_count text)) last a.1.1.1 in (
          record {
            first-line = a.0;
            its_size = a.1.0;
            limits = a.1.1.0;
            each_entry = λ k h. (all_first (entry_tests text) (entry_count text) both.0 k h).0 (omega (arith, both.1.0));
            all-entries = both.1.0;
          },
          both.1.1.0,
        )

    back : AcceptedText text × (length (market_record text) ≤ room) → AllPass (market_tests text room)
    back a =
        let entries = first-all (entry_tests text) (entry_count text) (λ k h. (λ there. a.0.each_entry k h, tt)) in
        (a.0.first-line, (a.0.its_size, (a.0.limits, all_append (first_tests (entry_tests text) (entry_count text)) last entries (a.0.all-entries, (a.1, tt)))))

-- ---- the record of an accepted text: it goes row by row, the file column by column

-- each coefficient's entry is one of m times n

pub within-number : (m n k : ℕ) → 1 ≤ n → k < m * n → entry_index m n k < m * n
within-number m n k some h =
    let within = parts_within m n k some h in
    let up_to : suc (k % n) * m ≤ n * m = mul-le-mul within.1 (le_refl m) in
    omega (arith, mul_comm m n)

-- the file's number of row i of column j
number_of : (m n i j : ℕ) → j < n → entry_index m n (i * n + j) ≡ j * m + i
number_of m n i j h = let parts = number_parts n i j h in ap₂ (λ (x y : ℕ). x * m + y) parts.0 parts.1

module _ (text : List ℕ) where
  abbrev m : ℕ
  m = file_rows text

  abbrev n : ℕ
  n = file_columns text

  -- the two bytes of a coefficient of a number, as one number
  abbrev coefficient_word : ℕ → ℕ
  coefficient_word k = twos_complement (file_entry text (entry_index m n k))

  pub market_rows : rows (market_record text) ≡ m
  unfolding market_record
  market_rows = refl

  pub market_columns : columns (market_record text) ≡ n
  unfolding market_record
  market_columns = refl

  all_words : length (coefficient_words text) ≡ m * n
  all_words = length-first coefficient_word (entry_count text)

  word_at : (k : ℕ) → k < m * n → get_or (coefficient_words text) k 0 ≡ coefficient_word k
  word_at k h = get_d_first coefficient_word (entry_count text) k 0 h

  pub market_length : length (market_record text) ≡ matrix_length m n
  unfolding market_record
  market_length = matrix-record-length m n (coefficient_words text) all_words

  module _ (accepted : AcceptedText text) where
    words-below : (k : ℕ) → get_or (coefficient_words text) k 0 < 65536
    words-below k = go (dec_lt k (m * n))
      where
        go : Dec (k < m * n) → get_or (coefficient_words text) k 0 < 65536
        go (yes h) =
            let its = accepted.each_entry (entry_index m n k) (within-number m n k accepted.limits.columns-least h) in
            rw (word_at k h) (complement_below (file_entry text (entry_index m n k)) its.most)
        go (no h) = rw (get_or-eq_default (coefficient_words text) 0 {n = k} (omega (arith, all_words))) (omega arith)

    pub market_bytes : AreBytes (market_record text)
    unfolding market_record
    market_bytes = matrix-record-bytes m n (coefficient_words text) all_words accepted.limits words-below

    pub market_record_lem : IsMatrixRecord (market_record text)
    unfolding market_record
    market_record_lem = record { counted = omega arith; kind = refl; limits = accepted.limits; size = market_length }

    -- entry k of the file is row k mod m of column k div m
    pub market_entry : (k : ℕ) → k < m * n → get_or (get_or (matrix (market_record text)) (k % m) []) (k / m) (pos 0) ≡ file_entry text k
    unfolding market_record
    market_entry k h =
        let i = k % m in
        let j = k / m in
        let within = parts_within n m k accepted.limits.rows-least (omega (arith, mul_comm m n)) in
        let up_to : suc i * n ≤ m * n = mul-le-mul within.1 (le_refl n) in
        let inside : i * n + j < m * n = omega arith in
        let its = accepted.each_entry k h in
        matrix_at (market_record text) i j within.1 within.0
        ∙ matrix_coefficient m n (coefficient_words text) all_words (i * n + j) inside
        ∙ ap signed_word (word_at (i * n + j) inside)
        ∙ ap (λ (k : ℕ). signed_word (twos_complement (file_entry text k))) (number_of m n i j within.0 ∙ div-add-mod' k m)
        ∙ signed_complement (file_entry text k) its.least its.most
