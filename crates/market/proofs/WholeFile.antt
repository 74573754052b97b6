-- The places of a file's lines as code comes to them, and what is answered and left in the buffer, test by test.
-- Assumes nothing.
use Prim.Native.Nat.{ℕ, suc, ◌+◌, ◌-◌, ◌<◌, min}
use mathlib.Core.Path.{◌≡◌, refl, sym, ap, ap₂, ◌∙◌}
use mathlib.Core.Bool.{Bool, true, false, ◌||◌}
use mathlib.Core.List.{List, flatten}
use native.Mathlib.Omega.{arith}
use lib.Dec.{ltb, eqb}
use lib.ListN.{length, take, drop}
use lib.Pointwise.{pointwise}
use borrow.Author.Tests.{ltb-true, ltb-false, lt-ltb, le-ltb}
use Rattle.limits.specs.Limits.{max_rows, max_columns}
use Rattle.limits.specs.Size.{outside, size_outside}
use Rattle.limits.proofs.Size.{size-within}
use Rattle.market_rules.specs.declared.MarketAnswer.{MarketAnswer}
use Rattle.market_rules.specs.Lines.{lines, line, line_place}
use Rattle.market_rules.specs.Forms.{same, first_line, is_size}
use Rattle.market_rules.specs.Market.{comment_count, size_index, size_place, file_rows, file_columns, entry_place, market_refused, entries_answer, market_answer, market_buffer}
use Rattle.market_rules.proofs.LineLaws.{lines_from, line_taken, line_part, line-from, place-from, place_next}
use Rattle.market_lines.proofs.Scan.{equal_slices}
use Rattle.market.specs.Parts.{comment_bytes, entries_buffer}

-- ---- places

module _ (text : List ℕ) (first : ℕ) (is-first : first ≡ 0 + length (line (drop 0 text) 0)) where
  pub first-end : first ≡ line_place text 1
  unfolding flatten
  first-end = is-first ∙ sym (place_next text 0)

  -- what `==` tells of the first line
  pub first_told : pointwise eqb (take first text) first_line ≡ same (line text 0) first_line
  first_told =
      let size : first ≡ length (line text 0) = omega (arith, is-first) in
      equal_slices (take first text) first_line
      ∙ ap (λ (k : ℕ). same (take k text) first_line) size
      ∙ ap (λ (l : List ℕ). same l first_line) (line_taken text)

  module _ (place : ℕ) (is-place : place ≡ first + comment_bytes (drop first text)) where
    pub at_size : place ≡ size_place text
    unfolding size_index
    at_size =
        let next : 1 + comment_count (drop 1 (lines text)) ≡ size_index text = omega arith in
        is-place
        ∙ ap (λ (p : ℕ). p + comment_bytes (drop p text)) first-end
        ∙ ap (λ (ls : List (List ℕ)). line_place text 1 + line_place (drop (line_place text 1) text) (comment_count ls)) (lines_from text 1)
        ∙ sym (place-from text 1 (comment_count (drop 1 (lines text))))
        ∙ ap (line_place text) next

    size-there : line (drop place text) 0 ≡ line text (size_index text)
    size-there =
        let same_index : size_index text + 0 ≡ size_index text = omega arith in
        ap (λ (p : ℕ). line (drop p text) 0) at_size ∙ line-from text (size_index text) 0 ∙ ap (line text) same_index

    module _ (end : ℕ) (is-end : end ≡ place + length (line (drop place text) 0)) where
      pub size_line : take (end - place) (drop place text) ≡ line text (size_index text)
      size_line = line_part text place end is-end ∙ size-there

      pub at_entries : end ≡ entry_place text 0
      at_entries =
          let next : size_index text + 1 ≡ suc (size_index text) + 0 = omega arith in
          is-end ∙ ap (λ (p : ℕ). p + length (line (drop p text) 0)) at_size ∙ sym (place_next text (size_index text)) ∙ ap (line_place text) next

-- ---- sizes of which at most 255 is told

outside-most : (most x : ℕ) → most < 255 → outside most (min x 255) ≡ outside most x
outside-most most x h = ap₂ ◌||◌ (same_test (ltb x 1) refl) (same_above (ltb most x) refl)
  where
    same_test : (t : Bool) → ltb x 1 ≡ t → ltb (min x 255) 1 ≡ ltb x 1
    same_test true e = lt-ltb (min x 255) 1 (omega (arith, ltb-true x 1 e)) ∙ sym e
    same_test false e = le-ltb (min x 255) 1 (omega (arith, ltb-false x 1 e)) ∙ sym e

    same_above : (t : Bool) → ltb most x ≡ t → ltb most (min x 255) ≡ ltb most x
    same_above true e = lt-ltb most (min x 255) (omega (arith, ltb-true most x e)) ∙ sym e
    same_above false e = le-ltb most (min x 255) (omega (arith, ltb-false most x e)) ∙ sym e

module _ (m n rows columns : ℕ) (is_m : m ≡ min rows 255) (is-n : n ≡ min columns 255) where
  pub size-told : size_outside m n ≡ size_outside rows columns
  size-told = ap₂ size_outside is_m is-n ∙ ap₂ ◌||◌ (outside-most max_rows rows (omega arith)) (outside-most max_columns columns (omega arith))

  pub size_exact : size_outside m n ≡ false → (m ≡ rows) × (n ≡ columns)
  size_exact e =
      let l = size-within m n e in
      (omega (arith, is_m, l.rows-most), omega (arith, is-n, l.columns-most))

-- ---- the answer

module _ (text buffer : List ℕ) where
  abbrev Leaves : MarketAnswer → List ℕ → Type 0
  Leaves answer after = (answer ≡ market_answer text (length buffer)) × (after ≡ market_buffer text buffer)

  refused_with : (r p : ℕ) → market_answer text (length buffer) ≡ market_refused (suc r) p → Leaves (market_refused (suc r) p) buffer
  unfolding market_buffer
  refused_with r p e = (sym e, sym (rw (e, market_buffer)))

  pub other_first : same (line text 0) first_line ≡ false → Leaves (market_refused 17 0) buffer
  unfolding market_answer
  other_first e = refused_with 16 0 (rw (e, market_answer))

  module _ (first : same (line text 0) first_line ≡ true) where
    pub other_size : is_size (line text (size_index text)) ≡ false → Leaves (market_refused 17 (size_place text)) buffer
    unfolding market_answer
    other_size e = refused_with 16 (size_place text) (rw (first, e, market_answer))

    module _ (size : is_size (line text (size_index text)) ≡ true) where
      pub size-outside : size_outside (file_rows text) (file_columns text) ≡ true → Leaves (market_refused 4 (size_place text)) buffer
      unfolding market_answer
      size-outside e = refused_with 3 (size_place text) (rw (first, size, e, market_answer))

      pub entries_answered : size_outside (file_rows text) (file_columns text) ≡ false → (answer : MarketAnswer) (after : List ℕ)
          → answer ≡ entries_answer text (length buffer) → after ≡ entries_buffer text buffer → Leaves answer after
      unfolding market_answer market_buffer entries_buffer
      entries_answered e answer after a b =
          let is : market_answer text (length buffer) ≡ entries_answer text (length buffer) = rw (first, size, e, market_answer) in
          (a ∙ sym is, b ∙ sym (rw (is, market_buffer)))
