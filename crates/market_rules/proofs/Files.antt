-- A text is a file of a matrix exactly where it is accepted into every buffer that the longest record fits, with that matrix's record; and
-- what is written is a matrix within the limits.
-- Assumes nothing.
use Prim.Native.Nat.{ℕ, suc, ◌+◌, ◌*◌, ◌/◌, ◌%◌, ◌≤◌, ◌<◌}
use mathlib.Core.Path.{◌≡◌, refl, sym, ap, ap₂, ◌∙◌, subst}
use mathlib.Core.Bool.{Bool, true, false}
use mathlib.Core.Logic.{◌↔◌, inr}
use mathlib.Core.List.{List, [], ◌∷◌, ◌++◌}
use native.Mathlib.Decide.{dec_lt}
use native.Mathlib.Nat.{le_refl, mul_comm}
use native.Mathlib.Omega.{arith}
use lib.Dec.{ltb, eqb}
use lib.IntN.{ℤ, pos, negsuc}
use lib.ListN.{length, get_or, take, drop, get_or-eq_default, length-take, length-drop}
use lib.Seq.{split_at, get_or-append_seam, drop-append-add, get_or-take, get_or-drop, take-append_seam}
use lib.Signed.{◌≤ℤ◌}
use borrow.Author.Tests.{le-ltb}
use Rattle.limits.specs.Size.{SizeLimits, size_outside}
use Rattle.limits.proofs.Size.{size-within}
use Rattle.layout_rules.specs.Matrix.{rows, columns, longest_record}
use Rattle.layout_rules.proofs.MatrixBytes.{parts_within, matrix_determines}
use Rattle.layout_rules.proofs.MatrixRecord.{record-fits}
use Rattle.layout_rules.proofs.MatrixRows.{matrix_at, coefficient_range}
use Rattle.bank_rules.specs.Claim.{MatrixWithinLimits}
use Rattle.market_rules.specs.declared.MarketAnswer.{MarketAnswer}
use Rattle.market_rules.specs.Lines.{lines, line}
use Rattle.market_rules.specs.Forms.{same, first_line, is_comment, is_size, size_rows, size_columns, entry_value}
use Rattle.market_rules.specs.Market.{comment_count, size_index, size_place, file_rows, file_columns, entry_count, entry_lines, entry_place, file_entry, leading_entry_count, market_record, market_refused, market_accepted, entries_answer, market_answer, market_buffer}
use Rattle.market_rules.specs.Tests.{SizeLine, EntryLine}
use Rattle.market_rules.specs.File.{Comment, FileOf}
use Rattle.market_rules.proofs.LineLaws.{leading_within, leading_passes}
use Rattle.market_rules.proofs.FormLaws.{size-line, entry_line}
use Rattle.market_rules.proofs.MarketTests.{market_passes}
use Rattle.market_rules.proofs.Spelling.{size_said, entry_said}
use Rattle.market_rules.proofs.FileLines.{file-lines, lines-file, line-whole, first-is-line, line-some, Whole, size-is-line, entry_is-line, comment_is-line, comment_tested, tested_comment, size_no_comment, comments-counted}
use Rattle.market_rules.proofs.MarketRecord.{column_entry, entries_determine, AcceptedText, tests_passed, market_length, market_bytes, market_record_lem, market_entry}

-- ---- an accepted text is one that is accepted into every buffer that the longest record fits

pub accepted_everywhere : (text : List ℕ) → AcceptedText text ↔ ((room : ℕ) → longest_record ≤ room → market_answer text room ≡ market_accepted text)
accepted_everywhere text = (
  λ a room h. (market_passes text room).1 ((tests_passed text room).1 (a, omega (arith, market_length text, record-fits (file_rows text) (file_columns text) a.limits))),
  λ each. ((tests_passed text longest_record).0 ((market_passes text longest_record).0 (each longest_record (le_refl longest_record)))).0,
)

-- ---- from a file of a matrix

module _ (text bytes : List ℕ) (f : FileOf text bytes) where
  abbrev m : ℕ
  m = rows bytes

  abbrev n : ℕ
  n = columns bytes

  said_size : SizeLine f.size m n
  said_size = (size_said f.size m n).1 f.its_size

  -- entry k's integer stands in the matrix, so that it is in range
  said_entry : (k : ℕ) → k < m * n → EntryLine (get_or f.entries k []) (column_entry bytes k)
  said_entry k h =
      let within = parts_within n m k f.its_record.limits.rows-least (omega (arith, mul_comm m n)) in
      let range = coefficient_range bytes f.are-bytes (k % m * n + k / m) in
      let same = sym (matrix_at bytes (k % m) (k / m) within.1 within.0) in
      record {
        integer = (entry_said (get_or f.entries k []) (column_entry bytes k)).1 (f.each_entry k h);
        least = subst (λ (z : ℤ). negsuc 32767 ≤ℤ z) same range.0;
        most = subst (λ (z : ℤ). z ≤ℤ pos 32767) same range.1;
      }

  its_lines : lines text ≡ first_line ∷ (f.comments ++ (f.size ∷ f.entries))
  its_lines =
      ap lines f.its_text
      ∙ file-lines first_line f.comments f.size f.entries first-is-line (λ k h. comment_is-line (get_or f.comments k []) (f.each_comment k h))
      (size-is-line f.size m n said_size)
      (λ k h. entry_is-line (get_or f.entries k []) (column_entry bytes k) (said_entry k (omega (arith, f.all-entries))).integer)

  size-behind : size_index text ≡ suc (length f.comments)
  unfolding size_index
  size-behind =
      ap (λ (ls : List (List ℕ)). suc (comment_count (drop 1 ls))) its_lines
      ∙ ap suc (comments-counted f.comments f.size f.entries (λ k h. comment_tested (get_or f.comments k []) (f.each_comment k h)) (size_no_comment f.size m n said_size))

  size-there : line text (size_index text) ≡ f.size
  size-there =
      ap₂ (λ (ls : List (List ℕ)) (k : ℕ). get_or ls k []) its_lines size-behind ∙ get_or-append_seam f.comments f.size f.entries []

  entries-there : entry_lines text ≡ f.entries
  entries-there =
      let one_more : suc (length f.comments) ≡ length f.comments + 1 = omega arith in
      ap₂ (λ (ls : List (List ℕ)) (k : ℕ). drop (suc k) ls) its_lines size-behind
      ∙ ap (λ (k : ℕ). drop k (f.comments ++ (f.size ∷ f.entries))) one_more
      ∙ drop-append-add f.comments (f.size ∷ f.entries) 1

  file-rows : file_rows text ≡ m
  file-rows = ap size_rows size-there ∙ (size-line f.size m n said_size).1

  file-columns : file_columns text ≡ n
  file-columns = ap size_columns size-there ∙ (size-line f.size m n said_size).2

  file-count : entry_count text ≡ m * n
  file-count = ap₂ ◌*◌ file-rows file-columns

  file_entry_lem : (k : ℕ) → k < m * n → file_entry text k ≡ column_entry bytes k
  file_entry_lem k h =
      ap (λ (ls : List (List ℕ)). entry_value (get_or ls k [])) entries-there ∙ (entry_line (get_or f.entries k []) (column_entry bytes k) (said_entry k h)).1

  file-accepted : AcceptedText text
  file-accepted = record {
    first-line = ap (λ (ls : List (List ℕ)). get_or ls 0 []) its_lines;
    its_size = rw (file-rows, file-columns, size-there) said_size;
    limits = rw (file-rows, file-columns) f.its_record.limits;
    each_entry = λ k h. let among : k < m * n = omega (arith, file-count) in rw (file_entry_lem k among, entries-there) (said_entry k among);
    all-entries = ap length entries-there ∙ f.all-entries ∙ sym file-count;
  }

  file-record : bytes ≡ market_record text
  unfolding market_record
  file-record =
      matrix_determines bytes (market_record text) f.are-bytes (market_bytes text file-accepted) f.its_record (market_record_lem text file-accepted)
      (entries_determine bytes (market_record text) (sym file-rows) (sym file-columns)
      (λ k h. sym (file_entry_lem k h) ∙ sym (market_entry text file-accepted k (omega (arith, file-count)))))

-- ---- from an accepted text

line-there : (ls : List (List ℕ)) (k : ℕ) → 1 ≤ length (get_or ls k []) → k < length ls
line-there ls k some = go (dec_lt k (length ls))
  where
    go : Dec (k < length ls) → k < length ls
    go (yes h) = h
    go (no h) = absurd (omega (arith, ap length (get_or-eq_default ls [] {n = k} (omega arith))))

-- a first line, comments, one more line, and the rest
split_lines : (ls : List (List ℕ)) →
    let k = comment_count (drop 1 ls) in
    1 ≤ length (get_or ls 0 []) → 1 ≤ length (get_or ls (suc k) []) → ls ≡ get_or ls 0 [] ∷ (take k (drop 1 ls) ++ (get_or ls (suc k) [] ∷ drop (suc (suc k)) ls))
split_lines [] first next = absurd (omega arith)
split_lines (l ∷ more) first next = ap (λ (ls : List (List ℕ)). l ∷ ls) (split_at more (comment_count more) [] (line-there more (comment_count more) next))

module _ (text : List ℕ) (a : AcceptedText text) where
  abbrev count : ℕ
  count = comment_count (drop 1 (lines text))

  abbrev its_comments : List (List ℕ)
  its_comments = take count (drop 1 (lines text))

  accepted-lines : lines text ≡ first_line ∷ (its_comments ++ (line text (size_index text) ∷ entry_lines text))
  unfolding size_index
  accepted-lines =
      let size = size-is-line (line text (size_index text)) (file_rows text) (file_columns text) a.its_size in
      split_lines (lines text) (rw a.first-line (omega arith)) (line-some (line text (size_index text)) size)
      ∙ ap (λ (l : List ℕ). l ∷ (its_comments ++ (line text (size_index text) ∷ entry_lines text))) a.first-line

  accepted_comment : (k : ℕ) → k < length its_comments → Comment (get_or its_comments k [])
  accepted_comment k h =
      let behind : List (List ℕ) = drop 1 (lines text) in
      let few : k < count = omega (arith, length-take count behind) in
      let there : 1 + k < length (lines text) = omega (arith, leading_within is_comment behind, length-drop 1 (lines text)) in
      let whole = subst Whole (sym (get_or-drop 1 (lines text) k [])) (line-whole text (1 + k) there) in
      subst Comment (sym (get_or-take count behind k [] few)) (tested_comment (get_or behind k []) whole (leading_passes is_comment behind k few))

  accepted-file : FileOf text (market_record text)
  unfolding market_record
  accepted-file = record {
    are-bytes = market_bytes text a;
    its_record = market_record_lem text a;
    comments = its_comments;
    size = line text (size_index text);
    entries = entry_lines text;
    its_text = lines-file text first_line its_comments (line text (size_index text)) (entry_lines text) accepted-lines;
    each_comment = accepted_comment;
    its_size = (size_said (line text (size_index text)) (file_rows text) (file_columns text)).0 a.its_size;
    all-entries = a.all-entries;
    each_entry = λ k h. rw (market_entry text a k h) ((entry_said (get_or (entry_lines text) k []) (file_entry text k)).0 (a.each_entry k h).integer);
  }

-- ---- a text and the matrix of which it is a file

pub file-of : (text bytes : List ℕ)
    → FileOf text bytes ↔ ((bytes ≡ market_record text) × ((room : ℕ) → longest_record ≤ room → market_answer text room ≡ market_accepted text))
file-of text bytes = (
  λ f. (file-record text bytes f, (accepted_everywhere text).0 (file-accepted text bytes f)),
  λ p. subst (FileOf text) (sym p.0) (accepted-file text ((accepted_everywhere text).1 p.1)),
)

-- ---- what is written where a text is accepted

-- the record followed by the old bytes, or the old bytes
module _ (text buffer : List ℕ) where
  pub market_filled : (market_answer text (length buffer)).refusal ≡ 0 → market_buffer text buffer ≡ market_record text ++ drop (length (market_record text)) buffer
  unfolding market_buffer
  market_filled e = rw (e, market_buffer)

  pub market_kept : (r : ℕ) → (market_answer text (length buffer)).refusal ≡ suc r → market_buffer text buffer ≡ buffer
  unfolding market_buffer
  market_kept r e = rw (e, market_buffer)

module _ (text buffer : List ℕ) (accepts : market_answer text (length buffer) ≡ market_accepted text) where
  pub market_written : take (market_answer text (length buffer)).written (market_buffer text buffer) ≡ market_record text
  market_written =
      ap₂ (λ (answer : MarketAnswer) (l : List ℕ). take answer.written l) accepts (market_filled text buffer (ap (λ (answer : MarketAnswer). answer.refusal) accepts))
      ∙ take-append_seam (market_record text) (drop (length (market_record text)) buffer)

  pub market_within : MatrixWithinLimits (take (market_answer text (length buffer)).written (market_buffer text buffer))
  market_within =
      let accepted = ((tests_passed text (length buffer)).0 ((market_passes text (length buffer)).0 accepts)).0 in
      rw market_written (record { are-bytes = market_bytes text accepted; within = inr (market_record_lem text accepted) })

-- ---- "134 bytes always suffice."

module _ (text : List ℕ) (room : ℕ) (enough : longest_record ≤ room) where
  -- the answer by whether the record is too long
  abbrev by_room : Bool → MarketAnswer
  by_room short =
      let due = take (entry_count text) (entry_lines text) in
      elim (ltb (leading_entry_count due) (length due)) [
        | true ↦ market_refused 19 (entry_place text (leading_entry_count due))
        | false ↦
            elim (eqb (length (entry_lines text)) (entry_count text)) [
              | false ↦ market_refused 18 (entry_place text (entry_count text))
              | true ↦ elim short [ true ↦ market_refused 6 0 | false ↦ market_accepted text ]
            ]
      ]

  entries-room : SizeLimits (file_rows text) (file_columns text) → entries_answer text room ≡ entries_answer text longest_record
  unfolding entries_answer
  entries-room limits =
      let size = length (market_record text) in
      let fits : size ≤ longest_record = omega (arith, market_length text, record-fits (file_rows text) (file_columns text) limits) in
      ap by_room (le-ltb room size (omega (arith, fits)) ∙ sym (le-ltb longest_record size fits))

  -- the answer by whether m or n is outside the limits, and what follows where they are not
  abbrev by_size : Bool → MarketAnswer → MarketAnswer
  by_size outside later =
      elim (same (line text 0) first_line) [
        | false ↦ market_refused 17 0
        | true ↦
            elim (is_size (line text (size_index text))) [
              | false ↦ market_refused 17 (size_place text)
              | true ↦ elim outside [ true ↦ market_refused 4 (size_place text) | false ↦ later ]
            ]
      ]

  -- more room changes no answer
  pub market_room : market_answer text room ≡ market_answer text longest_record
  unfolding market_answer
  market_room = go (size_outside (file_rows text) (file_columns text)) refl
    where
      go : (t : Bool) → size_outside (file_rows text) (file_columns text) ≡ t → by_size t (entries_answer text room) ≡ by_size t (entries_answer text longest_record)
      go true e = refl
      go false e = ap (by_size false) (entries-room (size-within (file_rows text) (file_columns text) e))
