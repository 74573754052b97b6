-- What is answered of the lines behind the size line, from the entries read of them.
-- Assumes nothing.
use Prim.Native.Nat.{ℕ, suc, ◌+◌, ◌*◌, ◌-◌, ◌≤◌, ◌<◌}
use mathlib.Core.Path.{◌≡◌, sym, ap, ap₂, subst, ◌∙◌}
use mathlib.Core.Bool.{Bool, true, false}
use mathlib.Core.List.{List, [], ◌++◌}
use native.Mathlib.Decide.{dec_lt}
use native.Mathlib.Nat.{add-zero}
use native.Mathlib.Omega.{arith}
use lib.Dec.{ltb, eqb}
use lib.ListN.{length, get_or, take, drop, length-take, length-drop}
use lib.Seq.{take_all}
use borrow.Author.Tests.{lt-ltb, le-ltb, eq-eqb, ne_eqb}
use Rattle.limits.specs.Size.{SizeLimits}
use Rattle.layout_rules.specs.Matrix.{matrix_record}
use Rattle.layout_rules.specs.Places.{first_records}
use Rattle.layout_rules.proofs.FirstRecords.{length-first, get_d_first, first-is}
use Rattle.market_rules.specs.declared.MarketAnswer.{MarketAnswer}
use Rattle.market_rules.specs.Lines.{lines, line_place}
use Rattle.market_rules.specs.Forms.{is_entry, entry_value}
use Rattle.market_rules.specs.Market.{size_index, file_rows, file_columns, entry_count, entry_lines, entry_place, file_entry, leading_entry_count, twos_complement, entry_index, coefficient_words, market_record, market_refused, market_accepted, entries_answer}
use Rattle.market_rules.proofs.LineLaws.{lines_from, place-from, place-within, place-there, place_missing, leading_within}
use Rattle.market_rules.proofs.MarketRecord.{within-number}
use Rattle.market.specs.declared.Entries.{Entries}
use Rattle.market.specs.Parts.{EntriesRead, record_of, record_answer, record_buffer, entries_buffer}

-- the lines behind the size line are those of the text from its end on
module _ (text : List ℕ) (start : ℕ) (starts : start ≡ entry_place text 0) where
  abbrev rest : List ℕ
  rest = drop start text

  at_entries : start ≡ line_place text (suc (size_index text))
  at_entries = starts ∙ ap (line_place text) (add-zero (suc (size_index text)))

  pub start-within : start ≤ length text
  start-within = omega (arith, starts, place-within text (suc (size_index text) + 0))

  -- what code reads is the part from the end of the size line on
  pub read_rest : (words : List ℕ) (read : Entries) → EntriesRead (take (length text - start) rest) words read → EntriesRead rest words read
  read_rest words read is = subst (λ (l : List ℕ). EntriesRead l words read) (take_all (length text - start) rest (omega (arith, length-drop start text))) is

  lines_rest : lines rest ≡ entry_lines text
  lines_rest = ap (λ (p : ℕ). lines (drop p text)) at_entries ∙ lines_from text (suc (size_index text))

  place_rest : (k : ℕ) → entry_place text k ≡ start + line_place rest k
  place_rest k =
      place-from text (suc (size_index text)) k
      ∙ ap (λ (p : ℕ). p + line_place (drop p text) k) (sym at_entries)

  -- where the lines read end
  pub read-within : (words : List ℕ) (read : Entries) → EntriesRead rest words read → start + read.bytes ≤ length text
  read-within words read is = omega (arith, start-within, is.placed, place-within rest read.count, length-drop start text)

  module _ (buffer words : List ℕ) (read : Entries) (is : EntriesRead rest words read) (all : length words ≡ entry_count text) where
    abbrev place : ℕ
    place = start + read.bytes

    abbrev Leaves : MarketAnswer → List ℕ → Type 0
    Leaves answer after = (answer ≡ entries_answer text (length buffer)) × (after ≡ entries_buffer text buffer)

    abbrev due : List (List ℕ)
    due = take (entry_count text) (entry_lines text)

    counted : read.count ≡ leading_entry_count due
    counted = is.counted ∙ ap₂ (λ (k : ℕ) (ls : List (List ℕ)). leading_entry_count (take k ls)) all lines_rest

    placed : place ≡ entry_place text read.count
    placed = ap (λ (p : ℕ). start + p) is.placed ∙ sym (place_rest read.count)

    few : (read.count ≤ entry_count text) × (read.count ≤ length (entry_lines text))
    few =
        let most = leading_within is_entry due in
        let size = length-take (entry_count text) (entry_lines text) in
        (omega (arith, counted), omega (arith, counted))

    -- a line is left, or none
    none_left : length text ≤ place → length (entry_lines text) ≤ read.count
    none_left h = go (dec_lt read.count (length (entry_lines text)))
      where
        go : Dec (read.count < length (entry_lines text)) → length (entry_lines text) ≤ read.count
        go (yes l) =
            let there = place-there rest read.count (omega (arith, ap length lines_rest)) in
            absurd (omega (arith, there, is.placed, length-drop start text, start-within))
        go (no l) = omega arith

    line_left : place < length text → read.count < length (entry_lines text)
    line_left h = go (dec_lt read.count (length (entry_lines text)))
      where
        go : Dec (read.count < length (entry_lines text)) → read.count < length (entry_lines text)
        go (yes l) = l
        go (no l) =
            let missing = place_missing rest read.count (omega (arith, ap length lines_rest)) in
            absurd (omega (arith, missing, is.placed, length-drop start text, start-within))

    refused_with : (r p : ℕ) → entries_answer text (length buffer) ≡ market_refused (suc r) p → Leaves (market_refused (suc r) p) buffer
    unfolding entries_buffer
    refused_with r p e = (sym e, sym (rw (e, entries_buffer)))

    one_bad : ltb (leading_entry_count due) (length due) ≡ true → entries_answer text (length buffer) ≡ market_refused 19 (entry_place text (leading_entry_count due))
    unfolding entries_answer
    one_bad e = rw (e, entries_answer)

    pub no_entry : place < length text → read.count < length words → Leaves (market_refused 19 place) buffer
    no_entry l h =
        let before : ltb (leading_entry_count due) (length due) ≡ true = lt-ltb (leading_entry_count due) (length due) (omega (arith, counted, line_left l, all, length-take (entry_count text) (entry_lines text))) in
        let at : entry_place text (leading_entry_count due) ≡ place = ap (entry_place text) (sym counted) ∙ sym placed in
        refused_with 18 place (one_bad before ∙ ap (market_refused 19) at)

    -- all lines that are due are entries
    all-due : length due ≤ read.count → (c : Bool) → eqb (length (entry_lines text)) (entry_count text) ≡ c → entries_answer text (length buffer)
        ≡ elim c [
          | false ↦ market_refused 18 (entry_place text (entry_count text))
          | true ↦ elim (ltb (length buffer) (length (market_record text))) [ true ↦ market_refused 6 0 | false ↦ market_accepted text ]
        ]
    unfolding entries_answer
    all-due h c e = rw (le-ltb (leading_entry_count due) (length due) (omega (arith, counted)), e, entries_answer)

    pub too_many : place < length text → length words ≤ read.count → Leaves (market_refused 18 place) buffer
    too_many l h =
        let whole : read.count ≡ entry_count text = omega (arith, all, few.0) in
        let other = ne_eqb (length (entry_lines text)) (entry_count text) (λ e. omega (arith, line_left l, whole, e)) in
        let at : entry_place text (entry_count text) ≡ place = ap (entry_place text) (sym whole) ∙ sym placed in
        refused_with 17 place (all-due (omega (arith, whole, length-take (entry_count text) (entry_lines text))) false other ∙ ap (market_refused 18) at)

    pub too_few : length text ≤ place → read.count < length words → Leaves (market_refused 18 place) buffer
    too_few l h =
        let other = ne_eqb (length (entry_lines text)) (entry_count text) (λ e. omega (arith, none_left l, all, e)) in
        let missing = place_missing rest (entry_count text) (omega (arith, none_left l, all, ap length lines_rest)) in
        let missing_too = place_missing rest read.count (omega (arith, none_left l, ap length lines_rest)) in
        let at : entry_place text (entry_count text) ≡ place = omega (arith, place_rest (entry_count text), missing, missing_too, is.placed) in
        refused_with 17 place (all-due (omega (arith, none_left l, length-take (entry_count text) (entry_lines text))) false other ∙ ap (market_refused 18) at)

    -- as many as are due, and none more
    module _ (m n : ℕ) (rows : m ≡ file_rows text) (columns : n ≡ file_columns text) (limits : SizeLimits m n)
        (l : length text ≤ place) (h : length words ≤ read.count) where
      whole : read.count ≡ entry_count text
      whole = omega (arith, all, few.0)

      -- the numbers of the coefficients
      same-words : first_records (λ k. get_or words (entry_index m n k) 0) (m * n) ≡ coefficient_words text
      same-words =
          let count : m * n ≡ entry_count text = ap₂ ◌*◌ rows columns in
          first-is (λ k. get_or words (entry_index m n k) 0) (m * n) (coefficient_words text)
          (length-first (λ k. twos_complement (file_entry text (entry_index (file_rows text) (file_columns text) k))) (entry_count text) ∙ sym count)
          (λ k d h.
          let there = within-number m n k limits.columns-least h in
          is.told (entry_index m n k) (omega (arith, there, whole, count))
          ∙ ap (λ (ls : List (List ℕ)). twos_complement (entry_value (get_or ls (entry_index m n k) []))) lines_rest
          ∙ ap₂ (λ (x y : ℕ). twos_complement (file_entry text (entry_index x y k))) rows columns
          ∙ sym (get_d_first (λ k. twos_complement (file_entry text (entry_index (file_rows text) (file_columns text) k))) (entry_count text) k d (omega (arith, count))))

      same-record : record_of m n words ≡ market_record text
      unfolding record_of market_record
      same-record = ap (matrix_record m n) same-words ∙ ap₂ (λ (x y : ℕ). matrix_record x y (coefficient_words text)) rows columns

      answered : entries_answer text (length buffer) ≡ record_answer (market_record text) (length buffer)
      unfolding record_answer
      answered =
          let same = eq-eqb (length (entry_lines text)) (entry_count text) (omega (arith, none_left l, few.1, whole)) in
          all-due (omega (arith, whole, length-take (entry_count text) (entry_lines text))) true same

      left : record_buffer (market_record text) buffer ≡ entries_buffer text buffer
      unfolding record_answer record_buffer entries_buffer
      left = go (ltb (length buffer) (length (market_record text))) answered
        where
          go : (t : Bool) → entries_answer text (length buffer) ≡ elim t [ true ↦ market_refused 6 0 | false ↦ market_accepted text ]
              → elim t [ true ↦ buffer | false ↦ market_record text ++ drop (length (market_record text)) buffer ] ≡ entries_buffer text buffer
          go true e = sym (rw (e, entries_buffer))
          go false e = sym (rw (e, entries_buffer))

      pub all-entries : (answer : MarketAnswer) (after : List ℕ) → answer ≡ record_answer (record_of m n words) (length buffer)
          → after ≡ record_buffer (record_of m n words) buffer → Leaves answer after
      all-entries answer after a b = (
        a ∙ ap (λ (bytes : List ℕ). record_answer bytes (length buffer)) same-record ∙ sym answered,
        b ∙ ap (λ (bytes : List ℕ). record_buffer bytes buffer) same-record ∙ left,
      )
