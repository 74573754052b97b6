-- `market::read_file` meets its contract. Assumes nothing.
use Prim.Native.Nat.{ℕ, ◌-◌, min}
use mathlib.Core.Path.{◌≡◌, sym, ap, ◌∙◌}
use mathlib.Core.Bool.{true, false}
use mathlib.Core.List.{List}
use borrow.Author.Tests.{not-true, not-false}
use lib.ListN.{take, drop}
use Rattle.std.specs.Prelude.{Err}
use Rattle.limits.specs.Size.{size_outside}
use Rattle.market_rules.specs.Answer.{answer_of}
use Rattle.market_rules.specs.Lines.{line}
use Rattle.market_rules.specs.Forms.{same, first_line, is_size, size_rows, size_columns}
use Rattle.market_rules.specs.Market.{size_index, file_rows, file_columns, market_refused}
use Rattle.market.proofs.WholeFile.{first_told, at_size, size_line, at_entries, size-told, size_exact, other_first, other_size, size-outside, entries_answered}
use Rattle.market.proofs.read_file.Goals as goal
use Rattle.market.proofs.read_file.Lts
use Rattle.market.proofs.read_file.Reads
use Rattle.market.proofs.read_file.Tie

-- the size line, and whether m and n are told to be within the limits
module _ (c : Lts.After-size_outside Tie.the-claims Reads.Pre Reads.Post Tie.handed_clauses) where
  abbrev text : List ℕ
  text = c.args.text.now

  one : same (line text 0) first_line ≡ true
  one = sym (first_told text _ c.line_end-first.ensures.value) ∙ not-false _ (sym c.if-ne.ensures)

  its-line : take (c.line_end-end.result - c.comments_end-place.result) (drop c.comments_end-place.result text) ≡ line text (size_index text)
  its-line = size_line text _ c.line_end-first.ensures.value _ c.comments_end-place.ensures.value _ c.line_end-end.ensures.value

  is-size : is_size (line text (size_index text)) ≡ true
  is-size = sym (c.in-Some.ensures.form ∙ ap is_size its-line)

  rows_told : c.in-Some.size.m ≡ min (file_rows text) 255
  rows_told = c.in-Some.ensures.m_and_n.0 ∙ ap (λ (l : List ℕ). min (size_rows l) 255) its-line

  columns-told : c.in-Some.size.n ≡ min (file_columns text) 255
  columns-told = c.in-Some.ensures.m_and_n.1 ∙ ap (λ (l : List ℕ). min (size_columns l) 255) its-line

  outside_told : c.size_outside.result ≡ size_outside (file_rows text) (file_columns text)
  outside_told = c.size_outside.ensures ∙ size-told _ _ _ _ rows_told columns-told

  exact : c.size_outside.result ≡ false → (c.in-Some.size.m ≡ file_rows text) × (c.in-Some.size.n ≡ file_columns text)
  exact e = size_exact _ _ _ _ rows_told columns-told (sym c.size_outside.ensures ∙ e)

pub returns-then-ne : goal.returns-then-ne
returns-then-ne c =
    let both = other_first c.args.text.now c.args.buffer.now (sym (first_told c.args.text.now _ c.line_end-first.ensures.value) ∙ not-true _ (sym c.if-ne.ensures)) in
    record { value = ap (λ r. answer_of (Err r)) c.at.ensures ∙ both.0; buffer_after = both.1 }

pub returns-in_default : goal.returns-in_default
returns-in_default c =
    let text = c.args.text.now in
    let one = sym (first_told text _ c.line_end-first.ensures.value) ∙ not-false _ (sym c.if-ne.ensures) in
    let its-line = size_line text _ c.line_end-first.ensures.value _ c.comments_end-place.ensures.value _ c.line_end-end.ensures.value in
    let both = other_size text c.args.buffer.now one (sym (c.in_default.ensures.form ∙ ap is_size its-line)) in
    let place_is = at_size text _ c.line_end-first.ensures.value _ c.comments_end-place.ensures.value in
    record { value = ap (λ r. answer_of (Err r)) c.at-in_default.ensures ∙ ap (market_refused 17) place_is ∙ both.0; buffer_after = both.1 }

pub returns-then-size_outside : goal.returns-then-size_outside
returns-then-size_outside c =
    let told = c.before.before.before in
    let both = size-outside (text told) c.args.buffer.now (one told) (is-size told) (sym (outside_told told) ∙ c.if-size_outside.true) in
    let place_is = at_size (text told) _ c.line_end-first.ensures.value _ c.comments_end-place.ensures.value in
    record { value = ap (λ r. answer_of (Err r)) c.at-then-size_outside.ensures ∙ ap (market_refused 4) place_is ∙ both.0; buffer_after = both.1 }

pub write_entries-requires-clause-start_value : goal.write_entries-requires-clause-start_value
write_entries-requires-clause-start_value c =
    at_entries c.args.text.now _ c.line_end-first.ensures.value _ c.comments_end-place.ensures.value _ c.line_end-end.ensures.value

pub write_entries-requires-clause-m_value : goal.write_entries-requires-clause-m_value
write_entries-requires-clause-m_value c = (exact c.before.before.before.before.before.before c.if-size_outside.false).0

pub write_entries-requires-clause-n_value : goal.write_entries-requires-clause-n_value
write_entries-requires-clause-n_value c = (exact c.before.before.before.before.before.before c.if-size_outside.false).1

pub returns : goal.returns
returns c =
    let told = c.before.before.before.before.before.before.before.before.before.before in
    let out = sym (outside_told told) ∙ c.if-size_outside.false in
    let both = entries_answered (text told) c.args.buffer.now (one told) (is-size told) out _ _ c.write_entries.ensures.value c.write_entries.ensures.buffer_after in
    record { value = both.0; buffer_after = both.1 }
