-- `market::write_entries` meets its contract. Assumes nothing.
use Prim.Native.Nat.{◌+◌, ◌*◌}
use mathlib.Core.Path.{ap, ap₂, ◌∙◌}
use native.Mathlib.Omega.{arith}
use Rattle.std.specs.Prelude.{Err}
use Rattle.refusals.specs.declared.Refusal.{Refusal}
use Rattle.refusals.specs.Numbers.{number}
use Rattle.market_rules.specs.Answer.{answer_of}
use Rattle.market_rules.specs.Market.{market_refused}
use Rattle.market.proofs.AfterSize.{start-within, read_rest, read-within, no_entry, too_many, too_few, all-entries}
use Rattle.market.proofs.write_entries.Goals as goal
use Rattle.market.proofs.write_entries.Goals.{else-read-words, then-read-words}

pub slice_bounds-read_entries-count : goal.slice_bounds-read_entries-count
slice_bounds-read_entries-count c = start-within _ _ c.requires.start_value

pub slice_bounds-read_entries-start : goal.slice_bounds-read_entries-start
slice_bounds-read_entries-start c = omega (arith, start-within _ _ c.requires.start_value)

pub overflow_add-place : goal.overflow_add-place
overflow_add-place c =
    let starts = c.requires.start_value in
    omega (arith, read-within _ _ starts _ _ (read_rest _ _ starts _ _ c.read_entries-read.ensures))

pub returns-then-place-text : goal.returns-then-place-text
returns-then-place-text c =
    let starts = c.requires.start_value in
    let read = read_rest _ _ starts _ _ c.read_entries-read.ensures in
    let all = c.read_entries-read.auto.words ∙ c.requires.words_len ∙ ap₂ ◌*◌ c.requires.m_value c.requires.n_value in
    let refused : Refusal → _ = λ r. market_refused (number r) (c.args.start + c.read_entries-read.result.bytes) in
    let given = ap (λ r. answer_of (Err r)) c.at.ensures in
    elim c.if-read-words.branch [
      | then-read-words w ↦
          let both = no_entry _ _ starts c.args.buffer.now _ _ read all c.if-place-text.true w.if-read-words.true in
          record { value = given ∙ ap refused w.refusal-is ∙ both.0; buffer_after = both.1 }
      | else-read-words w ↦
          let both = too_many _ _ starts c.args.buffer.now _ _ read all c.if-place-text.true w.if-read-words.false in
          record { value = given ∙ ap refused w.refusal-is ∙ both.0; buffer_after = both.1 }
    ]

pub returns-then-read-words-2 : goal.returns-then-read-words-2
returns-then-read-words-2 c =
    let starts = c.requires.start_value in
    let read = read_rest _ _ starts _ _ c.read_entries-read.ensures in
    let all = c.read_entries-read.auto.words ∙ c.requires.words_len ∙ ap₂ ◌*◌ c.requires.m_value c.requires.n_value in
    let both = too_few _ _ starts c.args.buffer.now _ _ read all c.if-place-text.false c.if-read-words-2.true in
    record { value = ap (λ r. answer_of (Err r)) c.at-then-read-words-2.ensures ∙ both.0; buffer_after = both.1 }

pub returns : goal.returns
returns c =
    let starts = c.requires.start_value in
    let read = read_rest _ _ starts _ _ c.read_entries-read.ensures in
    let all = c.read_entries-read.auto.words ∙ c.requires.words_len ∙ ap₂ ◌*◌ c.requires.m_value c.requires.n_value in
    let both = all-entries _ _ starts c.args.buffer.now _ _ read all
    _ _ c.requires.m_value c.requires.n_value c.requires.size_limits c.if-place-text.false c.if-read-words-2.false _ _ c.write_record.ensures.value c.write_record.ensures.buffer_after in
    record { value = both.0; buffer_after = both.1 }
