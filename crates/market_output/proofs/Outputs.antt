-- What matrix-market writes, from what read_matrix_market answers and leaves in a buffer that suffices for every record.
-- Assumes nothing.
use Prim.Native.Nat.{ℕ, zero, suc, ◌≤◌}
use mathlib.Core.Path.{◌≡◌, refl, sym, ap, ◌∙◌}
use mathlib.Core.List.{List}
use lib.ListN.{length, get_or}
use Rattle.layout_rules.specs.Matrix.{longest_record}
use Rattle.text.specs.Text.{ascii, refused_line}
use Rattle.text.specs.Wrote.{Wrote}
use Rattle.text.proofs.Wrote.{wrote_as}
use Rattle.market_rules.specs.declared.MarketAnswer.{MarketAnswer}
use Rattle.market_rules.specs.Market.{market_record, market_answer, market_buffer}
use Rattle.market_rules.proofs.MarketTests.{market_accepts}
use Rattle.market_rules.proofs.Files.{market_filled, market_kept, market_room}
use Rattle.market_output.specs.MarketOutput.{market_output}

module _ (file : List ℕ) where
  abbrev answered : MarketAnswer
  answered = market_answer file longest_record

  refused-output : (r : ℕ) → answered.refusal ≡ suc r → refused_line (suc r) answered.place ≡ market_output file
  unfolding market_output
  refused-output r e = sym (rw (e, market_output))

  accepted-output : answered.refusal ≡ 0 → market_record file ≡ market_output file
  unfolding market_output
  accepted-output e = sym (rw (e, market_output))

  module _ (old after : List ℕ) (answer : MarketAnswer) (room : longest_record ≤ length old) (is : answer ≡ market_answer file (length old))
      (left : after ≡ market_buffer file old) where
    same_answer : answer ≡ answered
    same_answer = is ∙ market_room file (length old) room

    -- the line of the refusal is written into a buffer that was left as it was
    pub line_refused : (answer.refusal ≡ 0 → ⊥) → (refused_line answer.refusal answer.place ≡ market_output file) × (after ≡ old)
    line_refused no_zero = go answer.refusal refl
      where
        go : (r : ℕ) → answer.refusal ≡ r → (refused_line answer.refusal answer.place ≡ market_output file) × (after ≡ old)
        go zero e = absurd (no_zero e)
        go (suc r) e =
            let there : (market_answer file (length old)).refusal ≡ suc r = ap (λ (a : MarketAnswer). a.refusal) (sym is) ∙ e in
            let known : answered.refusal ≡ suc r = ap (λ (a : MarketAnswer). a.refusal) (sym same_answer) ∙ e in (
              ap (λ (a : MarketAnswer). refused_line a.refusal a.place) same_answer
                  ∙ ap (λ (k : ℕ). refused_line k answered.place) known
                  ∙ refused-output r known,
              left ∙ market_kept file old r there,
            )

    pub output-written : answer.refusal ≡ 0 → Wrote old after answer.written (market_output file)
    output-written is_zero =
        let there : (market_answer file (length old)).refusal ≡ 0 = ap (λ (a : MarketAnswer). a.refusal) (sym is) ∙ is_zero in
        let known : answered.refusal ≡ 0 = ap (λ (a : MarketAnswer). a.refusal) (sym same_answer) ∙ is_zero in
        wrote_as (accepted-output known) (record {
          counted = ap (λ (a : MarketAnswer). a.written) (is ∙ market_accepts file (length old) there);
          text = left ∙ market_filled file old there;
        })

-- the third byte tells a record, which has kind 1, from a refusal, which begins with `ref`
pub third_byte_accepted : (file : List ℕ) → (market_answer file longest_record).refusal ≡ 0 → get_or (market_output file) 2 0 ≡ 1
unfolding market_record
third_byte_accepted file e = sym (ap (λ (l : List ℕ). get_or l 2 0) (accepted-output file e))

pub third_byte_refused : (file : List ℕ) (r : ℕ) → (market_answer file longest_record).refusal ≡ suc r → get_or (market_output file) 2 0 ≡ get_or (ascii "ref") 2 0
third_byte_refused file r e = sym (ap (λ (l : List ℕ). get_or l 2 0) (refused-output file r e))
