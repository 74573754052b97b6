-- What write_verilog returns and leaves in the lent buffer, by what reading and writing gave.
-- Assumes nothing.
use Prim.Native.Nat.{ℕ, ◌<◌, ◌≤◌}
use mathlib.Core.Path.{◌≡◌, sym, ap, ◌∙◌}
use mathlib.Core.List.{List, ◌++◌}
use native.Mathlib.Omega.{arith}
use lib.ListN.{length, take, drop}
use lib.Seq.{take_at}
use Rattle.layout_rules.specs.Records.{Netlist}
use Rattle.netlist_rules.specs.Read.{refused, accepted, read_netlist}
use Rattle.text.specs.Wrote.{Wrote}
use Rattle.text.proofs.Wrote.{wrote_as, wrote_copy}
use Rattle.verilog_rules.specs.declared.VerilogAnswer.{VerilogAnswer}
use Rattle.verilog_rules.specs.Answer.{netlist_text, verilog_refused, verilog_answer, verilog_buffer}
use Rattle.verilog_rules.proofs.AnswerLaws.{answer-refused, buffer-refused, answer-read, answer-short, answer-room, buffer-read, buffer-short, buffer-room}

module _ (b buffer : List ℕ) where
  -- the answer, and the buffer afterwards
  abbrev Answers : VerilogAnswer → List ℕ → Type 0
  Answers answer after = (answer ≡ verilog_answer b (length buffer)) × (after ≡ verilog_buffer b buffer)

  -- 7 to 12
  pub declines : (r place : ℕ) → read_netlist b ≡ refused r place → Answers (verilog_refused r place) buffer
  declines r place e = (sym (answer-refused b r place e (length buffer)), sym (buffer-refused b r place e buffer))

  -- the text is written elsewhere
  module _ (net : Netlist) (e : read_netlist b ≡ accepted net) (before text : List ℕ) (count : ℕ) (w : Wrote before text count (netlist_text net)) where
    -- 6
    pub too_short : length buffer < count → Answers (verilog_refused 6 0) buffer
    too_short h =
        let short : length buffer < length (netlist_text net) = omega (arith, h, w.counted) in (
          sym (answer-read b net e (length buffer) ∙ answer-short (netlist_text net) (length buffer) short),
          sym (buffer-read b net e buffer ∙ buffer-short (netlist_text net) buffer short),
        )

    part_is : take count text ≡ netlist_text net
    part_is = ap (take count) w.text ∙ take_at (netlist_text net) (drop (length (netlist_text net)) before) count (sym w.counted)

    -- and copied
    pub copied : (after : List ℕ) (number : ℕ) → count ≤ length buffer → number ≡ length (take count text)
        → after ≡ take count text ++ drop (length (take count text)) buffer
        → Answers (record { refusal = 0; place = 0; written = number }) after
    copied after number h n left =
        let room : length (netlist_text net) ≤ length buffer = omega (arith, h, w.counted) in
        let all : Wrote buffer after number (netlist_text net) = wrote_as part_is (wrote_copy buffer (take count text) after number n left) in (
          ap (λ (k : ℕ). record { refusal = 0; place = 0; written = k }) all.counted
              ∙ sym (answer-read b net e (length buffer) ∙ answer-room (netlist_text net) (length buffer) room),
          all.text ∙ sym (buffer-read b net e buffer ∙ buffer-room (netlist_text net) buffer room),
        )
