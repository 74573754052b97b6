-- What verilog-bank writes, from what write_verilog answers and leaves in a buffer that suffices for every text.
-- Assumes nothing.
use Prim.Native.Nat.{ℕ, ◌<◌, ◌≤◌}
use mathlib.Core.Path.{◌≡◌, refl, sym, ap, ◌∙◌}
use mathlib.Core.Logic.{inl, inr}
use mathlib.Core.List.{List}
use native.Mathlib.Omega.{arith}
use lib.ListN.{length}
use Rattle.layout_rules.specs.Records.{Netlist}
use Rattle.layout_rules.specs.Places.{netlist_in}
use Rattle.layout_rules.proofs.LittleEndian.{AreBytes}
use Rattle.layout_rules.proofs.TestLaws.{Decided}
use Rattle.netlist_rules.specs.Read.{Reading, refused, accepted, read_netlist}
use Rattle.netlist_rules.specs.Tests.{read_tests}
use Rattle.netlist_rules.proofs.ReadTests.{read_decided}
use Rattle.netlist_rules.proofs.ReadAccepts.{reads_netlist}
use Rattle.text.specs.Text.{refused_line}
use Rattle.text.specs.Wrote.{Wrote}
use Rattle.text.proofs.Wrote.{wrote_as}
use Rattle.verilog_rules.specs.declared.VerilogAnswer.{VerilogAnswer}
use Rattle.verilog_rules.specs.Answer.{netlist_text, enough_text, verilog_answer, verilog_buffer}
use Rattle.verilog_rules.proofs.AnswerLaws.{verilog_accepted, answer-refused, buffer-refused, verilog_writes, always_enough}
use Rattle.verilog_output.specs.VerilogOutput.{verilog_output}

module _ (b : List ℕ) where
  refused-output : (r place : ℕ) → read_netlist b ≡ refused r place → verilog_output b ≡ refused_line r place
  unfolding verilog_output
  refused-output r place e = rw (e, verilog_output)

  accepted-output : (net : Netlist) → read_netlist b ≡ accepted net → verilog_output b ≡ netlist_text net
  unfolding verilog_output
  accepted-output net e = rw (e, verilog_output)

  -- no refusal has the number 0
  refusal-number : (r place : ℕ) → read_netlist b ≡ refused r place → 0 < r
  refusal-number r place e = go (read_decided b)
    where
      go : Decided (read_tests b) (read_netlist b) (accepted (netlist_in b)) refused → 0 < r
      go (inl a) = let never : accepted (netlist_in b) ≡ refused r place = sym a.0 ∙ e in let z : ◌≡◌ {A = ℕ} 0 1 = cc in absurd (omega arith)
      go (inr f) = let same : ◌≡◌ {A = Reading Netlist} (refused f.0 f.1) (refused r place) = sym f.3 ∙ e in let number : f.0 ≡ r = cc in omega (arith, f.2, number)

  module _ (all : AreBytes b) (old after : List ℕ) (answer : VerilogAnswer) (room : enough_text ≤ length old)
      (is : answer ≡ verilog_answer b (length old)) (left : after ≡ verilog_buffer b old) where
    module _ (net : Netlist) (e : read_netlist b ≡ accepted net) where
      written : (verilog_answer b (length old) ≡ verilog_accepted (netlist_text net)) × Wrote old (verilog_buffer b old) (length (netlist_text net)) (netlist_text net)
      written =
          let there = (reads_netlist b all net).0 e in
          let w = verilog_writes b old net there (always_enough b old net there room) in
          (w.0, record { counted = refl; text = w.1 })

    -- the line of the refusal is written into a buffer that was left as it was
    pub line_refused : (answer.refusal ≡ 0 → ⊥) → (refused_line answer.refusal answer.place ≡ verilog_output b) × (after ≡ old)
    line_refused some = go (read_netlist b) refl
      where
        go : (x : Reading Netlist) → read_netlist b ≡ x → (refused_line answer.refusal answer.place ≡ verilog_output b) × (after ≡ old)
        go (refused r place) e = (
          ap (λ (a : VerilogAnswer). refused_line a.refusal a.place) (is ∙ answer-refused b r place e (length old)) ∙ sym (refused-output r place e),
          left ∙ buffer-refused b r place e old,
        )
        go (accepted net) e = absurd (some (ap (λ (a : VerilogAnswer). a.refusal) (is ∙ (written net e).0)))

    pub output-written : answer.refusal ≡ 0 → Wrote old after answer.written (verilog_output b)
    output-written none = go (read_netlist b) refl
      where
        go : (x : Reading Netlist) → read_netlist b ≡ x → Wrote old after answer.written (verilog_output b)
        go (refused r place) e =
            absurd (omega (arith, refusal-number r place e, none, ap (λ (a : VerilogAnswer). a.refusal) (is ∙ answer-refused b r place e (length old))))
        go (accepted net) e =
            let w = written net e in
            wrote_as (sym (accepted-output net e)) (record {
              counted = ap (λ (a : VerilogAnswer). a.written) (is ∙ w.0);
              text = left ∙ w.1.text;
            })
