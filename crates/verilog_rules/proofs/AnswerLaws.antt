-- write_verilog returns the number and the place of the first of its tests that fails and leaves the buffer as it was, or writes the text
-- of the netlist's module; and so much room always suffices.
-- Assumes nothing.
use Prim.Native.Nat.{ℕ, ◌<◌, ◌≤◌}
use mathlib.Core.Path.{◌≡◌, refl, sym, ◌∙◌, ap}
use mathlib.Core.Bool.{Bool, true, false}
use mathlib.Core.Logic.{◌↔◌, inl, inr}
use mathlib.Core.List.{List, [], ◌∷◌, ◌++◌, map}
use native.Mathlib.Omega.{arith}
use lib.Dec.{ltb}
use lib.IntN.{ℤ}
use lib.ListN.{length, drop}
use borrow.Author.Tests.{lt-ltb, le-ltb, ltb-true, ltb-false}
use Rattle.layout_rules.specs.Records.{Netlist}
use Rattle.layout_rules.specs.Places.{netlist_in}
use Rattle.layout_rules.specs.Tests.{tested, AllPass, FirstFails}
use Rattle.layout_rules.proofs.LittleEndian.{AreBytes}
use Rattle.layout_rules.proofs.TestLaws.{Decided, behind_fault, declined_first, passed_all, all_split}
use Rattle.board_rules.specs.Width.{Samples}
use Rattle.netlist_rules.specs.Read.{Reading, refused, accepted, read_netlist}
use Rattle.netlist_rules.specs.Run.{run_outputs}
use Rattle.netlist_rules.specs.Exact.{IsNetlistBytes}
use Rattle.netlist_rules.specs.Tests.{read_tests}
use Rattle.netlist_rules.proofs.ReadingLaws.{behind_reading}
use Rattle.netlist_rules.proofs.ReadTests.{read_decided}
use Rattle.netlist_rules.proofs.ReadAccepts.{all_pass_netlist, reading_of}
use Rattle.netlist_rules.proofs.RunLaws.{run_fills}
use Rattle.verilog_rules.specs.Module.{module_of}
use Rattle.verilog_rules.specs.Meaning.{value, output_signals}
use Rattle.verilog_rules.specs.Answer.{netlist_text, enough_text, verilog_refused, text_answer, verilog_answer, text_buffer, verilog_buffer}
use Rattle.verilog_rules.specs.Tests.{verilog_tests}
use Rattle.verilog_rules.specs.declared.VerilogAnswer.{VerilogAnswer}
use Rattle.verilog_rules.proofs.Exact.{outputs_exact}
use Rattle.verilog_rules.proofs.TextLaws.{text_enough}

abbrev pub verilog_accepted : List ℕ → VerilogAnswer
verilog_accepted text = record { refusal = 0; place = 0; written = length text }

-- ---- a text and the buffer lent for it

module _ (text : List ℕ) where
  pub answer-short : (lent : ℕ) → lent < length text → text_answer text lent ≡ verilog_refused 6 0
  unfolding text_answer
  answer-short lent h = rw (lt-ltb lent (length text) h, text_answer)

  pub answer-room : (lent : ℕ) → length text ≤ lent → text_answer text lent ≡ verilog_accepted text
  unfolding text_answer
  answer-room lent h = rw (le-ltb lent (length text) h, text_answer)

  pub buffer-short : (buffer : List ℕ) → length buffer < length text → text_buffer text buffer ≡ buffer
  unfolding text_buffer
  buffer-short buffer h = rw (lt-ltb (length buffer) (length text) h, text_buffer)

  pub buffer-room : (buffer : List ℕ) → length text ≤ length buffer → text_buffer text buffer ≡ text ++ drop (length text) buffer
  unfolding text_buffer
  buffer-room buffer h = rw (le-ltb (length buffer) (length text) h, text_buffer)

-- ---- behind reading

module _ (b : List ℕ) (r place : ℕ) (e : read_netlist b ≡ refused r place) where
  pub answer-refused : (lent : ℕ) → verilog_answer b lent ≡ verilog_refused r place
  unfolding verilog_answer
  answer-refused lent = rw (e, verilog_answer)

  pub buffer-refused : (buffer : List ℕ) → verilog_buffer b buffer ≡ buffer
  unfolding verilog_buffer
  buffer-refused buffer = rw (e, verilog_buffer)

module _ (b : List ℕ) (net : Netlist) (e : read_netlist b ≡ accepted net) where
  pub answer-read : (lent : ℕ) → verilog_answer b lent ≡ text_answer (netlist_text net) lent
  unfolding verilog_answer
  answer-read lent = rw (e, verilog_answer)

  pub buffer-read : (buffer : List ℕ) → verilog_buffer b buffer ≡ text_buffer (netlist_text net) buffer
  unfolding verilog_buffer
  buffer-read buffer = rw (e, verilog_buffer)

-- ---- the tests in their order

module _ (b : List ℕ) (lent : ℕ) where
  abbrev text : List ℕ
  text = netlist_text (netlist_in b)

  text_decided : Decided (tested 6 0 (length text ≤ lent) ∷ []) (text_answer text lent) (verilog_accepted text) verilog_refused
  unfolding text_answer
  text_decided =
      behind_fault [] (ltb lent (length text)) (length text ≤ lent) 6 0 (verilog_accepted text) (verilog_accepted text) verilog_refused (omega arith)
      (ltb-false lent (length text), le-ltb lent (length text)) (λ h. inl (refl, tt))

  verilog_decided : Decided (verilog_tests b lent) (verilog_answer b lent) (verilog_accepted text) verilog_refused
  unfolding verilog_tests verilog_answer
  verilog_decided =
      behind_reading (read_tests b) (tested 6 0 (length text ≤ lent) ∷ []) (read_netlist b) (netlist_in b) (λ net. text_answer (netlist_text net) lent)
      (verilog_accepted text) verilog_refused (read_decided b) (λ all. text_decided)

  other_number : (r place : ℕ) → 0 < r → verilog_accepted text ≡ verilog_refused r place → ⊥
  other_number r place h e = omega (arith, ap (λ (a : VerilogAnswer). a.refusal) e)

  -- a refusal is that of the first test that fails
  pub verilog_refuses : (r place : ℕ) → 0 < r → (verilog_answer b lent ≡ verilog_refused r place) ↔ FirstFails (verilog_tests b lent) r place
  verilog_refuses r place h =
      declined_first (verilog_tests b lent) (verilog_answer b lent) (verilog_accepted text) verilog_refused verilog_decided
      (λ r p s q e. (ap (λ (a : VerilogAnswer). a.refusal) e, ap (λ (a : VerilogAnswer). a.place) e)) r place (other_number r place h)

  -- an answer without a refusal says that all pass
  pub verilog_passes : (verilog_answer b lent ≡ verilog_accepted text) ↔ AllPass (verilog_tests b lent)
  verilog_passes = passed_all (verilog_tests b lent) (verilog_answer b lent) (verilog_accepted text) verilog_refused verilog_decided other_number

  -- write_verilog accepts if and only if the bytes are those of a netlist and its text fits
  pub verilog_accepts : AreBytes b → ((verilog_answer b lent).refusal ≡ 0) ↔ ((net : Netlist) × IsNetlistBytes b net × (length (netlist_text net) ≤ lent))
  unfolding verilog_tests
  verilog_accepts all = (there verilog_decided, back)
    where
      there : Decided (verilog_tests b lent) (verilog_answer b lent) (verilog_accepted text) verilog_refused → (verilog_answer b lent).refusal ≡ 0
          → (net : Netlist) × IsNetlistBytes b net × (length (netlist_text net) ≤ lent)
      there (inl a) z =
          let parts = all_split (read_tests b) (tested 6 0 (length text ≤ lent) ∷ []) a.1 in
          (netlist_in b, all_pass_netlist b all parts.0, parts.1.0)
      there (inr f) z = absurd (omega (arith, f.2, z, ap (λ (a : VerilogAnswer). a.refusal) f.3))

      back : (net : Netlist) × IsNetlistBytes b net × (length (netlist_text net) ≤ lent) → (verilog_answer b lent).refusal ≡ 0
      back is = ap (λ (a : VerilogAnswer). a.refusal) (answer-read b is.0 (reading_of b is.0 is.1) lent ∙ answer-room (netlist_text is.0) lent is.2)

-- ---- the lent buffer afterwards

module _ (b : List ℕ) (buffer : List ℕ) where
  -- a refusal leaves it as it was
  pub verilog_keeps : (r place : ℕ) → 0 < r → verilog_answer b (length buffer) ≡ verilog_refused r place → verilog_buffer b buffer ≡ buffer
  verilog_keeps r place h a = reading (read_netlist b) refl
    where
      by_room : (net : Netlist) → read_netlist b ≡ accepted net → (short : Bool) → ltb (length buffer) (length (netlist_text net)) ≡ short → verilog_buffer b buffer ≡ buffer
      by_room net e true t = buffer-read b net e buffer ∙ buffer-short (netlist_text net) buffer (ltb-true (length buffer) (length (netlist_text net)) t)
      by_room net e false t =
          absurd (omega (
            arith,
            h,
            ap (λ (x : VerilogAnswer). x.refusal) (sym a ∙ answer-read b net e (length buffer)
                ∙ answer-room (netlist_text net) (length buffer) (ltb-false (length buffer) (length (netlist_text net)) t)),
          ))

      reading : (x : Reading Netlist) → read_netlist b ≡ x → verilog_buffer b buffer ≡ buffer
      reading (refused q p) e = buffer-refused b q p e buffer
      reading (accepted net) e = by_room net e (ltb (length buffer) (length (netlist_text net))) refl

  module _ (net : Netlist) (is : IsNetlistBytes b net) where
    -- a netlist's text is written where it fits
    pub verilog_writes : length (netlist_text net) ≤ length buffer
        → (verilog_answer b (length buffer) ≡ verilog_accepted (netlist_text net)) × (verilog_buffer b buffer ≡ netlist_text net ++ drop (length (netlist_text net)) buffer)
    verilog_writes room =
        let e = reading_of b net is in (
          answer-read b net e (length buffer) ∙ answer-room (netlist_text net) (length buffer) room,
          buffer-read b net e buffer ∙ buffer-room (netlist_text net) buffer room,
        )

    -- "37,987 bytes always suffice."
    pub always_enough : enough_text ≤ length buffer → length (netlist_text net) ≤ length buffer
    always_enough room = omega (arith, text_enough net is.netlist)

-- the module's outputs are those of run
pub module_runs : (b : List ℕ) (net : Netlist) (samples outputs : List ℤ) → IsNetlistBytes b net → Samples net.head.width net.head.n samples
    → length outputs ≡ net.head.m → map value (output_signals (module_of net) samples) ≡ run_outputs b samples outputs
module_runs b net samples outputs is x m = outputs_exact net is.netlist samples x ∙ sym (run_fills b samples outputs net is x m).1
