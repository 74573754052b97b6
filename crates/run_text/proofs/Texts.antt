-- The text of run-bank from what run answers and leaves in as many outputs as read says that there are rows.
-- Assumes nothing.
use Prim.Native.Nat.{ℕ, zero, suc, ◌≤◌}
use mathlib.Core.Path.{◌≡◌, refl, sym, ap, ◌∙◌}
use mathlib.Core.List.{List}
use native.Mathlib.Omega.{arith}
use lib.IntN.{ℤ, pos}
use lib.ListN.{replicate}
use Rattle.limits.specs.Limits.{max_rows}
use Rattle.layout_rules.specs.Records.{Netlist}
use Rattle.layout_rules.proofs.LittleEndian.{AreBytes}
use Rattle.netlist_rules.specs.declared.RunAnswer.{RunAnswer}
use Rattle.netlist_rules.specs.Read.{Reading, refused, accepted, read_netlist, read_answer_of, read_answer}
use Rattle.netlist_rules.specs.Run.{run_answer, run_outputs}
use Rattle.netlist_rules.proofs.ReadAccepts.{reads_netlist}
use Rattle.run_text.specs.Samples.{samples_of}
use Rattle.text.specs.Text.{refused_line}
use Rattle.run_text.specs.RunText.{value_lines, rows_read, run_text}

-- read says that there are no more rows than the most
pub rows_few : (b : List ℕ) → AreBytes b → rows_read b ≤ max_rows
unfolding read_answer
rows_few b all = go (read_netlist b) refl
  where
    go : (x : Reading Netlist) → read_netlist b ≡ x → (read_answer_of (read_netlist b)).m ≤ max_rows
    go (refused r place) e = rw e (omega arith)
    go (accepted net) e = rw e ((reads_netlist b all net).0 e).netlist.head.limits.rows-most

module _ (netlist samples : List ℕ) where
  abbrev answered : RunAnswer
  answered = run_answer netlist (samples_of samples) (rows_read netlist)

  abbrev outputs : List ℤ
  outputs = run_outputs netlist (samples_of samples) (replicate (rows_read netlist) (pos 0))

  refused-text : (r : ℕ) → answered.refusal ≡ suc r → refused_line (suc r) answered.place ≡ run_text netlist samples
  unfolding run_text
  refused-text r e = sym (rw (e, run_text))

  accepted-text : answered.refusal ≡ 0 → value_lines outputs ≡ run_text netlist samples
  unfolding run_text
  accepted-text e = sym (rw (e, run_text))

  module _ (answer : RunAnswer) (is : answer ≡ answered) where
    pub text-refused : (answer.refusal ≡ 0 → ⊥) → refused_line answer.refusal answer.place ≡ run_text netlist samples
    text-refused h = go answered.refusal refl
      where
        go : (r : ℕ) → answered.refusal ≡ r → refused_line answer.refusal answer.place ≡ run_text netlist samples
        go zero e = absurd (h (ap (λ (a : RunAnswer). a.refusal) is ∙ e))
        go (suc r) e =
            ap (λ (a : RunAnswer). refused_line a.refusal a.place) is
            ∙ ap (λ (k : ℕ). refused_line k answered.place) e
            ∙ refused-text r e

    pub text-accepted : answer.refusal ≡ 0 → value_lines outputs ≡ run_text netlist samples
    text-accepted e = accepted-text (sym (ap (λ (a : RunAnswer). a.refusal) is) ∙ e)
