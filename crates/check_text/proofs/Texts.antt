-- The text of check-bank from what check answers.
-- Assumes nothing.
use Prim.Native.Nat.{ℕ, zero, suc}
use mathlib.Core.Path.{◌≡◌, refl, sym, ap, ◌∙◌}
use mathlib.Core.List.{List}
use Rattle.netlist_rules.specs.declared.CheckAnswer.{CheckAnswer}
use Rattle.netlist_rules.specs.Check.{check_answer}
use Rattle.text.specs.Text.{ascii, refused_line}
use Rattle.check_text.specs.CheckText.{answer_text, check_text}

module _ (matrix_bytes netlist_bytes : List ℕ) (answer : CheckAnswer) (answered : answer ≡ check_answer matrix_bytes netlist_bytes) where
  text_of : answer_text answer ≡ check_text matrix_bytes netlist_bytes
  unfolding check_text
  text_of = ap answer_text answered

  pub text-refused : (answer.refusal ≡ 0 → ⊥) → refused_line answer.refusal answer.place ≡ check_text matrix_bytes netlist_bytes
  text-refused no_zero = go answer.refusal refl ∙ text_of
    where
      go : (r : ℕ) → answer.refusal ≡ r → refused_line answer.refusal answer.place ≡ answer_text answer
      go zero e = absurd (no_zero e)
      go (suc r) e = rw e

  pub text-accepted : answer.refusal ≡ 0 → ascii "accepted\n" ≡ check_text matrix_bytes netlist_bytes
  text-accepted e = sym (rw (e, answer_text)) ∙ text_of
