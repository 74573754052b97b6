-- What generate-bank writes, from what generate answers and leaves in a buffer that suffices for every record.
-- Assumes nothing.
use Prim.Native.Nat.{ℕ, ◌≤◌}
use mathlib.Core.Path.{◌≡◌, refl, sym, ap, ◌∙◌}
use mathlib.Core.Bool.{Bool, true, false}
use mathlib.Core.List.{List, ◌++◌}
use native.Mathlib.Omega.{arith}
use lib.ListN.{length, get_or, drop}
use Rattle.limits.specs.Size.{size_outside}
use Rattle.limits.proofs.Size.{size-within}
use Rattle.layout_rules.specs.Matrix.{longest_record}
use Rattle.layout_rules.proofs.MatrixRecord.{record-fits}
use Rattle.generator.specs.declared.GenerateAnswer.{GenerateAnswer}
use Rattle.generator.specs.Generator.{generated_record, generate_refused, generate_accepted, generate_answer, generate_buffer}
use Rattle.generator.proofs.Answer.{size-refused, generate_accepted_lem}
use Rattle.text.specs.Text.{ascii, refused_line}
use Rattle.text.specs.Wrote.{Wrote}
use Rattle.text.proofs.Wrote.{wrote_as}
use Rattle.generate_output.specs.GenerateOutput.{generate_output}

refused-output : (m n seed : ℕ) → size_outside m n ≡ true → refused_line 4 0 ≡ generate_output m n seed
unfolding generate_output
refused-output m n seed e = sym (rw (e, generate_output))

accepted-output : (m n seed : ℕ) → size_outside m n ≡ false → generated_record m n seed ≡ generate_output m n seed
unfolding generate_output
accepted-output m n seed e = sym (rw (e, generate_output))

module _ (m n seed : ℕ) (old after : List ℕ) (answer : GenerateAnswer) (room : longest_record ≤ length old)
    (answered : answer ≡ generate_answer m n seed (length old)) (left : after ≡ generate_buffer m n seed old) where
  outside : size_outside m n ≡ true → (answer ≡ generate_refused 4 0) × (after ≡ old)
  outside e = let both = size-refused m n seed old e in (answered ∙ sym both.0, left ∙ sym both.1)

  inside : size_outside m n ≡ false → (answer ≡ generate_accepted m n seed) × (after ≡ generated_record m n seed ++ drop (length (generated_record m n seed)) old)
  inside e =
      let both = generate_accepted_lem m n seed old e (omega (arith, record-fits m n (size-within m n e))) in
      (answered ∙ sym both.0, left ∙ sym both.1)

  -- the line of the refusal is written into a buffer that generate left as it was
  pub line_refused : (answer.refusal ≡ 0 → ⊥) → (refused_line answer.refusal answer.place ≡ generate_output m n seed) × (after ≡ old)
  line_refused no_zero = go (size_outside m n) refl
    where
      go : (t : Bool) → size_outside m n ≡ t → (refused_line answer.refusal answer.place ≡ generate_output m n seed) × (after ≡ old)
      go true e =
          let is = outside e in
          (ap (λ (a : GenerateAnswer). refused_line a.refusal a.place) is.0 ∙ refused-output m n seed e, is.1)
      go false e = absurd (no_zero (ap (λ (a : GenerateAnswer). a.refusal) (inside e).0))

  pub output-written : answer.refusal ≡ 0 → Wrote old after answer.written (generate_output m n seed)
  output-written is_zero = go (size_outside m n) refl
    where
      go : (t : Bool) → size_outside m n ≡ t → Wrote old after answer.written (generate_output m n seed)
      go true e = absurd (omega (arith, ap (λ (a : GenerateAnswer). a.refusal) (outside e).0))
      go false e =
          let is = inside e in
          wrote_as (accepted-output m n seed e) record { counted = ap (λ (a : GenerateAnswer). a.written) is.0; text = is.1 }

-- the third byte tells a record, which has kind 1, from a refusal, which begins with `ref`
pub third_byte_accepted : (m n seed : ℕ) → size_outside m n ≡ false → get_or (generate_output m n seed) 2 0 ≡ 1
unfolding generated_record
third_byte_accepted m n seed e = sym (ap (λ (l : List ℕ). get_or l 2 0) (accepted-output m n seed e))

pub third_byte_refused : (m n seed : ℕ) → size_outside m n ≡ true → get_or (generate_output m n seed) 2 0 ≡ get_or (ascii "ref") 2 0
third_byte_refused m n seed e = sym (ap (λ (l : List ℕ). get_or l 2 0) (refused-output m n seed e))
