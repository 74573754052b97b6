-- What generate answers, and what the buffer holds afterwards, from what holds of m, n and the buffer.
-- Assumes nothing.
use Rattle.std.proofs.Common.{◌≡◌, ℕ, suc, ◌*◌, ◌<◌, ◌≤◌, true, false, List, ◌++◌, length, drop, sym, arith, le-ltb, lt-ltb}
use Rattle.limits.specs.Size.{SizeLimits, size_outside}
use Rattle.limits.proofs.Size.{size-inside}
use Rattle.layout_rules.specs.Matrix.{matrix_length, longest_record}
use Rattle.layout_rules.proofs.MatrixRecord.{record-fits, matrix-record-length}
use Rattle.generator.specs.declared.GenerateAnswer.{GenerateAnswer}
use Rattle.generator.specs.Generator.{generated_words, generated_record, generate_refused, generate_accepted, generate_refusal, generate_answer, generate_buffer}
use Rattle.generator.proofs.States.{length_generated}

module _ (m n seed : ℕ) where
  -- "Length 6 + 2 times m times n"
  pub generated_length : length (generated_record m n seed) ≡ matrix_length m n
  unfolding generated_record
  generated_length = matrix-record-length m n (generated_words seed (m * n)) (length_generated seed (m * n))

  module _ (buffer : List ℕ) where
    -- the answer, and the buffer afterwards
    abbrev pub AnswersWith : GenerateAnswer → List ℕ → Type 0
    AnswersWith answer after = (answer ≡ generate_answer m n seed (length buffer)) × (after ≡ generate_buffer m n seed buffer)

    refused_with : (r : ℕ) → generate_refusal m n seed (length buffer) ≡ suc r → AnswersWith (generate_refused (suc r) 0) buffer
    unfolding generate_answer generate_buffer
    refused_with r e = (rw (e, generate_answer), rw (e, generate_buffer))

    pub size-refused : size_outside m n ≡ true → AnswersWith (generate_refused 4 0) buffer
    unfolding generate_refusal
    size-refused e = refused_with 3 (rw e)

    module _ (inside : size_outside m n ≡ false) where
      pub short-refused : length buffer < matrix_length m n → AnswersWith (generate_refused 6 0) buffer
      unfolding generate_refusal
      short-refused h = refused_with 5 (rw (inside, lt-ltb (length buffer) (length (generated_record m n seed)) (rw generated_length h)))

      pub generate_accepted_lem : matrix_length m n ≤ length buffer
          → AnswersWith (generate_accepted m n seed) (generated_record m n seed ++ drop (length (generated_record m n seed)) buffer)
      unfolding generate_answer generate_buffer generate_refusal
      generate_accepted_lem h =
          let none : generate_refusal m n seed (length buffer) ≡ 0 = rw (inside, le-ltb (length buffer) (length (generated_record m n seed)) (rw generated_length h)) in
          (rw (none, generate_answer), rw (none, generate_buffer))

-- "134 bytes always suffice."
pub always_room : (m n seed : ℕ) (buffer : List ℕ) → SizeLimits m n → longest_record ≤ length buffer → generate_answer m n seed (length buffer) ≡ generate_accepted m n seed
always_room m n seed buffer limits room = sym (generate_accepted_lem m n seed buffer (size-inside m n limits) (omega (arith, record-fits m n limits))).0
