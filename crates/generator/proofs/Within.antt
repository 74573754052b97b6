-- An accepted record is a matrix within the limits: compile accepts it, the checker passes its netlist, and demand 3 holds of it.
-- Assumes nothing.
use Rattle.std.proofs.Common.{◌≡◌, ℕ, suc, ◌+◌, ◌*◌, ◌<◌, ◌≤◌, List, [], length, get_or, take, drop, ℤ, pos, sym, refl, ap, ◌∙◌, subst, ap₂, le_refl, mul-le-mul, arith}
use lib.Seq.{take-append_seam}
use Rattle.limits.specs.Size.{SizeLimits, SampleWidth}
use Rattle.limits.proofs.Size.{size-inside}
use Rattle.layout_rules.specs.Matrix.{rows, columns, matrix, matrix_refusal, signed_word}
use Rattle.layout_rules.proofs.LittleEndian.{AreBytes}
use Rattle.layout_rules.proofs.MatrixRecord.{matrix-record-bytes, matrix-record-accepted, matrix_coefficient}
use Rattle.layout_rules.proofs.MatrixRows.{matrix_at}
use Rattle.board_rules.specs.Width.{Samples}
use Rattle.compile_rules.specs.Compile.{compiled_bytes, compile_accepted, compile_answer, compile_buffer}
use Rattle.compile_rules.proofs.Compiled.{input-accepted, answer-accepted}
use Rattle.netlist_rules.specs.Check.{checked, check_answer}
use Rattle.bank_rules.specs.Claim.{MatrixWithinLimits, Claim, answers_of, outputs_after}
use Rattle.bank_rules.proofs.Claim.{within-limits, compiled-checked, claim_holds}
use Rattle.generator.specs.declared.GenerateAnswer.{GenerateAnswer}
use Rattle.generator.specs.Generator.{upper_half, generated_words, generated_record, generate_accepted, generate_answer, generate_buffer}
use Rattle.generator.specs.States.{state_after}
use Rattle.generator.specs.Tests.{generate_tests}
use Rattle.generator.proofs.States.{length_generated, generated_at, generated_below}
use Rattle.generator.proofs.Answer.{generated_length, generate_accepted_lem}
use Rattle.generator.proofs.GenerateTests.{generate_passes}

module _ (m n seed : ℕ) where
  abbrev record-bytes : List ℕ
  record-bytes = generated_record m n seed

  abbrev words : List ℕ
  words = generated_words seed (m * n)

  pub generated_rows : rows record-bytes ≡ m
  unfolding generated_record
  generated_rows = refl

  pub generated_columns : columns record-bytes ≡ n
  unfolding generated_record
  generated_columns = refl

  -- the coefficient of row i and column j is given by the state after so many coefficients, itself among them
  pub generated_coefficient : (i j : ℕ) → i < m → j < n
      → get_or (get_or (matrix record-bytes) i []) j (pos 0) ≡ signed_word (upper_half (state_after seed (suc (i * n + j))))
  unfolding generated_record
  generated_coefficient i j h k =
      let up_to : suc i * n ≤ m * n = mul-le-mul h (le_refl n) in
      let among : i * n + j < m * n = omega arith in
      matrix_at record-bytes i j h k ∙ matrix_coefficient m n words (length_generated seed (m * n)) (i * n + j) among
      ∙ ap signed_word (generated_at seed (m * n) (i * n + j) among)

  module _ (limits : SizeLimits m n) where
    generated_bytes : AreBytes record-bytes
    unfolding generated_record
    generated_bytes = matrix-record-bytes m n words (length_generated seed (m * n)) limits (generated_below seed (m * n))

    pub generated_accepted : matrix_refusal record-bytes ≡ 0
    unfolding generated_record
    generated_accepted = matrix-record-accepted m n words (length_generated seed (m * n)) limits

    pub generated_within : MatrixWithinLimits record-bytes
    generated_within = within-limits record-bytes generated_bytes generated_accepted

    -- for every sample width
    module _ (s : ℕ) (bits : SampleWidth s) where
      pub generated_compiles : (room : ℕ) → length (compiled_bytes s record-bytes) ≤ room → compile_answer s record-bytes room ≡ compile_accepted s record-bytes
      generated_compiles room = answer-accepted s record-bytes room (input-accepted s record-bytes bits generated_accepted)

      pub generated_checked : check_answer record-bytes (compiled_bytes s record-bytes) ≡ checked 0 0
      generated_checked = compiled-checked s bits record-bytes generated_within

      -- demand 3, for every buffer long enough, every vector of samples and one output for each row
      pub generated_claim : (buffer : List ℕ) (samples outputs : List ℤ) → length (compiled_bytes s record-bytes) ≤ length buffer
          → Samples s n samples → length outputs ≡ m
          → Claim s record-bytes (compile_buffer s record-bytes buffer) samples (outputs_after s record-bytes buffer samples outputs) (answers_of s record-bytes buffer samples outputs)
      generated_claim buffer samples outputs room vector per_row =
          claim_holds s record-bytes buffer samples outputs record {
            within-limits = generated_within;
            sample-width = bits;
            long_enough = room;
            vector = subst (λ (k : ℕ). Samples s k samples) (sym generated_columns) vector;
            one_per_row = per_row ∙ sym generated_rows;
          }

-- ---- what generate writes where it accepts

module _ (m n seed : ℕ) (buffer : List ℕ) (accepts : generate_answer m n seed (length buffer) ≡ generate_accepted m n seed) where
  pub accepted-limits : SizeLimits m n
  unfolding generate_tests
  accepted-limits = ((generate_passes m n seed (length buffer)).0 accepts).0

  pub accepted-record : take (generate_answer m n seed (length buffer)).written (generate_buffer m n seed buffer) ≡ generated_record m n seed
  unfolding generate_tests
  accepted-record =
      let room = ((generate_passes m n seed (length buffer)).0 accepts).1.0 in
      let both = generate_accepted_lem m n seed buffer (size-inside m n accepted-limits) (rw (generated_length m n seed) at room) in
      ap₂ (λ (a : GenerateAnswer) (l : List ℕ). take a.written l) accepts (sym both.1)
      ∙ take-append_seam (generated_record m n seed) (drop (length (generated_record m n seed)) buffer)

  pub accepted-record-within : MatrixWithinLimits (take (generate_answer m n seed (length buffer)).written (generate_buffer m n seed buffer))
  accepted-record-within = subst MatrixWithinLimits (sym accepted-record) (generated_within m n seed accepted-limits)
