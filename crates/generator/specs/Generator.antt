-- Document 01, "Generated banks" and "Why a record was declined": the matrix record of m, n and a seed, and generate's answer.
-- Assumes nothing.
use Rattle.std.specs.Prelude.{ℕ, zero, suc, ◌+◌, ◌*◌, ◌/◌, ◌%◌, ◌^◌, cond, List, [], ◌∷◌, ◌++◌, length, drop, bit_xor, nat_lt}
use Rattle.limits.specs.Size.{size_outside}
use Rattle.layout_rules.specs.Matrix.{matrix_record}
use Rattle.generator.specs.declared.GenerateAnswer.{GenerateAnswer}

-- ---- the record

-- hexadecimal 9E3779B9
abbrev pub growth : ℕ
growth = 2654435769

-- "the state grows by hexadecimal 9E3779B9, wrapping at 32 bits"
unfoldable pub grown : ℕ → ℕ
grown state = (state + growth) % 2 ^ 32

-- "the upper 16 bits of (state xor state shifted right by 15)"
unfoldable pub upper_half : ℕ → ℕ
upper_half state = bit_xor state (state / 2 ^ 15) / 2 ^ 16

-- "For each coefficient in the record's order the state grows", and then gives it: the numbers of so many coefficients' bytes, from a
-- state on
unfoldable pub generated_words : ℕ → ℕ → List ℕ
generated_words state zero = []
generated_words state (suc k) = upper_half (grown state) ∷ generated_words (grown state) k

-- "The state starts as the seed."
unfoldable pub generated_record : ℕ → ℕ → ℕ → List ℕ
generated_record m n seed = matrix_record m n (generated_words seed (m * n))

-- ---- generate's answer

abbrev pub generate_refused : ℕ → ℕ → GenerateAnswer
generate_refused r place = record { refusal = r; place = place; written = 0 }

abbrev pub generate_accepted : ℕ → ℕ → ℕ → GenerateAnswer
generate_accepted m n seed = record { refusal = 0; place = 0; written = length (generated_record m n seed) }

-- 4: m or n outside 1 to 8; then 6: the buffer, of so many bytes, is shorter than the record; 0: neither
unfoldable pub generate_refusal : ℕ → ℕ → ℕ → ℕ → ℕ
generate_refusal m n seed room = cond (size_outside m n) 4 (cond (nat_lt room (length (generated_record m n seed))) 6 0)

unfoldable pub generate_answer : ℕ → ℕ → ℕ → ℕ → GenerateAnswer
generate_answer m n seed room =
    elim (generate_refusal m n seed room) [ suc r ↦ generate_refused (suc r) 0 | zero ↦ generate_accepted m n seed ]

-- the buffer afterwards: the record followed by the old bytes, or the old bytes where generate refuses
unfoldable pub generate_buffer : ℕ → ℕ → ℕ → List ℕ → List ℕ
generate_buffer m n seed buffer =
    elim (generate_refusal m n seed (length buffer)) [
      | suc r ↦ buffer
      | zero ↦ generated_record m n seed ++ drop (length (generated_record m n seed)) buffer
    ]
