-- Document 01, "Programs": what the program burn-in prints.
-- Assumes nothing.
use Rattle.std.specs.Prelude.{ℕ, zero, suc, ◌+◌, ◌*◌, ◌%◌, ◌^◌, Bool, true, false, List, [], ◌++◌}
use Rattle.limits.specs.Limits.{unstated_width}
use Rattle.layout_rules.specs.Matrix.{matrix_refusal}
use Rattle.compile_rules.specs.Compile.{compiled_bytes, compile_accepted}
use Rattle.netlist_rules.specs.declared.CheckAnswer.{CheckAnswer}
use Rattle.netlist_rules.specs.Check.{check_answer}
use Rattle.generator.specs.Generator.{generated_record}
use Rattle.text.specs.Decimal.{number}
use Rattle.text.specs.Text.{ascii, refused_line, longest_refused_line}
use Rattle.text.specs.Wrote.{text_in}

-- ---- a bank

-- "operations N": so many, where the checker passes the netlist
abbrev pub checked_text : CheckAnswer → ℕ → List ℕ
checked_text answer operations =
    elim answer.refusal [ suc r ↦ refused_line (suc r) answer.place | zero ↦ ascii "operations " ++ number operations ++ ascii "\n" ]

-- a matrix record is compiled for samples of 16 bits, and the netlist checked against it; compile has room for every netlist, so it
-- refuses with one of 1 to 5
unfoldable pub outcome_text : List ℕ → List ℕ
outcome_text bytes =
    elim (matrix_refusal bytes) [
      | suc r ↦ refused_line (suc r) 0
      | zero ↦ checked_text (check_answer bytes (compiled_bytes unstated_width bytes)) (compile_accepted unstated_width bytes).operations
    ]

-- "seed S operations N", or "seed S refused N at P"; generate has room for every record, so it refuses no 8 by 8 bank (`always_room` in
-- generator/proofs/Answer)
unfoldable pub burn_in_line : ℕ → List ℕ
burn_in_line seed = ascii "seed " ++ number seed ++ ascii " " ++ outcome_text (generated_record 8 8 seed)

-- ---- the run

-- the lines of so many seeds: "k · 19088743, wrapping at 32 bits", or another number in its place
unfoldable pub burn_in_lines : ℕ → ℕ → List ℕ
burn_in_lines step zero = []
burn_in_lines step (suc k) = burn_in_lines step k ++ burn_in_line ((k * step) % 2 ^ 32)

-- "seeds 0 to 999", or spread ones
abbrev pub seed_step : Bool → ℕ
seed_step false = 1
seed_step true = 19088743

abbrev pub seed_count : ℕ
seed_count = 1000

abbrev pub burn_in_text : Bool → List ℕ
burn_in_text spread = burn_in_lines (seed_step spread) seed_count

-- bytes that hold every line: a number of 20 digits between `seed ` and a blank, and the line of a refusal
abbrev pub longest_burn_in_line : ℕ
longest_burn_in_line = 26 + longest_refused_line

-- nothing where the lent text is shorter than the longest text
abbrev pub burn_in_text_in : ℕ → Bool → List ℕ
burn_in_text_in lent spread = text_in (longest_burn_in_line * seed_count) lent (burn_in_text spread)
