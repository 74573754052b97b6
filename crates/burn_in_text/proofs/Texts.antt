-- The text of burn-in from what generate, compile and check answer and leave in buffers that suffice.
-- Assumes nothing.
use Rattle.std.proofs.Common.{◌≡◌, ℕ, zero, suc, ◌+◌, ◌*◌, ◌%◌, ◌^◌, ◌≤◌, List, [], ◌++◌, length, take, drop, sym, refl, ap, ◌∙◌, ap₂, append-nil, suc-mul, arith, drop_of_length-le, length-take}
use Rattle.limits.specs.Limits.{unstated_width}
use Rattle.layout_rules.specs.Matrix.{longest_record, matrix_refusal}
use Rattle.layout_rules.specs.Places.{enough_bytes}
use Rattle.layout_rules.proofs.LittleEndian.{AreBytes}
use Rattle.compile_rules.specs.declared.CompileAnswer.{CompileAnswer}
use Rattle.compile_rules.specs.Compile.{input_refusal, compile_answer, compile_buffer, compile_accepted, compiled_bytes}
use Rattle.compile_rules.proofs.Compiled.{input-inside, room-refused, room-accepted, compiled-length}
use Rattle.netlist_rules.specs.declared.CheckAnswer.{CheckAnswer}
use Rattle.netlist_rules.specs.Check.{check_answer}
use Rattle.bank_rules.specs.Claim.{bytes_written}
use Rattle.bank_rules.proofs.Claim.{bytes-written}
use Rattle.generator.specs.Generator.{generated_record, generate_buffer}
use Rattle.generator.proofs.Answer.{generated_length, generate_accepted_lem}
use Rattle.text.specs.Decimal.{number}
use Rattle.text.specs.Text.{ascii, refused_line}
use Rattle.burn_in_text.specs.BurnInText.{checked_text, outcome_text, burn_in_line, burn_in_lines}

-- ---- a bank

refused-text : (bytes : List ℕ) (r : ℕ) → matrix_refusal bytes ≡ suc r → refused_line (suc r) 0 ≡ outcome_text bytes
unfolding outcome_text
refused-text bytes r e = sym (rw (e, outcome_text))

compiled-text : (bytes : List ℕ) → matrix_refusal bytes ≡ 0
    → checked_text (check_answer bytes (compiled_bytes unstated_width bytes)) (compile_accepted unstated_width bytes).operations ≡ outcome_text bytes
unfolding outcome_text
compiled-text bytes e = sym (rw (e, outcome_text))

module _ (bytes : List ℕ) (all : AreBytes bytes) (old after : List ℕ) (answer : CompileAnswer)
    (room : enough_bytes ≡ length old) (answered : answer ≡ compile_answer unstated_width bytes (length old)) (left : after ≡ compile_buffer unstated_width bytes old) where
  pub outcome_refused : (answer.refusal ≡ 0 → ⊥) → refused_line answer.refusal answer.place ≡ outcome_text bytes
  outcome_refused no_zero =
      let is = room-refused unstated_width bytes all (length old) (omega arith) answer answered no_zero in
      ap (λ (a : CompileAnswer). refused_line a.refusal a.place) is.2 ∙ refused-text bytes is.0 (sym (input-inside unstated_width bytes refl) ∙ is.1)

  module _ (is_zero : answer.refusal ≡ 0) where
    accepted : input_refusal unstated_width bytes ≡ 0
    accepted = (room-accepted unstated_width bytes all (length old) (omega arith) answer answered is_zero).0

    taken : matrix_refusal bytes ≡ 0
    taken = sym (input-inside unstated_width bytes refl) ∙ accepted

    takes : answer ≡ compile_accepted unstated_width bytes
    takes = (room-accepted unstated_width bytes all (length old) (omega arith) answer answered is_zero).1

    its_bytes : take answer.written after ≡ compiled_bytes unstated_width bytes
    its_bytes = ap₂ bytes_written answered left ∙ bytes-written unstated_width bytes old accepted (omega (arith, compiled-length unstated_width bytes all taken))

    pub netlist_part : answer.written ≤ length after
    netlist_part = omega (arith, ap (λ (a : CompileAnswer). a.written) takes, ap length its_bytes, length-take answer.written after)

    -- what check answers of the bytes that compile wrote
    module _ (check : CheckAnswer) (checks : check ≡ check_answer bytes (take answer.written after)) where
      text_of : checked_text check answer.operations ≡ outcome_text bytes
      text_of =
          ap₂ checked_text (checks ∙ ap (check_answer bytes) its_bytes) (ap (λ (a : CompileAnswer). a.operations) takes) ∙ compiled-text bytes taken

      pub check_refused : (check.refusal ≡ 0 → ⊥) → refused_line check.refusal check.place ≡ outcome_text bytes
      check_refused no_zero = go check.refusal refl ∙ text_of
        where
          go : (r : ℕ) → check.refusal ≡ r → refused_line check.refusal check.place ≡ checked_text check answer.operations
          go zero e = absurd (no_zero e)
          go (suc r) e = rw e

      pub check_accepted : check.refusal ≡ 0 → ascii "operations " ++ number answer.operations ++ ascii "\n" ≡ outcome_text bytes
      check_accepted e = sym (rw (e, checked_text)) ∙ text_of

-- ---- a seed's line

-- the bank fills a buffer of its length
record-filled : (seed : ℕ) (old : List ℕ) → longest_record ≡ length old → generate_buffer 8 8 seed old ≡ generated_record 8 8 seed
record-filled seed old e =
    let none : drop (length (generated_record 8 8 seed)) old ≡ [] =
    drop_of_length-le old {i = length (generated_record 8 8 seed)} (omega (arith, generated_length 8 8 seed)) in
    sym (generate_accepted_lem 8 8 seed old refl (omega arith)).1 ∙ ap (λ (l : List ℕ). generated_record 8 8 seed ++ l) none ∙ append-nil (generated_record 8 8 seed)

pub line_of : (seed : ℕ) (old filled : List ℕ) → longest_record ≡ length old → filled ≡ generate_buffer 8 8 seed old
    → ascii "seed " ++ number seed ++ ascii " " ++ outcome_text filled ≡ burn_in_line seed
unfolding burn_in_line
line_of seed old filled size left = ap (λ (l : List ℕ). ascii "seed " ++ number seed ++ ascii " " ++ outcome_text l) (left ∙ record-filled seed old size)

-- ---- the lines

-- one seed more
pub seed_next : (step k : ℕ) → ((k * step) % 2 ^ 32 + step) % 2 ^ 32 ≡ (suc k * step) % 2 ^ 32
seed_next step k = rw suc-mul (omega arith)

pub lines_next : (step k seed : ℕ) → seed ≡ (k * step) % 2 ^ 32 → burn_in_lines step k ++ burn_in_line seed ≡ burn_in_lines step (suc k)
unfolding burn_in_lines
lines_next step k seed e = ap (λ (x : ℕ). burn_in_lines step k ++ burn_in_line x) e
