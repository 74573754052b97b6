-- Document 01, "Netlist and board machine": what is proved of any sequence of steps, said of the netlist of a matrix within the limits, and
-- of compile's netlist, bytes and answer, for samples of s bits.
-- Assumes nothing.
use Prim.Native.Nat.{ℕ, zero, suc, ◌+◌, ◌≤◌, ◌<◌}
use mathlib.Core.Path.{◌≡◌, refl, sym, ap, ◌∙◌}
use mathlib.Core.Bool.{Bool, true, false}
use mathlib.Core.List.{List, [], ◌∷◌, ◌++◌, map}
use native.Mathlib.Omega.{arith}
use lib.IntN.{ℤ}
use lib.ListN.{length, drop}
use borrow.Author.Tests.{lt-ltb, le-ltb}
use Rattle.limits.specs.Limits.{positions, max_operations, column_bits}
use Rattle.limits.specs.Size.{SampleWidth, sample_width_outside}
use Rattle.limits.proofs.Size.{rows_have_inputs, sample-width-within, sample-width-inside}
use Rattle.limits.proofs.Numbers.{columns_in_bits}
use Rattle.layout_rules.specs.declared.Operation.{Operation}
use Rattle.layout_rules.specs.declared.Output.{Output}
use Rattle.layout_rules.specs.Matrix.{matrix_refusal, matrix, rows, columns}
use Rattle.layout_rules.specs.Records.{head_length_of}
use Rattle.layout_rules.specs.Places.{netlist_length, enough_bytes}
use Rattle.layout_rules.proofs.LittleEndian.{AreBytes}
use Rattle.layout_rules.proofs.Lengths.{head-length}
use Rattle.board_rules.specs.Machine.{machine, output_value, times, depth}
use Rattle.board_rules.specs.Netlist.{IsNetlist}
use Rattle.board_rules.proofs.DepthLaws.{depth_at_most}
use Rattle.elimination_rules.specs.Rows.{Row, matrix_rows, plain_count}
use Rattle.elimination_rules.specs.Elimination.{Eliminated, shallowest_first, matrix_elimination}
use Rattle.elimination_rules.proofs.Order.{Columns, matrix_well_formed}
use Rattle.elimination_rules.proofs.Counts.{plain-within, steps_twice}
use Rattle.elimination_rules.proofs.Elimination.{steps_of}
use Rattle.compile_rules.specs.declared.CompileAnswer.{CompileAnswer}
use Rattle.compile_rules.specs.Compile.{operations_of, outputs_of, output_with_width, netlist_of, compile_refused, elimination_of, compiled_netlist, compiled_bytes, compile_accepted, input_refusal, compile_answer, compile_buffer}
use Rattle.compile_rules.specs.Compiled.{compiled_limits, AcceptedAnswer}
use Rattle.compile_rules.specs.Limits.{WithinLimits}
use Rattle.compile_rules.proofs.Limits.{rows-columns, accepted-within}
use Rattle.compile_rules.proofs.Counts.{Stepped, operations-count, operations-fewer, negated-most, netlist-outputs, netlist-length}
use Rattle.compile_rules.proofs.Values.{machine-times}
use Rattle.compile_rules.proofs.Widths.{machine_with_widths}
use Rattle.compile_rules.proofs.Netlist.{compiled-netlist}
use Rattle.compile_rules.proofs.Narrow.{narrow}

-- ---- a matrix within the limits, after any sequence of steps

pub length-matrix-rows : (p : ℕ) (m : List (List ℤ)) → length (matrix_rows p m) ≡ length m
unfolding matrix_rows
length-matrix-rows p [] = refl
length-matrix-rows p (row ∷ m) = ap suc (length-matrix-rows p m)

outputs_with_widths : (s n : ℕ) (os : List Operation) (entries : List ℤ) (outputs : List Output)
    → map (output_value entries) (map (output_with_width s n os) outputs) ≡ map (output_value entries) outputs
outputs_with_widths s n os entries [] = refl
outputs_with_widths s n os entries (o ∷ outputs) = ap (λ l. output_value entries o ∷ l) (outputs_with_widths s n os entries outputs)

module _ (p s m n : ℕ) (coefficients : List (List ℤ)) (e : Eliminated) (some : 1 ≤ p) (within : WithinLimits p m n coefficients)
    (steps : Stepped n (matrix_rows p coefficients) e) where
  -- the board machine takes operations and outputs from the netlist: its outputs are row times vector
  pub netlist-times : (xs : List ℤ) → length xs ≡ n
      → map (output_value (machine xs (netlist_of s m n e).operations)) (netlist_of s m n e).outputs ≡ map (λ row. times row xs) coefficients
  unfolding netlist_of
  netlist-times xs l =
      let os : List Operation = operations_of n e in
      ap (λ entries. map (output_value entries) (map (output_with_width s n os) (outputs_of n e))) (machine_with_widths s n os n os xs)
      ∙ outputs_with_widths s n os (machine xs os) (outputs_of n e)
      ∙ machine-times p n coefficients e some within.coefficients steps xs l

  pub netlist-compiled : (most : ℕ) → SampleWidth s → plain_count (matrix_rows p coefficients) ≤ most
      → IsNetlist (record { sample = s; positions = p; widest = p + s + column_bits; most = most }) (netlist_of s m n e)
  netlist-compiled most bits plain =
      let limited : Columns n coefficients = rows-columns p n coefficients within.coefficients in
      compiled-netlist (record { sample = s; positions = p; widest = p + s + column_bits; most = most }) n (matrix_rows p coefficients) e some
      (matrix_well_formed p n coefficients limited) steps
      (narrow p n coefficients e some limited steps s column_bits (omega (arith, bits.least)) (omega (arith, within.limits.columns-most, columns_in_bits)))
      m bits within.limits (length-matrix-rows p coefficients ∙ within.one_per_row) plain

-- ---- a matrix record that compile does not refuse

module _ (bytes : List ℕ) (all : AreBytes bytes) (accepted : matrix_refusal bytes ≡ 0) where
  pub limits : WithinLimits positions (rows bytes) (columns bytes) (matrix bytes)
  limits = accepted-within bytes all accepted

  pub steps : Stepped (columns bytes) (matrix_rows positions (matrix bytes)) (elimination_of bytes)
  unfolding matrix_elimination
  steps = steps_of (shallowest_first (columns bytes)) positions (columns bytes) (matrix bytes)

  pub plain-most : plain_count (matrix_rows positions (matrix bytes)) ≤ max_operations
  plain-most = plain-within (columns bytes) (matrix bytes) (rows-columns positions (columns bytes) (matrix bytes) limits.coefficients) limits.limits.columns-most
      (omega (arith, limits.one_per_row, limits.limits.rows-most))

  compiled-rows : length (matrix_rows positions (matrix bytes)) ≡ rows bytes
  compiled-rows = length-matrix-rows positions (matrix bytes) ∙ limits.one_per_row

  -- where there are rows, there are inputs
  pub compiled-inputs : 1 ≤ length (matrix_rows positions (matrix bytes)) → 1 ≤ columns bytes
  compiled-inputs h = rows_have_inputs (rows bytes) (columns bytes) limits.limits (omega (arith, compiled-rows))

module _ (s : ℕ) (bytes : List ℕ) (all : AreBytes bytes) (accepted : matrix_refusal bytes ≡ 0) where
  within : WithinLimits positions (rows bytes) (columns bytes) (matrix bytes)
  within = limits bytes all accepted

  stepped : Stepped (columns bytes) (matrix_rows positions (matrix bytes)) (elimination_of bytes)
  stepped = steps bytes all accepted

  -- for every vector of samples the board machine's outputs are row times vector
  pub compiled-times : (xs : List ℤ) → length xs ≡ columns bytes
      → map (output_value (machine xs (compiled_netlist s bytes).operations)) (compiled_netlist s bytes).outputs ≡ map (λ row. times row xs) (matrix bytes)
  compiled-times = netlist-times positions s (rows bytes) (columns bytes) (matrix bytes) (elimination_of bytes) (omega arith) within stepped

  -- shifts, widths and the number of operations within the limits, operands earlier, widths and totals right
  pub compiled-is : SampleWidth s → IsNetlist (compiled_limits s) (compiled_netlist s bytes)
  compiled-is bits =
      netlist-compiled positions s (rows bytes) (columns bytes) (matrix bytes) (elimination_of bytes) (omega arith) within stepped max_operations bits
      (plain-most bytes all accepted)

  pub compiled-answer : AcceptedAnswer s (rows bytes) max_operations (compile_accepted s bytes)
  unfolding netlist_of
  compiled-answer =
      let n : ℕ = columns bytes in
      let e : Eliminated = elimination_of bytes in
      let first : List Row = matrix_rows positions (matrix bytes) in
      let per_row : length first ≡ rows bytes = compiled-rows bytes all accepted in
      record {
        refusal = refl;
        place = refl;
        operations = operations-count n first e stepped;
        replacements = steps_twice stepped;
        fewer = operations-fewer n first e stepped;
        plain = plain-most bytes all accepted;
        written = netlist-length s (rows bytes) n first e stepped ∙ ap (netlist_length (head_length_of s) (length (operations_of n e))) per_row;
        depth = depth_at_most n (operations_of n e);
        negated = omega (arith, negated-most (compiled_netlist s bytes).outputs, netlist-outputs s (rows bytes) n first e stepped, per_row);
      }

  pub compiled-operations : (compile_accepted s bytes).operations ≤ max_operations
  compiled-operations = omega (arith, compiled-answer.fewer, compiled-answer.plain)

  pub compiled-length : length (compiled_bytes s bytes) ≤ enough_bytes
  compiled-length = omega (arith, compiled-answer.written, compiled-operations, within.limits.rows-most, head-length s)

-- ---- the refusal of what is read: 0 exactly where the sample width is one and the matrix is not refused

module _ (s : ℕ) (bytes : List ℕ) where
  pub input-outside : sample_width_outside s ≡ true → input_refusal s bytes ≡ 20
  unfolding input_refusal
  input-outside e = rw (e, input_refusal)

  pub input-inside : sample_width_outside s ≡ false → input_refusal s bytes ≡ matrix_refusal bytes
  unfolding input_refusal
  input-inside e = rw (e, input_refusal)

  pub input-accepted : SampleWidth s → matrix_refusal bytes ≡ 0 → input_refusal s bytes ≡ 0
  input-accepted bits e = input-inside (sample-width-inside s bits) ∙ e

  pub input_fine : input_refusal s bytes ≡ 0 → SampleWidth s × (matrix_refusal bytes ≡ 0)
  input_fine e = go (sample_width_outside s) refl
    where
      go : (outside : Bool) → sample_width_outside s ≡ outside → SampleWidth s × (matrix_refusal bytes ≡ 0)
      go true o = absurd (omega (arith, input-outside o))
      go false o = (sample-width-within s o, sym (input-inside o) ∙ e)

-- ---- the answer and the buffer, case by case

module _ (s : ℕ) (bytes : List ℕ) where
  pub answer-refused : (r room : ℕ) → input_refusal s bytes ≡ suc r → compile_answer s bytes room ≡ compile_refused (suc r) 0
  unfolding compile_answer
  answer-refused r room e = rw (e, compile_answer)

  pub answer-short : (room : ℕ) → input_refusal s bytes ≡ 0 → room < length (compiled_bytes s bytes) → compile_answer s bytes room ≡ compile_refused 6 0
  unfolding compile_answer
  answer-short room e h = rw (e, lt-ltb room (length (compiled_bytes s bytes)) h, compile_answer)

  pub answer-accepted : (room : ℕ) → input_refusal s bytes ≡ 0 → length (compiled_bytes s bytes) ≤ room → compile_answer s bytes room ≡ compile_accepted s bytes
  unfolding compile_answer
  answer-accepted room e h = rw (e, le-ltb room (length (compiled_bytes s bytes)) h, compile_answer)

  pub buffer-refused : (r : ℕ) (buffer : List ℕ) → input_refusal s bytes ≡ suc r → compile_buffer s bytes buffer ≡ buffer
  unfolding compile_buffer
  buffer-refused r buffer e = rw (e, compile_buffer)

  pub buffer-short : (buffer : List ℕ) → input_refusal s bytes ≡ 0 → length buffer < length (compiled_bytes s bytes) → compile_buffer s bytes buffer ≡ buffer
  unfolding compile_buffer
  buffer-short buffer e h = rw (e, lt-ltb (length buffer) (length (compiled_bytes s bytes)) h, compile_buffer)

  pub buffer-accepted : (buffer : List ℕ) → input_refusal s bytes ≡ 0 → length (compiled_bytes s bytes) ≤ length buffer
      → compile_buffer s bytes buffer ≡ compiled_bytes s bytes ++ drop (length (compiled_bytes s bytes)) buffer
  unfolding compile_buffer
  buffer-accepted buffer e h = rw (e, le-ltb (length buffer) (length (compiled_bytes s bytes)) h, compile_buffer)

-- "6,137 bytes always suffice.", whatever the sample width
pub enough_room : (s : ℕ) (bytes : List ℕ) → AreBytes bytes → (room : ℕ) → input_refusal s bytes ≡ 0 → enough_bytes ≤ room → compile_answer s bytes room ≡ compile_accepted s bytes
enough_room s bytes all room e h = answer-accepted s bytes room e (omega (arith, compiled-length s bytes all (input_fine s bytes e).1))

-- with room for every netlist, compile refuses exactly where what it reads is refused
module _ (s : ℕ) (bytes : List ℕ) (all : AreBytes bytes) (room : ℕ) (enough : enough_bytes ≤ room) (answer : CompileAnswer) (answered : answer ≡ compile_answer s bytes room) where
  pub room-refused : (answer.refusal ≡ 0 → ⊥) → (r : ℕ) × (input_refusal s bytes ≡ suc r) × (answer ≡ compile_refused (suc r) 0)
  room-refused no_zero = go (input_refusal s bytes) refl
    where
      go : (r : ℕ) → input_refusal s bytes ≡ r → (r : ℕ) × (input_refusal s bytes ≡ suc r) × (answer ≡ compile_refused (suc r) 0)
      go zero e = absurd (no_zero (ap (λ (a : CompileAnswer). a.refusal) (answered ∙ enough_room s bytes all room e enough)))
      go (suc r) e = (r, e, answered ∙ answer-refused s bytes r room e)

  pub room-accepted : answer.refusal ≡ 0 → (input_refusal s bytes ≡ 0) × (answer ≡ compile_accepted s bytes)
  room-accepted is_zero = go (input_refusal s bytes) refl
    where
      go : (r : ℕ) → input_refusal s bytes ≡ r → (input_refusal s bytes ≡ 0) × (answer ≡ compile_accepted s bytes)
      go zero e = (e, answered ∙ enough_room s bytes all room e enough)
      go (suc r) e = absurd (let z : suc r ≡ 0 = sym (ap (λ (a : CompileAnswer). a.refusal) (answered ∙ answer-refused s bytes r room e)) ∙ is_zero in omega arith)
