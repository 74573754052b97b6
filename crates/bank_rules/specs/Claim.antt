-- Demand 3, and document 01, "Netlist and board machine": the one claim about compile, read and run together. Comments in quotation
-- marks are the demand's sentences, or document 01's.
-- Assumes nothing.
use Rattle.std.specs.Prelude.{ℕ, ◌+◌, ◌-◌, ◌≤◌, ◌<◌, ◌≡◌, true, ◌⊎◌, ℤ, length, get_or, take}
use mathlib.Core.List.{List, [], ◌∷◌, ◌++◌, map, Memᴰ}
use Rattle.limits.specs.Limits.{positions}
use Rattle.limits.specs.Size.{SampleWidth}
use Rattle.elimination_rules.specs.declared.Divisor.{Divisor}
use Rattle.elimination_rules.specs.Rows.{matrix_rows, plain_count}
use Rattle.elimination_rules.specs.Divisors.{Pair, occurrences, overlap}
use Rattle.elimination_rules.specs.Elimination.{Eliminated, matrix_elimination}
use Rattle.elimination_rules.specs.Steps.{Steps}
use Rattle.layout_rules.specs.declared.Operation.{Operation}
use Rattle.layout_rules.specs.declared.Output.{Output}
use Rattle.layout_rules.specs.Matrix.{rows, columns, IsMatrixRecord, matrix}
use Rattle.layout_rules.specs.Records.{Netlist}
use Rattle.board_rules.specs.Machine.{machine, entry_at, output_value, times}
use Rattle.board_rules.specs.Width.{Within, Samples}
use Rattle.compile_rules.specs.declared.CompileAnswer.{CompileAnswer}
use Rattle.compile_rules.specs.Compile.{operations_of, outputs_of, with_widths, output_with_width, negated_outputs, compiled_bytes, compile_answer, compile_buffer}
use Rattle.netlist_rules.specs.Read.{accepted, read_netlist, read_answer}
use Rattle.netlist_rules.specs.Run.{run_answer, run_outputs}
use Rattle.netlist_rules.specs.Exact.{IsNetlistBytes}
use Rattle.bank_rules.specs.declared.Answers.{Answers}

-- ---- what is given

-- document 01, "Matrix record": "Such a matrix is within the limits."; "No bytes mean a bank of no rows and no inputs, also within the
-- limits"
pub record MatrixWithinLimits (bytes : List ℕ) : Type 0 where
  -- each is below 256 (past the end 0 is read)
  pub are-bytes : (i : ℕ) → get_or bytes i 0 < 256
  pub within : (bytes ≡ []) ⊎ IsMatrixRecord bytes

-- s is the sample width
pub record Given (s : ℕ) (matrix_bytes buffer : List ℕ) (samples outputs : List ℤ) : Type 0 where
  -- "for every matrix within the limits"
  pub within-limits : MatrixWithinLimits matrix_bytes
  -- "every sample width from 8 to 24"
  pub sample-width : SampleWidth s
  -- "every lent buffer long enough for its netlist", whatever it held
  pub long_enough : length (compiled_bytes s matrix_bytes) ≤ length buffer
  -- "and every vector of samples of that width, however steep"; "Run is lent the vector as its n samples"
  pub vector : Samples s (columns matrix_bytes) samples
  -- "and m outputs, whatever the outputs held"
  pub one_per_row : length outputs ≡ rows matrix_bytes

-- ---- the claim

-- "An accepted call returns 0 at place 0."
abbrev pub Accepts : ℕ → ℕ → Type 0
Accepts refusal place = (refusal ≡ 0) × (place ≡ 0)

-- "read and run are lent its first bytes, as many as compile reports written"
abbrev pub bytes_written : CompileAnswer → List ℕ → List ℕ
bytes_written answer buffer = take answer.written buffer

-- "Two occurrences overlap if they are in the same row and share a term": pair p of row i and pair q of row j
abbrev pub Overlap : ℕ → Pair → ℕ → Pair → Type 0
Overlap i p j q = (i ≡ j) × (overlap p q ≡ true)

-- the sample width, the matrix's bytes, the buffer after compile, the samples, the outputs after run, and what the three calls returned
pub record Claim (s : ℕ) (matrix_bytes buffer : List ℕ) (samples outputs : List ℤ) (answers : Answers) : Type 0 where
  -- "Compile accepts the matrix, and read and run accept the bytes it wrote."
  pub compile_accepts : Accepts answers.compile.refusal answers.compile.place
  pub read-accepts : Accepts answers.read.refusal answers.read.place
  pub run_accepts : Accepts answers.run.refusal answers.run.place
  -- "as many as compile reports written"
  pub as_many_bytes : length (bytes_written answers.compile buffer) ≡ answers.compile.written
  -- the bytes that compile wrote are those of one netlist, as document 01 lays its records out and as read reads them: "The board machine
  -- takes its operations and outputs from these same bytes."
  pub netlist : Netlist
  pub its_bytes : IsNetlistBytes (bytes_written answers.compile buffer) netlist
  pub its_reading : read_netlist (bytes_written answers.compile buffer) ≡ accepted netlist
  -- they are for samples of this width
  pub its_width : netlist.head.width ≡ s
  -- "Read returns the matrix's m and n, and the operations and depth that compile reported."
  pub read-rows : answers.read.m ≡ rows matrix_bytes
  pub read-columns : answers.read.n ≡ columns matrix_bytes
  pub read-operations : answers.read.operations ≡ answers.compile.operations
  pub read-depth : answers.read.depth ≡ answers.compile.depth
  -- "Each output of run is the board machine's and equals row times vector."
  pub machine-outputs : outputs ≡ map (output_value (machine samples netlist.operations)) netlist.outputs
  pub row-times-vector : outputs ≡ map (λ row. times row samples) (matrix matrix_bytes)
  -- "Each operation's value on the board machine, and each output, lies within its recorded width."; the operation behind so many others
  -- appends the entry n + so many
  pub operation-within : (before after : List Operation) (o : Operation) → netlist.operations ≡ before ++ o ∷ after
      → Within o.width (entry_at (machine samples netlist.operations) (columns matrix_bytes + length before))
  pub output-within : (before after : List Output) (o : Output) → netlist.outputs ≡ before ++ o ∷ after
      → Within o.width (output_value (machine samples netlist.operations) o)
  -- the elimination that is spoken of below: document 01's, of this matrix, whose digits have 16 positions; compile reports its counts
  pub elimination : Eliminated
  pub by_the_rules : elimination ≡ matrix_elimination positions (columns matrix_bytes) (matrix matrix_bytes)
  pub plain-reported : answers.compile.plain ≡ plain_count (matrix_rows positions (matrix matrix_bytes))
  pub divisors-reported : answers.compile.divisors ≡ length elimination.divisors
  pub replacements-reported : answers.compile.replacements ≡ elimination.replacements
  -- "The operations in those bytes are exactly as many as plain count plus divisors minus replacements"; and once more without minus,
  -- so that it is seen that nothing is cut off at 0
  pub operation-count : length netlist.operations ≡ answers.compile.plain + answers.compile.divisors - answers.compile.replacements
  pub operation-count-added : length netlist.operations + answers.compile.replacements ≡ answers.compile.plain + answers.compile.divisors
  pub operations-reported : answers.compile.operations ≡ length netlist.operations
  -- "and at most the plain count minus one per divisor"; and once more without minus
  pub at_most : length netlist.operations ≤ answers.compile.plain - answers.compile.divisors
  pub at_most-added : length netlist.operations + answers.compile.divisors ≤ answers.compile.plain
  -- "The negated outputs are the output records with sign minus", in those bytes
  pub negated-reported : answers.compile.negated ≡ negated_outputs netlist.outputs
  -- "In the remaining rows any two occurrences of one divisor overlap, whether it became an operation or not.": every divisor d, pair p
  -- among its occurrences in row i, pair q among those in row j
  pub occurrences-overlap : (d : Divisor) (i j : ℕ) (p q : Pair)
      → Memᴰ p (occurrences d (get_or elimination.remaining_rows i [])) → Memᴰ q (occurrences d (get_or elimination.remaining_rows j []))
      → Overlap i p j q
  -- "Divisors and remaining rows are here those of which document 01 makes the very operations written": one per divisor, then per
  -- remaining row its joins, each with its width; and the outputs
  pub very_operations :
      let os = operations_of (columns matrix_bytes) elimination in
      netlist.operations ≡ with_widths s (columns matrix_bytes) os (columns matrix_bytes) os
  pub very_outputs :
      let os = operations_of (columns matrix_bytes) elimination in
      netlist.outputs ≡ map (output_with_width s (columns matrix_bytes) os) (outputs_of (columns matrix_bytes) elimination)
  -- "and replacements the pairs replaced on the way to those rows": steps from the matrix's rows to the remaining rows, whose divisors
  -- are these and whose pairs replaced number so many
  pub way_to_those_rows : Steps (columns matrix_bytes) (matrix_rows positions (matrix matrix_bytes))
      elimination.divisors elimination.replacements elimination.remaining_rows

-- ---- what is claimed of the three calls' definitions

-- compile is lent the matrix's bytes and the buffer, and given the sample width; read is lent the bytes it wrote; run these, the samples
-- and the outputs
abbrev pub answers_of : ℕ → List ℕ → List ℕ → List ℤ → List ℤ → Answers
answers_of s matrix_bytes buffer samples outputs =
    let compiled = compile_answer s matrix_bytes (length buffer) in
    let bytes = bytes_written compiled (compile_buffer s matrix_bytes buffer) in
    record { compile = compiled; read = read_answer bytes; run = run_answer bytes samples (length outputs) }

-- the lent outputs after run
abbrev pub outputs_after : ℕ → List ℕ → List ℕ → List ℤ → List ℤ → List ℤ
outputs_after s matrix_bytes buffer samples outputs =
    run_outputs (bytes_written (compile_answer s matrix_bytes (length buffer)) (compile_buffer s matrix_bytes buffer)) samples outputs

-- "This is one claim, for every matrix within the limits, every sample width from 8 to 24, every lent buffer long enough for its netlist
-- and every vector of samples of that width"
abbrev pub Demand : Type 0
Demand = (s : ℕ) (matrix_bytes buffer : List ℕ) (samples outputs : List ℤ) → Given s matrix_bytes buffer samples outputs
    → Claim s matrix_bytes (compile_buffer s matrix_bytes buffer) samples (outputs_after s matrix_bytes buffer samples outputs)
    (answers_of s matrix_bytes buffer samples outputs)
