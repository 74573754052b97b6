-- Document 01, "Netlist and board machine": what a planned netlist gives the writing of it, and compile's answer.
-- Assumes nothing.
use Prim.Native.Nat.{ℕ, zero, suc, ◌+◌, ◌≤◌, ◌<◌}
use mathlib.Core.Path.{◌≡◌, refl, sym, ap, ◌∙◌, subst}
use mathlib.Core.List.{List, [], ◌∷◌, ◌++◌}
use native.Mathlib.Omega.{arith}
use native.Mathlib.Nat.{zero-add}
use lib.Dec.{eqb}
use lib.ListN.{length, get_or, take, drop}
use lib.Seq.{length-take-le, split_at}
use Rattle.std.specs.List.{filter}
use Rattle.limits.specs.Limits.{positions, column_bits, max_compiled_width, max_operations}
use Rattle.limits.specs.Size.{SampleWidth}
use Rattle.limits.proofs.Numbers.{columns_in_bits}
use Rattle.layout_rules.specs.declared.Operation.{Operation}
use Rattle.layout_rules.specs.declared.Output.{Output}
use Rattle.layout_rules.specs.Matrix.{matrix_refusal, matrix, rows, columns}
use Rattle.layout_rules.specs.Records.{head_length_of, netlist_bytes}
use Rattle.layout_rules.specs.Places.{netlist_length}
use Rattle.layout_rules.specs.Written.{written}
use Rattle.layout_rules.proofs.LittleEndian.{AreBytes}
use Rattle.board_rules.specs.Machine.{depth}
use Rattle.board_rules.specs.Netlist.{OperationLimits, OutputOperand}
use Rattle.elimination_rules.specs.Rows.{Row, matrix_rows}
use Rattle.elimination_rules.specs.Elimination.{Eliminated}
use Rattle.elimination_rules.proofs.Tests.{by_bool}
use Rattle.elimination_rules.proofs.Order.{matrix_well_formed}
use Rattle.compile_lists.specs.Lists.{no_operation, no_output, operations_list, outputs_list}
use Rattle.compile_rules.specs.Compile.{operations_of, outputs_of, netlist_of, negated_outputs, compile_refused, elimination_of, compiled_netlist, compiled_bytes, compile_accepted, input_refusal, compile_answer, compile_buffer}
use Rattle.compile_rules.specs.Compiled.{compiled_limits}
use Rattle.compile_write.specs.Tables.{Writable, EarlierOutputs, recorded_netlist}
use Rattle.compile_rules.proofs.Counts.{length-outputs, negated_with_widths, netlist-length}
use Rattle.compile_rules.proofs.Operands.{EachOperation, OperationsInRange, operations_in_range, EachOutput, OutputsInRange, outputs_in_range}
use Rattle.compile_rules.proofs.Netlist.{Narrow, operation_at_lem, output_at_lem}
use Rattle.compile_rules.proofs.Narrow.{narrow}
use Rattle.compile_rules.proofs.Compiled.{compiled-inputs, plain-most, input_fine, answer-refused, buffer-refused}
use Rattle.compile_plan.specs.declared.Planned.{Planned}
use Rattle.compile_plan.specs.Planned.{PlannedOf}
use Rattle.compile_plan.proofs.PlanLaws.{within, limited, stepped, operations-most, operations-sum, replacements-most}

-- ---- from each one to the one at an index

operation-index : (P : ℕ → Operation → Type 0) (symbol : ℕ) (os : List Operation) → EachOperation P symbol os → (k : ℕ) → k < length os → P (symbol + k) (get_or os k no_operation)
operation-index P symbol os h k l =
    subst (λ (i : ℕ). P (symbol + i) (get_or os k no_operation)) (length-take-le k os (omega arith))
    (operation_at_lem P symbol os (take k os) (drop (suc k) os) (get_or os k no_operation) h (split_at os k no_operation l))

output-index : (P : Output → Type 0) (os : List Output) → EachOutput P os → (i : ℕ) → i < length os → P (get_or os i no_output)
output-index P os h i l = output_at_lem P os (take i os) (drop (suc i) os) (get_or os i no_output) h (split_at os i no_output l)

module _ (s : ℕ) (bytes : List ℕ) (all : AreBytes bytes) (accepted : matrix_refusal bytes ≡ 0) where
  abbrev n : ℕ
  n = columns bytes

  abbrev first : List Row
  first = matrix_rows positions (matrix bytes)

  abbrev e : Eliminated
  e = elimination_of bytes

  in_range : OperationsInRange (compiled_limits s) n (operations_of n e)
  in_range = operations_in_range (compiled_limits s) n first e (omega arith) (matrix_well_formed positions n (matrix bytes) (limited bytes all accepted)) (stepped bytes all accepted)

  narrow-widths : SampleWidth s → Narrow s (max_compiled_width s) n e
  narrow-widths bits = narrow positions n (matrix bytes) e (omega arith) (limited bytes all accepted) (stepped bytes all accepted) s column_bits (omega (arith, bits.least)) (omega (arith, (within bytes all accepted).limits.columns-most, columns_in_bits))

  at : (k : ℕ) → k < length (operations_of n e) → OperationLimits (compiled_limits s) (n + k) (get_or (operations_of n e) k no_operation)
  at k h = operation-index (OperationLimits (compiled_limits s)) n (operations_of n e) in_range k h

  pub writable : SampleWidth s → Writable (compiled_limits s) (columns bytes) (operations_of (columns bytes) (elimination_of bytes))
  writable bits = record {
    inputs = (within bytes all accepted).limits.columns-most;
    few = operations-most bytes all accepted;
    operation = at;
    narrow = (narrow-widths bits).entries;
  }

  outputs-within : OutputsInRange (compiled_limits s) (n + length (operations_of n e)) (outputs_of n e)
  outputs-within = outputs_in_range (compiled_limits s) n first e (omega arith) (compiled-inputs bytes all accepted) (matrix_well_formed positions n (matrix bytes) (limited bytes all accepted)) (stepped bytes all accepted)

  pub earlier_outputs : EarlierOutputs (compiled_limits s) (columns bytes) (operations_of (columns bytes) (elimination_of bytes)) (outputs_of (columns bytes) (elimination_of bytes))
  earlier_outputs i h = output-index (OutputOperand (compiled_limits s) (n + length (operations_of n e))) (outputs_of n e) outputs-within i h

  -- the size is known from the counts
  pub size_is : length (compiled_bytes s bytes) ≡ netlist_length (head_length_of s) (length (operations_of (columns bytes) (elimination_of bytes))) (length (outputs_of (columns bytes) (elimination_of bytes)))
  size_is = netlist-length s (rows bytes) n first e (stepped bytes all accepted) ∙ omega (arith, length-outputs n first e (stepped bytes all accepted))

pub netlist-is : (s : ℕ) (bytes : List ℕ)
    → recorded_netlist s (rows bytes) (columns bytes) (operations_of (columns bytes) (elimination_of bytes)) (outputs_of (columns bytes) (elimination_of bytes)) ≡ compiled_netlist s bytes
unfolding netlist_of
netlist-is s bytes = refl

-- ---- the outputs with the sign minus, filtered

pub negated-filtered : (os : List Output) → negated_outputs os ≡ length (filter (λ o. eqb o.sign 1) os)
unfolding negated_outputs
negated-filtered [] = refl
negated-filtered (o ∷ os) = by_bool (eqb o.sign 1) (λ e. rw (e, negated_outputs) (ap suc (negated-filtered os))) (λ e. rw (e, negated_outputs) (negated-filtered os))

-- ---- compile's answer and buffer

-- a sample width or a matrix record that is declined
pub declined : (s : ℕ) (bytes buffer : List ℕ) (refusal : ℕ) → refusal ≡ input_refusal s bytes → (refusal ≡ 0 → ⊥)
    → (compile_refused refusal 0 ≡ compile_answer s bytes (length buffer)) × (buffer ≡ compile_buffer s bytes buffer)
declined s bytes buffer zero e h = absurd (h refl)
declined s bytes buffer (suc r) e h = (sym (answer-refused s bytes r (length buffer) (sym e)), sym (buffer-refused s bytes r buffer (sym e)))

-- a plan of a record that is not declined
module _ (s : ℕ) (bytes : List ℕ) (all : AreBytes bytes) (read : input_refusal s bytes ≡ 0) (p : Planned) (so : PlannedOf bytes p) where
  abbrev os : List Operation
  os = operations_list p.operations

  abbrev outputs : List Output
  outputs = outputs_list p.outputs

  accepted : matrix_refusal bytes ≡ 0
  accepted = (input_fine s bytes read).1

  pub operations-few : length (operations_list p.operations) ≤ max_operations
  operations-few = omega (arith, ap (length {A = Operation}) so.operations, operations-most bytes all accepted)

  pub counts-few : (p.plain ≤ max_operations) × (p.divisors ≤ max_operations) × (p.replacements ≤ max_operations)
  counts-few = (omega (arith, so.plain, plain-most bytes all accepted), omega (arith, so.divisors, operations-sum bytes all accepted), omega (arith, so.replacements, replacements-most bytes all accepted))

  pub size-planned : (size head count rows : ℕ) → size ≡ netlist_length head count rows → head ≡ head_length_of s → count ≡ length (operations_list p.operations)
      → rows ≡ length (outputs_list p.outputs) → size ≡ length (compiled_bytes s bytes)
  size-planned size head count rows a b c d =
      rw (a, b, c, d) (omega (arith, size_is s bytes all accepted, ap (length {A = Operation}) so.operations, ap (length {A = Output}) so.outputs))

  pub planned_writable : (n : ℕ) → n ≡ columns bytes
      → Writable (compiled_limits s) n (operations_list p.operations) × EarlierOutputs (compiled_limits s) n (operations_list p.operations) (outputs_list p.outputs)
  planned_writable n is = rw (is, so.operations, so.outputs) (writable s bytes all accepted (input_fine s bytes read).0, earlier_outputs s bytes all accepted)

  -- a netlist that is written
  pub accepted-is : (n size operations deep negated : ℕ) → n ≡ columns bytes → size ≡ length (compiled_bytes s bytes) → operations ≡ length (operations_list p.operations)
      → deep ≡ depth n (operations_list p.operations) → negated ≡ negated_outputs (outputs_list p.outputs)
      → record { refusal = 0; place = 0; written = size; operations = operations; plain = p.plain; divisors = p.divisors; replacements = p.replacements; depth = deep; negated = negated } ≡ compile_accepted s bytes
  unfolding netlist_of
  accepted-is n size operations deep negated k a b c d =
      rw (a, b, c, d, k, so.operations, so.outputs, so.plain, so.divisors, so.replacements, negated_with_widths s (columns bytes) (operations_of (columns bytes) (elimination_of bytes)) (outputs_of (columns bytes) (elimination_of bytes)))

  pub buffer-is : (buffer : List ℕ) (m n : ℕ) → m ≡ rows bytes → n ≡ columns bytes
      → written buffer 0 (netlist_bytes (recorded_netlist s m n (operations_list p.operations) (outputs_list p.outputs))) ≡ compiled_bytes s bytes ++ drop (length (compiled_bytes s bytes)) buffer
  buffer-is buffer m n a b =
      rw (a, b, so.operations, so.outputs, netlist-is s bytes) (ap (λ (k : ℕ). compiled_bytes s bytes ++ drop k buffer) (zero-add (length (compiled_bytes s bytes))))
