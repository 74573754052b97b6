-- Document 01, "Netlist and board machine" and "Why a record was declined": the netlist of a matrix, and compile's answer.
-- Assumes nothing.
use Rattle.std.specs.Prelude.{ℕ, zero, suc, true, false, cond, List, [], ◌∷◌, ◌++◌, map, ltb, eqb, length, drop}
use Rattle.limits.specs.Limits.{positions}
use Rattle.limits.specs.Size.{sample_width_outside}
use Rattle.elimination_rules.specs.Rows.{matrix_rows, plain_count}
use Rattle.elimination_rules.specs.Elimination.{Eliminated, matrix_elimination}
use Rattle.layout_rules.specs.declared.Operation.{Operation}
use Rattle.layout_rules.specs.declared.Output.{Output}
use Rattle.layout_rules.specs.Matrix.{matrix_refusal, matrix, rows, columns}
use Rattle.layout_rules.specs.Records.{Netlist, netlist_bytes}
use Rattle.board_rules.specs.Machine.{entry_form, output_form, depth}
use Rattle.board_rules.specs.Width.{width}
use Rattle.sum_rules.specs.Joins.{divisor_operation}
use Rattle.sum_rules.specs.Shallowest.{order_of_operands, depths_of, sum_operations, sum_outputs}
use Rattle.compile_rules.specs.declared.CompileAnswer.{CompileAnswer}

-- ---- the netlist of a matrix with n columns

-- the depths of the inputs and of the divisors' operations
abbrev pub divisor_depths : ℕ → Eliminated → List ℕ
divisor_depths n e = depths_of n (map divisor_operation e.divisors)

-- per remaining row its joins
abbrev pub row_operations : ℕ → Eliminated → List Operation
row_operations n e = sum_operations order_of_operands (divisor_depths n e) e.remaining_rows

-- first one operation per divisor, then those of the remaining rows
unfoldable pub operations_of : ℕ → Eliminated → List Operation
operations_of n e = map divisor_operation e.divisors ++ row_operations n e

unfoldable pub outputs_of : ℕ → Eliminated → List Output
outputs_of n e = sum_outputs order_of_operands (divisor_depths n e) e.remaining_rows

abbrev pub with_width : ℕ → Operation → Operation
with_width w o = record { sign = o.sign; a = o.a; sa = o.sa; b = o.b; sb = o.sb; width = w }

-- the operations from a symbol on, each with its width among all operations, over samples of s bits
unfoldable pub with_widths : ℕ → ℕ → List Operation → ℕ → List Operation → List Operation
with_widths s n all symbol [] = []
with_widths s n all symbol (o ∷ os) = with_width (width s (entry_form n all symbol)) o ∷ with_widths s n all (suc symbol) os

abbrev pub output_with_width : ℕ → ℕ → List Operation → Output → Output
output_with_width s n os o = record { sign = o.sign; symbol = o.symbol; shift = o.shift; width = width s (output_form n os o) }

-- for samples of s bits
unfoldable pub netlist_of : ℕ → ℕ → ℕ → Eliminated → Netlist
unfolding operations_of outputs_of with_widths
netlist_of s m n e =
    let os = operations_of n e in
    record {
      head = record { m = m; n = n; operations = length os; width = s };
      operations = with_widths s n os n os;
      outputs = map (output_with_width s n os) (outputs_of n e);
      totals = record { operations = length os; depth = depth n os };
    }

-- ---- compile's answer

-- "The negated outputs are the output records with sign minus"
unfoldable pub negated_outputs : List Output → ℕ
negated_outputs [] = 0
negated_outputs (o ∷ os) = elim (eqb o.sign 1) [ true ↦ suc (negated_outputs os) | false ↦ negated_outputs os ]

abbrev pub compile_refused : ℕ → ℕ → CompileAnswer
compile_refused r place =
    record { refusal = r; place = place; written = 0; operations = 0; plain = 0; divisors = 0; replacements = 0; depth = 0; negated = 0 }

abbrev pub elimination_of : List ℕ → Eliminated
elimination_of bytes = matrix_elimination positions (columns bytes) (matrix bytes)

-- of the matrix's bytes, for samples of s bits
abbrev pub compiled_netlist : ℕ → List ℕ → Netlist
compiled_netlist s bytes = netlist_of s (rows bytes) (columns bytes) (elimination_of bytes)

abbrev pub compiled_bytes : ℕ → List ℕ → List ℕ
compiled_bytes s bytes = netlist_bytes (compiled_netlist s bytes)

abbrev pub compile_accepted : ℕ → List ℕ → CompileAnswer
compile_accepted s bytes =
    record {
      refusal = 0;
      place = 0;
      written = length (compiled_bytes s bytes);
      operations = (compiled_netlist s bytes).head.operations;
      plain = plain_count (matrix_rows positions (matrix bytes));
      divisors = length (elimination_of bytes).divisors;
      replacements = (elimination_of bytes).replacements;
      depth = (compiled_netlist s bytes).totals.depth;
      negated = negated_outputs (compiled_netlist s bytes).outputs;
    }

-- of what compile is given to read: 20, "the sample width for compile is not 8 to 24", tested first; then 1 to 5
unfoldable pub input_refusal : ℕ → List ℕ → ℕ
input_refusal s bytes = cond (sample_width_outside s) 20 (matrix_refusal bytes)

-- then 6: the output buffer, of so many bytes, is shorter than the netlist
unfoldable pub compile_answer : ℕ → List ℕ → ℕ → CompileAnswer
compile_answer s bytes room =
    elim (input_refusal s bytes) [
      | suc r ↦ compile_refused (suc r) 0
      | zero ↦ elim (ltb room (length (compiled_bytes s bytes))) [ true ↦ compile_refused 6 0 | false ↦ compile_accepted s bytes ]
    ]

-- the buffer afterwards: the netlist's bytes followed by the old bytes, or the old bytes where compile refuses
unfoldable pub compile_buffer : ℕ → List ℕ → List ℕ → List ℕ
compile_buffer s bytes buffer =
    elim (input_refusal s bytes) [
      | suc r ↦ buffer
      | zero ↦
          elim (ltb (length buffer) (length (compiled_bytes s bytes))) [
            | true ↦ buffer
            | false ↦ compiled_bytes s bytes ++ drop (length (compiled_bytes s bytes)) buffer
          ]
    ]
