-- What is asked where a netlist's records are written, so that nothing wraps, and the widths of outputs as a table of coefficients
-- gives them.
-- Assumes nothing.
use Rattle.std.specs.Prelude.{ℕ, ◌+◌, ◌≤◌, ◌<◌, List, map, ℤ, length, get_or}
use Rattle.limits.specs.Limits.{max_columns, max_operations, max_shift, max_symbols}
use Rattle.layout_rules.specs.declared.Operation.{Operation}
use Rattle.layout_rules.specs.declared.Output.{Output}
use Rattle.layout_rules.specs.Records.{Netlist}
use Rattle.board_rules.specs.Machine.{entry_form, depth}
use Rattle.board_rules.specs.Width.{width}
use Rattle.board_rules.specs.Table.{output_row, SmallRange}
use Rattle.board_rules.specs.Netlist.{Limits, OperationLimits, OutputOperand}
use Rattle.compile_rules.specs.Compile.{with_widths, output_with_width}
use Rattle.compile_lists.specs.Lists.{no_operation, no_output}

-- operations over n inputs within limits, before their widths are recorded
pub record Writable (l : Limits) (n : ℕ) (os : List Operation) : Type 0 where
  pub inputs : n ≤ max_columns
  pub few : length os ≤ l.most
  pub operation : (k : ℕ) → k < length os → OperationLimits l (n + k) (get_or os k no_operation)
  pub narrow : (symbol : ℕ) → symbol < n + length os → width l.sample (entry_form n os symbol) ≤ l.widest

-- operations over n inputs, each of earlier entries
pub record EarlierOperations (n : ℕ) (os : List Operation) : Type 0 where
  pub inputs : n ≤ max_columns
  pub few : length os ≤ max_operations
  pub first_earlier : (k : ℕ) → k < length os → (get_or os k no_operation).a < n + k
  pub second_earlier : (k : ℕ) → k < length os → (get_or os k no_operation).b < n + k

-- outputs of entries, within limits
abbrev pub EarlierOutputs : Limits → ℕ → List Operation → List Output → Type 0
EarlierOutputs l n os outputs = (i : ℕ) → i < length outputs → OutputOperand l (n + length os) (get_or outputs i no_output)

-- outputs whose coefficients are worked out from a table, over samples of s bits
pub record WritableOutputs (s : ℕ) (table : List ℤ) (n : ℕ) (os : List Output) : Type 0 where
  pub inputs : n ≤ max_columns
  pub symbol : (i : ℕ) → i < length os → (get_or os i no_output).symbol < max_symbols
  pub shift : (i : ℕ) → i < length os → (get_or os i no_output).shift ≤ max_shift
  pub range : (i : ℕ) → i < length os → SmallRange s (output_row table n (get_or os i no_output))

-- an output with the width of its coefficients in a table, over samples of s bits
abbrev pub with_table_width : ℕ → ℕ → List ℤ → Output → Output
with_table_width s n table o = record { sign = o.sign; symbol = o.symbol; shift = o.shift; width = width s (output_row table n o) }

-- a netlist of m rows and n columns with the widths of its operations and outputs, over samples of s bits, and its depth
abbrev pub recorded_netlist : ℕ → ℕ → ℕ → List Operation → List Output → Netlist
recorded_netlist s m n os outputs =
    record {
      head = record { m = m; n = n; operations = length os; width = s };
      operations = with_widths s n os n os;
      outputs = map (output_with_width s n os) outputs;
      totals = record { operations = length os; depth = depth n os };
    }
