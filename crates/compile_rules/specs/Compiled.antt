-- Document 01, "Netlist and board machine": the limits that every compiled netlist is held to, what every accepted answer is, when
-- two answers agree but for negated outputs and two netlists but for widths, the netlist's bytes before a head could state a width, and
-- that no way of joining the rows' terms gives a smaller depth.
-- Assumes nothing.
use Rattle.std.specs.Prelude.{ℕ, ◌+◌, ◌*◌, ◌≤◌, ◌≡◌, length, get_or, replicate}
use mathlib.Core.List.{List, ◌∷◌, ◌++◌, map, flat_map}
use Rattle.limits.specs.Limits.{positions, unstated_width, max_operations, max_compiled_width}
use Rattle.layout_rules.specs.declared.Operation.{Operation}
use Rattle.layout_rules.specs.declared.Output.{Output}
use Rattle.layout_rules.specs.Bytes.{little_endian, record_bytes}
use Rattle.layout_rules.specs.Matrix.{rows, columns}
use Rattle.layout_rules.specs.Records.{Netlist, head_kind, head_length_of, operation_bytes, output_bytes, totals_bytes}
use Rattle.layout_rules.specs.Places.{netlist_length}
use Rattle.board_rules.specs.Machine.{depth}
use Rattle.board_rules.specs.Netlist.{Limits}
use Rattle.elimination_rules.specs.Elimination.{Eliminated}
use Rattle.sum_rules.specs.Joins.{divisor_operation, zero_output}
use Rattle.sum_rules.specs.Sums.{SummedRows}
use Rattle.sum_rules.specs.SumDepth.{output_depth}
use Rattle.compile_rules.specs.declared.CompileAnswer.{CompileAnswer}
use Rattle.compile_rules.specs.Compile.{operations_of, outputs_of, with_width, with_widths, output_with_width, elimination_of}

-- for samples of s bits: "compiled ones at most 19 more than the sample width"
abbrev pub compiled_limits : ℕ → Limits
compiled_limits s = record { sample = s; positions = positions; widest = max_compiled_width s; most = max_operations }

-- an accepted answer for samples of s bits and a matrix of m rows: operations = plain + divisors − replacements, replacements ≥ 2 times
-- divisors, and sizes
pub record AcceptedAnswer (s m most : ℕ) (a : CompileAnswer) : Type 0 where
  pub refusal : a.refusal ≡ 0
  pub place : a.place ≡ 0
  pub operations : a.operations + a.replacements ≡ a.plain + a.divisors
  pub replacements : 2 * a.divisors ≤ a.replacements
  pub fewer : a.operations + a.divisors ≤ a.plain
  pub plain : a.plain ≤ most
  pub written : a.written ≡ netlist_length (head_length_of s) a.operations m
  pub depth : a.depth ≤ a.operations
  pub negated : a.negated ≤ m

-- two accepted answers agree in all counts but that of negated outputs
pub record SameCost (a b : CompileAnswer) : Type 0 where
  pub plain : a.plain ≡ b.plain
  pub divisors : a.divisors ≡ b.divisors
  pub replacements : a.replacements ≡ b.replacements
  pub operations : a.operations ≡ b.operations
  pub depth : a.depth ≡ b.depth

abbrev pub output_of_width : ℕ → Output → Output
output_of_width w o = record { sign = o.sign; symbol = o.symbol; shift = o.shift; width = w }

-- two netlists agree in all but the head's sample width and the recorded widths
pub record SameButWidths (a b : Netlist) : Type 0 where
  pub rows : a.head.m ≡ b.head.m
  pub columns : a.head.n ≡ b.head.n
  pub count : a.head.operations ≡ b.head.operations
  pub operations : map (with_width 0) a.operations ≡ map (with_width 0) b.operations
  pub outputs : map (output_of_width 0) a.outputs ≡ map (output_of_width 0) b.outputs
  pub totals : a.totals ≡ b.totals

-- the bytes of a matrix's netlist as document 01 had them before a head could state a width: "kind 2, head, length 8", and widths over
-- samples of 16 bits
unfoldable pub bytes_before : List ℕ → List ℕ
bytes_before bytes =
    let n = columns bytes in
    let os = operations_of n (elimination_of bytes) in
    record_bytes head_kind (rows bytes ∷ n ∷ little_endian (length os))
    ++ (flat_map operation_bytes (with_widths unstated_width n os n os)
    ++ (flat_map output_bytes (map (output_with_width unstated_width n os) (outputs_of n (elimination_of bytes)))
    ++ totals_bytes (record { operations = length os; depth = depth n os })))

-- "Of all ways of joining the same terms two at a time, none gives that row a smaller depth": behind the same divisors' operations, the
-- remaining rows joined in any way at all, in whatever order and whichever operand is first, give no row's output, and no netlist, a
-- smaller depth than the one recorded
pub record NoneShallower (n : ℕ) (e : Eliminated) (recorded : Netlist) : Type 0 where
  pub each_row : {os : List Operation} {outputs : List Output} → SummedRows (n + length e.divisors) e.remaining_rows os outputs → (i : ℕ)
      → output_depth (replicate n 0) recorded.operations (get_or recorded.outputs i zero_output)
      ≤ output_depth (replicate n 0) (map divisor_operation e.divisors ++ os) (get_or outputs i zero_output)
  pub netlist : {os : List Operation} {outputs : List Output} → SummedRows (n + length e.divisors) e.remaining_rows os outputs
      → recorded.totals.depth ≤ depth n (map divisor_operation e.divisors ++ os)
