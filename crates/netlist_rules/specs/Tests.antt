-- Document 01, "Why a record was declined": the tests of read, check and run in their order, each with the number and the place that
-- are returned where it is the first that fails. Nothing here computes an answer; read, check and run are held to these lists. The tests
-- of a matrix's bytes, 1 to 5, are those of `layout_rules`.
-- Assumes nothing.
use Rattle.std.specs.Prelude.{ℕ, ◌+◌, ◌≤◌, ◌≡◌, ◌⊎◌, List, [], ◌∷◌, ◌++◌, ℤ, pos, length, get_or}
use Rattle.limits.specs.Limits.{unstated_width}
use Rattle.layout_rules.specs.declared.Head.{Head}
use Rattle.layout_rules.specs.declared.Operation.{Operation}
use Rattle.layout_rules.specs.Bytes.{word}
use Rattle.layout_rules.specs.Matrix.{matrix}
use Rattle.layout_rules.specs.Records.{Netlist, head_kind, head_length, width_head_kind, width_head_length, operation_kind, operation_length, output_kind, output_length, totals_kind, totals_length}
use Rattle.layout_rules.specs.Places.{operation_place, output_place, head_length_in, head_at, operation_at, output_at, totals_at, first_operations, operations_in, totals_place_in, netlist_in}
use Rattle.layout_rules.specs.Step.{remaining}
use Rattle.layout_rules.specs.Tests.{Test, tested, first_tests, matrix_tests}
use Rattle.board_rules.specs.Machine.{machine, operation_value, output_value}
use Rattle.board_rules.specs.Netlist.{HeadLimits, OperationLimits, OutputLimits, WidthRight, TotalsRight}
use Rattle.board_rules.specs.Width.{Within}
use Rattle.netlist_rules.specs.Exact.{read_limits, SameSize, ComputesRow}

-- ---- read: 7 to 12 record by record

-- 7: under 4 bytes remain, or the length exceeds what remains
pub record Whole (bytes : List ℕ) (place : ℕ) : Type 0 where
  pub header : 4 ≤ remaining bytes place
  pub within : word bytes place ≤ remaining bytes place

-- 8: kind or length not the expected one
pub record Expected (bytes : List ℕ) (place kind size : ℕ) : Type 0 where
  pub its_kind : word bytes (place + 2) ≡ kind
  pub its_length : word bytes place ≡ size

abbrev pub record_tests : List ℕ → ℕ → ℕ → ℕ → List Test
record_tests bytes place kind size = tested 7 place (Whole bytes place) ∷ tested 8 place (Expected bytes place kind size) ∷ []

-- 9: a field out of range, or 16 where the width is stated
pub record HeadRight (bytes : List ℕ) : Type 0 where
  pub limits : HeadLimits (read_limits (head_at bytes).width) (head_at bytes)
  pub stated : word bytes 2 ≡ width_head_kind → (head_at bytes).width ≡ unstated_width → ⊥

-- 8: the head is of kind 2 and length 8, or of kind 6 and length 9
abbrev pub head_tests : List ℕ → List Test
head_tests bytes =
    tested 7 0 (Whole bytes 0)
    ∷ tested 8 0 (Expected bytes 0 head_kind head_length ⊎ Expected bytes 0 width_head_kind width_head_length)
    ∷ tested 9 0 (HeadRight bytes)
    ∷ []

-- operation k, behind the k operations before it; samples have s bits
abbrev pub operation_tests : List ℕ → ℕ → ℕ → ℕ → List Test
operation_tests bytes s n k =
    let place = operation_place (head_length_in bytes) k in
    let o = operation_at bytes k in
    let before = first_operations bytes k in
    record_tests bytes place operation_kind operation_length
    ++ (tested 9 place (OperationLimits (read_limits s) (n + k) o)
    ∷ tested 10 place (WidthRight (read_limits s) n (λ xs. operation_value (machine xs before) o) o.width)
    ∷ [])

-- output i of a netlist of the operations os
abbrev pub output_tests : List ℕ → ℕ → ℕ → List Operation → ℕ → List Test
output_tests bytes s n os i =
    let place = output_place (head_length_in bytes) (length os) i in
    let o = output_at bytes (length os) i in
    record_tests bytes place output_kind output_length
    ++ (tested 9 place (OutputLimits (read_limits s) (n + length os) o)
    ∷ tested 10 place (WidthRight (read_limits s) n (λ xs. output_value (machine xs os) o) o.width)
    ∷ [])

-- 11: totals differ from the head's count or the depth; 12, place after totals: bytes left over
abbrev pub totals_tests : List ℕ → ℕ → Head → List Operation → List Test
totals_tests bytes place h os =
    record_tests bytes place totals_kind totals_length
    ++ (tested 11 place (TotalsRight h os (totals_at bytes place)) ∷ tested 12 (place + totals_length) (length bytes ≤ place + totals_length) ∷ [])

unfoldable pub read_tests : List ℕ → List Test
read_tests bytes =
    let h = head_at bytes in
    let os = operations_in bytes in
    head_tests bytes
    ++ (first_tests (operation_tests bytes h.width h.n) h.operations
    ++ (first_tests (output_tests bytes h.width h.n os) h.m
    ++ totals_tests bytes (totals_place_in bytes) h os))

-- ---- check: 1 to 5, 7 to 12, 13, 14

-- 14, place = row: its coefficients differ, that is, output i is not row i times vector for every vector of samples
abbrev pub row_tests : Netlist → List (List ℤ) → ℕ → List Test
row_tests net rows i = tested 14 i (ComputesRow net rows i) ∷ []

-- 13: m or n of matrix and netlist differ
unfoldable pub check_tests : List ℕ → List ℕ → List Test
check_tests matrix_bytes netlist_bytes =
    let net = netlist_in netlist_bytes in
    matrix_tests matrix_bytes
    ++ (read_tests netlist_bytes
    ++ (tested 13 0 (SameSize matrix_bytes net.head) ∷ first_tests (row_tests net (matrix matrix_bytes)) net.head.m))

-- ---- run: 7 to 12, 15, 16, 21

-- 21, place = index: the sample doesn't fit the width s
abbrev pub sample_tests : ℕ → List ℤ → ℕ → List Test
sample_tests s samples i = tested 21 i (Within s (get_or samples i (pos 0))) ∷ []

-- 15: samples are not n; 16: outputs lent are not m; 21 of each of the n samples
unfoldable pub run_tests : List ℕ → List ℤ → ℕ → List Test
run_tests bytes samples outputs =
    let h = head_at bytes in
    read_tests bytes
    ++ (tested 15 0 (length samples ≡ h.n) ∷ tested 16 0 (outputs ≡ h.m) ∷ first_tests (sample_tests h.width samples) h.n)
