-- Document 01, "Reading, checking, running" and "Why a record was declined": checking a netlist against a matrix.
-- Assumes nothing.
use Rattle.std.specs.Prelude.{ℕ, zero, suc, Bool, true, false, ◌&&◌, List, [], ◌∷◌, eqb, ℤ, pos, negsuc}
use Rattle.layout_rules.specs.declared.Operation.{Operation}
use Rattle.layout_rules.specs.declared.Output.{Output}
use Rattle.layout_rules.specs.Matrix.{matrix_refusal, matrix, rows, columns}
use Rattle.layout_rules.specs.Records.{Netlist}
use Rattle.board_rules.specs.Machine.{output_form}
use Rattle.netlist_rules.specs.Read.{refused, accepted, read_netlist}
use Rattle.netlist_rules.specs.declared.CheckAnswer.{CheckAnswer}

abbrev pub checked : ℕ → ℕ → CheckAnswer
checked r place = record { refusal = r; place = place }

abbrev pub same_integer : ℤ → ℤ → Bool
same_integer (pos a) (pos b) = eqb a b
same_integer (pos a) (negsuc b) = false
same_integer (negsuc a) (pos b) = false
same_integer (negsuc a) (negsuc b) = eqb a b

unfoldable pub same_row : List ℤ → List ℤ → Bool
same_row [] [] = true
same_row [] (d ∷ ds) = false
same_row (c ∷ cs) [] = false
same_row (c ∷ cs) (d ∷ ds) = same_integer c d && same_row cs ds

-- 14: the lowest row, counted from i, whose coefficients differ
unfoldable pub rows_answer : ℕ → List Operation → ℕ → List Output → List (List ℤ) → CheckAnswer
rows_answer n os i [] rs = checked 0 0
rows_answer n os i (o ∷ outputs) [] = checked 0 0
rows_answer n os i (o ∷ outputs) (r ∷ rs) =
    elim (same_row (output_form n os o) r) [ true ↦ rows_answer n os (suc i) outputs rs | false ↦ checked 14 i ]

-- 13: m or n of matrix and netlist differ
unfoldable pub match_answer : List ℕ → Netlist → CheckAnswer
match_answer matrix_bytes net =
    elim (eqb (rows matrix_bytes) net.head.m && eqb (columns matrix_bytes) net.head.n) [
      | false ↦ checked 13 0
      | true ↦ rows_answer net.head.n net.operations 0 net.outputs (matrix matrix_bytes)
    ]

-- 1 to 5, 7 to 12, 13, 14
unfoldable pub check_answer : List ℕ → List ℕ → CheckAnswer
check_answer matrix_bytes netlist_bytes =
    elim (matrix_refusal matrix_bytes) [
      | suc r ↦ checked (suc r) 0
      | zero ↦ elim (read_netlist netlist_bytes) [ refused r place ↦ checked r place | accepted net ↦ match_answer matrix_bytes net ]
    ]
