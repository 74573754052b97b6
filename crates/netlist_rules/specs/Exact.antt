-- Demand 2: the bytes that are a netlist, and what it means that a netlist computes a matrix. Read and check are held to these.
-- Assumes nothing.
use Rattle.std.specs.Prelude.{ℕ, ◌<◌, ◌≡◌, List, [], map, ℤ, pos, get_or}
use Rattle.limits.specs.Limits.{positions, max_operations, max_width}
use Rattle.layout_rules.specs.declared.Head.{Head}
use Rattle.layout_rules.specs.Matrix.{rows, columns, matrix_refusal, matrix}
use Rattle.layout_rules.specs.Records.{Netlist, netlist_bytes}
use Rattle.board_rules.specs.Machine.{times}
use Rattle.board_rules.specs.Netlist.{Limits, IsNetlist}
use Rattle.board_rules.specs.Width.{Samples}
use Rattle.netlist_rules.specs.Run.{netlist_outputs}

-- ---- a netlist

-- what read takes where samples have s bits: "Shifts are 0 to 15; widths read are at most 44"
abbrev pub read_limits : ℕ → Limits
read_limits s = record { sample = s; positions = positions; widest = max_width; most = max_operations }

-- b is the bytes of the netlist
pub record IsNetlistBytes (b : List ℕ) (net : Netlist) : Type 0 where
  pub netlist : IsNetlist (read_limits net.head.width) net
  pub bytes : b ≡ netlist_bytes net

-- ---- what it computes

-- for every vector of samples of the head's width the board machine's outputs are row times vector
abbrev pub Computes : Netlist → List (List ℤ) → Type 0
Computes net rows = (xs : List ℤ) → Samples net.head.width net.head.n xs → netlist_outputs net xs ≡ map (λ row. times row xs) rows

-- output i is row i times vector for every vector of samples
abbrev pub ComputesRow : Netlist → List (List ℤ) → ℕ → Type 0
ComputesRow net rows i = (xs : List ℤ) → Samples net.head.width net.head.n xs → get_or (netlist_outputs net xs) i (pos 0) ≡ times (get_or rows i []) xs

-- m and n of matrix and netlist agree
pub record SameSize (matrix_bytes : List ℕ) (h : Head) : Type 0 where
  pub same_rows : rows matrix_bytes ≡ h.m
  pub same-columns : columns matrix_bytes ≡ h.n

-- the bytes are those of a netlist that computes the matrix
pub record IsNetlistOf (matrix_bytes netlist_bytes : List ℕ) (net : Netlist) : Type 0 where
  pub within-limits : matrix_refusal matrix_bytes ≡ 0
  pub netlist : IsNetlistBytes netlist_bytes net
  pub size : SameSize matrix_bytes net.head
  pub computes : Computes net (matrix matrix_bytes)

-- the bytes are those of a netlist of the matrix's size, and row is the lowest that it does not compute
pub record LowestRow (matrix_bytes netlist_bytes : List ℕ) (net : Netlist) (row : ℕ) : Type 0 where
  pub within-limits : matrix_refusal matrix_bytes ≡ 0
  pub netlist : IsNetlistBytes netlist_bytes net
  pub size : SameSize matrix_bytes net.head
  pub among : row < net.head.m
  pub below : (i : ℕ) → i < row → ComputesRow net (matrix matrix_bytes) i
  pub differs : ComputesRow net (matrix matrix_bytes) row → ⊥
