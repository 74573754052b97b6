-- Reading a netlist: what the tables lent to its parts hold, and what it means that read accepts bytes.
-- Assumes nothing.
use Rattle.std.specs.Prelude.{ℕ, ◌+◌, ◌≤◌, ◌<◌, ◌≡◌, List, ℤ}
use Rattle.limits.specs.Limits.{max_width}
use Rattle.layout_rules.specs.Places.{head_at, first_operations, operations_in, outputs_in, totals_place_in, netlist_in}
use Rattle.board_rules.specs.Machine.{entry_form}
use Rattle.board_rules.specs.Width.{width}
use Rattle.board_rules.specs.Table.{HoldsForms, HoldsDepths}
use Rattle.netlist_rules.specs.Read.{accepted, head_refusal, totals_refusal, read_operations, read_outputs, read_netlist}

-- the coefficients of every entry after the first k operations, none of which is wider than the widest over samples of s bits
pub record FormsHeld (bytes : List ℕ) (s n k : ℕ) (forms : List ℤ) : Type 0 where
  pub coefficients : HoldsForms n (first_operations bytes k) forms
  pub narrow : (symbol : ℕ) → symbol < n + k → width s (entry_form n (first_operations bytes k) symbol) ≤ max_width

-- the depths of these entries
abbrev pub DepthsHeld : List ℕ → ℕ → ℕ → List ℕ → Type 0
DepthsHeld bytes n k table = HoldsDepths n (first_operations bytes k) table

-- the netlist in the bytes is accepted, record by record, and no entry is wider than the widest
pub record NetlistRead (bytes : List ℕ) : Type 0 where
  pub head-due : head_refusal bytes ≡ 0
  pub operations-read : read_operations bytes (head_at bytes) ≡ accepted (operations_in bytes)
  pub outputs-read : read_outputs bytes (head_at bytes) (operations_in bytes) ≡ accepted (outputs_in bytes)
  pub totals-due : totals_refusal bytes (totals_place_in bytes) (head_at bytes) (operations_in bytes) ≡ 0
  pub netlist-read : read_netlist bytes ≡ accepted (netlist_in bytes)
  pub narrow : (symbol : ℕ) → symbol < (head_at bytes).n + (head_at bytes).operations
      → width (head_at bytes).width (entry_form (head_at bytes).n (operations_in bytes) symbol) ≤ max_width

-- and the table holds the coefficients of its entries
pub record NetlistHeld (bytes : List ℕ) (forms : List ℤ) : Type 0 where
  pub read : NetlistRead bytes
  pub forms-held : FormsHeld bytes (head_at bytes).width (head_at bytes).n (head_at bytes).operations forms
