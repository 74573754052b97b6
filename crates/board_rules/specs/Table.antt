-- Document 01, "Netlist and board machine": what an operation and an output make of earlier entries, on tables that a caller lends:
-- the coefficients of every entry, and the values or the depths of all entries by symbol.
-- Assumes nothing.
use Rattle.std.specs.Prelude.{ℕ, zero, suc, ◌+◌, ◌*◌, ◌-◌, ◌^◌, ◌<◌, ◌≡◌, List, [], ◌∷◌, ℤ, pos, nat_abs, length, get_or, set, take, replicate}
use Rattle.std.proofs.lemmas.List.Edits.{sets}
unfoldable pub use Rattle.arrays.specs.Filled.{filled}
use Rattle.limits.specs.Limits.{max_columns, max_symbols}
use Rattle.layout_rules.specs.declared.Operation.{Operation}
use Rattle.layout_rules.specs.declared.Output.{Output}
use Rattle.board_rules.specs.Machine.{entry_at, shifted, joined, with_sign, operation_value, machine, depths, unit}
use Rattle.board_rules.specs.Width.{positives, negatives}

-- ---- the coefficients: those of a symbol stand in a row of its own, which has a place for every column

abbrev pub forms_length : ℕ
forms_length = max_symbols * max_columns

abbrev pub table_coefficient : List ℤ → ℕ → ℕ → ℤ
table_coefficient table symbol column = get_or table (symbol * max_columns + column) (pos 0)

-- f of each of k columns, from column j on
unfoldable pub each_column_from : ℕ → ℕ → (ℕ → ℤ) → List ℤ
each_column_from j zero f = []
each_column_from j (suc k) f = f j ∷ each_column_from (suc j) k f

abbrev pub each_column : ℕ → (ℕ → ℤ) → List ℤ
each_column n f = each_column_from 0 n f

abbrev pub row : List ℤ → ℕ → ℕ → List ℤ
row table n symbol = each_column n (table_coefficient table symbol)

abbrev pub operation_coefficient : List ℤ → Operation → ℕ → ℤ
operation_coefficient table o j =
    joined o.sign (shifted (table_coefficient table o.a j) o.sa) (shifted (table_coefficient table o.b j) o.sb)

abbrev pub operation_row : List ℤ → ℕ → Operation → List ℤ
operation_row table n o = each_column n (operation_coefficient table o)

abbrev pub output_row : List ℤ → ℕ → Output → List ℤ
output_row table n o = each_column n (λ j. with_sign o.sign (shifted (table_coefficient table o.symbol j) o.shift))

-- the operation's coefficients written into the row of its symbol
abbrev pub form_appended : List ℤ → ℕ → Operation → ℕ → List ℤ
form_appended table n o symbol = sets table (symbol * max_columns) (operation_row table n o)

-- the coefficients of k samples, from symbol i on, which are unit vectors, written into their rows
unfoldable pub unit_rows_from : ℕ → ℕ → ℕ → List ℤ → List ℤ
unfolding unit
unit_rows_from n i zero table = table
unit_rows_from n i (suc k) table = unit_rows_from n (suc i) k (sets table (i * max_columns) (unit n i))

abbrev pub forms_started : List ℤ → ℕ → List ℤ
forms_started table n = unit_rows_from n 0 n table

-- the table holds the coefficients of the entries after the operations os: those of column j are the values on the unit vector of j
pub record HoldsForms (n : ℕ) (os : List Operation) (table : List ℤ) : Type 0 where
  pub room : length table ≡ forms_length
  pub forms : (symbol j : ℕ) → symbol < n + length os → j < n → table_coefficient table symbol j ≡ entry_at (machine (unit n j) os) symbol

-- ---- values and depths: that of a symbol stands at the symbol

abbrev pub value_appended : List ℤ → Operation → ℕ → List ℤ
value_appended values o symbol = set values symbol (operation_value values o)

-- the table holds the depths of the entries after the operations os
pub record HoldsDepths (n : ℕ) (os : List Operation) (table : List ℕ) : Type 0 where
  pub room : length table ≡ max_symbols
  pub held : take (n + length os) table ≡ depths (replicate n 0) os

-- ---- what 64 bits hold

-- z shifted by s is so small that the sum of two such numbers does not wrap
pub record Small (z : ℤ) (s : ℕ) : Type 0 where
  pub shift : s < 64
  pub size : nat_abs (shifted z s) < 2 ^ 62

-- all coefficients of an operation's operands are
pub record SmallForms (table : List ℤ) (n : ℕ) (o : Operation) : Type 0 where
  pub first : (j : ℕ) → j < n → Small (table_coefficient table o.a j) o.sa
  pub second : (j : ℕ) → j < n → Small (table_coefficient table o.b j) o.sb

-- both ends of the range over samples of s bits are so small that nothing wraps where the width is worked out
pub record SmallRange (s : ℕ) (cs : List ℤ) : Type 0 where
  pub spread : 2 ^ (s - 1) * (positives cs + negatives cs) < 2 ^ 62
