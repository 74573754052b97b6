-- Running a netlist: what the table of board values holds.
-- Assumes nothing.
use Rattle.std.specs.Prelude.{ℕ, ◌+◌, ◌≤◌, ◌<◌, ◌≡◌, List, ℤ, length, take}
use Rattle.limits.specs.Limits.{max_shift, max_symbols}
use Rattle.layout_rules.specs.Places.{head_at}
use Rattle.board_rules.specs.Machine.{entry_at}
use Rattle.board_rules.specs.Table.{Small}

-- the table begins with the samples
pub record SamplesHeld (samples values : List ℤ) : Type 0 where
  pub room : length values ≡ max_symbols
  pub held : take (length samples) values ≡ samples

-- board values by symbol, so small that no output wraps
pub record BoardReady (bytes : List ℕ) (values : List ℤ) : Type 0 where
  pub room : length values ≡ max_symbols
  pub small : (symbol shift : ℕ) → symbol < (head_at bytes).n + (head_at bytes).operations → shift ≤ max_shift → Small (entry_at values symbol) shift
