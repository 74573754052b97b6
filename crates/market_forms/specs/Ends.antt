-- A line that is a number to its end: how code tests the form of a size line and of an entry.
-- Assumes nothing.
use Rattle.std.specs.Prelude.{ℕ, Bool, ◌&&◌, List, [], ◌∷◌, ◌++◌}
use Rattle.market_rules.specs.Lines.{line_feed}
use Rattle.market_rules.specs.Forms.{same, leading_digits, nonempty}

-- digits, some of them, and behind them the line's last byte, its line feed
abbrev pub is_number : List ℕ → Bool
is_number bytes = nonempty (leading_digits bytes) && same bytes (leading_digits bytes ++ (line_feed ∷ []))
