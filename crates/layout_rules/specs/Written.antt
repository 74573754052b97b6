-- What a buffer holds after bytes were written at a place.
-- Assumes nothing.
use Rattle.std.specs.Prelude.{ℕ, ◌+◌, List, ◌++◌, length, take, drop}

-- the bytes stand at the place; before and behind them the buffer is as it was
abbrev pub written : List ℕ → ℕ → List ℕ → List ℕ
written buffer place bytes = take place buffer ++ (bytes ++ drop (place + length bytes) buffer)
