-- Document 01, "Generated banks": the state after so many coefficients, as one sum.
-- Assumes nothing.
use Rattle.std.specs.Prelude.{ℕ, ◌+◌, ◌*◌, ◌%◌, ◌^◌}
use Rattle.generator.specs.Generator.{growth}

abbrev pub state_after : ℕ → ℕ → ℕ
state_after seed k = (seed + k * growth) % 2 ^ 32
