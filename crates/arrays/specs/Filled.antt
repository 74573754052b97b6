-- A list of one value in every place.
-- Assumes nothing.
use Rattle.std.specs.Prelude.{ℕ, List, replicate}

-- k places that all hold x
unfoldable pub filled : {A : Type 0} → ℕ → A → List A
filled k x = replicate k x
