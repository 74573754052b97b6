-- Document 01, "Why a record was declined": the tests of generate in their order, each with the number and the place that are returned
-- where it is the first that fails. Nothing here computes an answer; generate is held to this list.
-- Assumes nothing.
use Rattle.std.specs.Prelude.{ℕ, ◌≤◌, List, [], ◌∷◌, length}
use Rattle.limits.specs.Size.{SizeLimits}
use Rattle.layout_rules.specs.Tests.{Test, tested}
use Rattle.generator.specs.Generator.{generated_record}

-- 4: m or n outside 1 to 8; 6: the output buffer, of so many bytes, is shorter than the record
unfoldable pub generate_tests : ℕ → ℕ → ℕ → ℕ → List Test
generate_tests m n seed room = tested 4 0 (SizeLimits m n) ∷ tested 6 0 (length (generated_record m n seed) ≤ room) ∷ []
