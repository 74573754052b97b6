-- Document 01, "Why a record was declined": the tests of compile in their order, each with the number and the place that are returned
-- where it is the first that fails. Nothing here computes an answer; compile is held to this list.
-- Assumes nothing.
use Rattle.std.specs.Prelude.{ℕ, ◌≤◌, List, [], ◌∷◌, ◌++◌, length}
use Rattle.limits.specs.Size.{SampleWidth}
use Rattle.layout_rules.specs.Tests.{Test, tested, matrix_tests}
use Rattle.compile_rules.specs.Compile.{compiled_bytes}

-- 20: the sample width for compile is not 8 to 24; 1 to 5, of the matrix's bytes; 6: the output buffer, of so many bytes, is shorter than
-- the netlist
unfoldable pub compile_tests : ℕ → List ℕ → ℕ → List Test
compile_tests s bytes room = tested 20 0 (SampleWidth s) ∷ (matrix_tests bytes ++ (tested 6 0 (length (compiled_bytes s bytes) ≤ room) ∷ []))
