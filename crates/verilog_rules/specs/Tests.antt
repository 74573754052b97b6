-- Document 01, "Why a record was declined": the tests of write_verilog in their order, as netlist_rules has those of read and run.
-- Assumes nothing.
use Rattle.std.specs.Prelude.{ℕ, ◌≤◌, List, [], ◌∷◌, ◌++◌, length}
use Rattle.layout_rules.specs.Places.{netlist_in}
use Rattle.layout_rules.specs.Tests.{Test, tested}
use Rattle.netlist_rules.specs.Tests.{read_tests}
use Rattle.verilog_rules.specs.Answer.{netlist_text}

-- 7 to 12; 6: the buffer is shorter than the text
unfoldable pub verilog_tests : List ℕ → ℕ → List Test
verilog_tests bytes lent = read_tests bytes ++ (tested 6 0 (length (netlist_text (netlist_in bytes)) ≤ lent) ∷ [])
