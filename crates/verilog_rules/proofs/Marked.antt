-- The marked modules hold, by computation.
-- Assumes nothing.
use mathlib.Core.Path.{refl}
use Rattle.text.specs.Decimal.{decimal, number}
use Rattle.text.specs.Text.{lines}
use Rattle.verilog_rules.specs.Meaning.{assigned, wire_signals}
use Rattle.verilog_rules.specs.Standard.{tree_assigned}
use Rattle.verilog_rules.specs.Text.{input_line, output_line, wire_line, operand_text, expression_text, wire_assignment, output_assignment, module_text}
use Rattle.verilog_rules.specs.Marked.{MarkedModules}

pub marked : MarkedModules
unfolding decimal number lines assigned wire_signals tree_assigned input_line output_line wire_line operand_text expression_text wire_assignment output_assignment module_text
marked = record { text = refl; no_rows = refl; highest = refl; lowest = refl; narrow = refl; unsigned = refl; longest = refl }
