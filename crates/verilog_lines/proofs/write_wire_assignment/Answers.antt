-- `verilog_lines::write_wire_assignment` meets its contract. Assumes nothing.
use Rattle.text.specs.Text.{ascii}
use Rattle.text.proofs.Wrote.{wrote_as, wrote_copy, wrote_more}
use Rattle.verilog_rules.specs.Module.{wire_of}
use Rattle.verilog_lines.proofs.Parts.{wire_assignment_parts}
use Rattle.verilog_lines.proofs.write_wire_assignment.Goals as goal

pub returns-clause-wrote : goal.returns-clause-wrote
returns-clause-wrote c =
    wrote_as (wire_assignment_parts c.args.inputs c.args.symbol (wire_of c.args.operation))
    (wrote_more (wrote_more (wrote_more c.write_labelled-equals.ensures.wrote (wrote_copy _ (ascii " = ") _ _ c.copy.ensures.count c.copy.ensures.copied)) c.write_operation_expression.ensures.wrote)
    (wrote_copy _ (ascii ";\n") _ _ c.copy-2.ensures.count c.copy-2.ensures.copied))
