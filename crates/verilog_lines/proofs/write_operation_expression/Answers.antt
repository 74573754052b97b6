-- `verilog_lines::write_operation_expression` meets its contract. Assumes nothing.
use Rattle.text.proofs.Wrote.{wrote_as, wrote_more}
use Rattle.verilog_lines.proofs.Parts.{operation_parts}
use Rattle.verilog_lines.proofs.write_operation_expression.Goals as goal

pub returns-clause-wrote : goal.returns-clause-wrote
returns-clause-wrote c =
    wrote_as (operation_parts c.args.inputs c.args.operation)
    (wrote_more (wrote_more c.write_operand-sign.ensures.wrote c.write_sign.ensures.wrote) c.write_operand.ensures.wrote)
