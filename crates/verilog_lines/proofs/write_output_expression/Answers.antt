-- `verilog_lines::write_output_expression` meets its contract. Assumes nothing.
use Rattle.std.proofs.Common.{rules}
use Rattle.text.specs.Text.{ascii}
use Rattle.text.proofs.Wrote.{wrote_as, wrote_copy, wrote_more}
use Rattle.verilog_lines.proofs.Parts.{output_plus, output-minus, output-zero}
use Rattle.verilog_lines.proofs.write_output_expression.Goals as goal

pub returns-in-0-clause-wrote : goal.returns-in-0-clause-wrote
returns-in-0-clause-wrote c = wrote_as (output_plus c.args.inputs c.args.output c.in-0.is) c.write_operand.ensures.wrote

pub returns-in-1-clause-wrote : goal.returns-in-1-clause-wrote
returns-in-1-clause-wrote c =
    wrote_as (output-minus c.args.inputs c.args.output c.in-1.is)
    (wrote_more (wrote_copy _ (ascii "-") _ _ c.copy-at.ensures.count c.copy-at.ensures.copied) c.write_operand-in-1.ensures.wrote)

pub returns-in_default-clause-wrote : goal.returns-in_default-clause-wrote
returns-in_default-clause-wrote c =
    wrote_as (output-zero c.args.inputs c.args.output (search rules) (search rules)) (wrote_copy _ (ascii "1'sb0") _ _ c.copy.ensures.count c.copy.ensures.copied)
