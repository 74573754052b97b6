-- `verilog_lines::write_operand` meets its contract. Assumes nothing.
use Rattle.text.specs.Text.{ascii}
use Rattle.text.proofs.Wrote.{wrote_as, wrote_copy, wrote_more}
use Rattle.verilog_lines.proofs.Parts.{operand_parts}
use Rattle.verilog_lines.proofs.write_operand.Goals as goal

pub returns-clause-wrote : goal.returns-clause-wrote
returns-clause-wrote c =
    wrote_as (operand_parts c.args.inputs c.args.symbol c.args.shift)
    (wrote_more c.write_unclosed_operand-at.ensures.wrote (wrote_copy _ (ascii ")") _ _ c.copy.ensures.count c.copy.ensures.copied))
