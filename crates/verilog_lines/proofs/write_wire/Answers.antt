-- `verilog_lines::write_wire` meets its contract. Assumes nothing.
use Rattle.text.specs.Text.{ascii}
use Rattle.text.proofs.Wrote.{wrote_as, wrote_copy, wrote_more}
use Rattle.verilog_rules.specs.Module.{wire_of}
use Rattle.verilog_lines.proofs.Parts.{wire_parts}
use Rattle.verilog_lines.proofs.write_wire.Goals as goal

pub returns-clause-wrote : goal.returns-clause-wrote
returns-clause-wrote c =
    wrote_as (wire_parts c.args.symbol _ (wire_of c.args.operation) c.top_bit-top.ensures)
    (wrote_more c.write_pair-at.ensures.wrote (wrote_copy _ (ascii ";\n") _ _ c.copy.ensures.count c.copy.ensures.copied))
