-- `verilog::write_inputs` meets its contract. Assumes nothing.
use Rattle.std.proofs.Common.{rules}
use lib.ListN.{replicate, length-replicate, get_or-replicate}
use Rattle.text.proofs.Numbered.{lines_listed}
use Rattle.text.proofs.Wrote.{wrote_as}
use Rattle.verilog_rules.specs.Text.{input_line}
use Rattle.verilog.proofs.write_inputs.Goals as goal

pub returns-clause-wrote : goal.returns-clause-wrote
returns-clause-wrote c =
    let a = c.args in
    wrote_as (lines_listed (input_line a.ports) 0 (replicate a.inputs a.width) (λ k. a.width) a.inputs (length-replicate a.inputs a.width) (λ k d h. get_or-replicate a.inputs k a.width d h))
    (c.write_lines.ensures.wrote _ (λ k before after written h w. search rules))
