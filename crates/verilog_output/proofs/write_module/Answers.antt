-- `verilog_output::write_module` meets its contract. Assumes nothing.
use Rattle.verilog_rules.specs.Answer.{enough_text}
use Rattle.text.proofs.Wrote.{wrote_none, wrote_whole}
use Rattle.verilog_output.proofs.write_module.Goals as goal

pub returns-then-output-lt-ENOUGH_TEXT : goal.returns-then-output-lt-ENOUGH_TEXT
returns-then-output-lt-ENOUGH_TEXT c =
    let both = wrote_none enough_text _ _ c.if-output-lt-ENOUGH_TEXT.true in
    record { wrote = both.0; prefix_length = both.1 }

pub returns : goal.returns
returns c =
    let both = wrote_whole enough_text c.if-output-lt-ENOUGH_TEXT.false c.write_output.ensures in
    record { wrote = both.0; prefix_length = both.1 }
