-- `compile_output::write_compiled` meets its contract. Assumes nothing.
use Rattle.layout_rules.specs.Places.{enough_bytes}
use Rattle.text.proofs.Wrote.{wrote_none, wrote_whole}
use Rattle.compile_output.proofs.write_compiled.Goals as goal

pub returns-then-output-lt-ENOUGH_BYTES : goal.returns-then-output-lt-ENOUGH_BYTES
returns-then-output-lt-ENOUGH_BYTES c =
    let both = wrote_none enough_bytes _ _ c.if-output-lt-ENOUGH_BYTES.true in
    record { wrote = both.0; prefix_length = both.1 }

pub returns : goal.returns
returns c =
    let both = wrote_whole enough_bytes c.if-output-lt-ENOUGH_BYTES.false c.write_output.ensures in
    record { wrote = both.0; prefix_length = both.1 }
