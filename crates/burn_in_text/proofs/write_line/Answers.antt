-- `burn_in_text::write_line` meets its contract. Assumes nothing.
use Rattle.std.proofs.Common.{◌∙◌, sym, ap, length, arith}
use Rattle.arrays.proofs.FilledLaws.{length-filled}
use Rattle.layout_rules.specs.Matrix.{longest_record}
use Rattle.text.proofs.Wrote.{wrote_as, wrote_more}
use Rattle.burn_in_text.proofs.Texts.{line_of}
use Rattle.burn_in_text.proofs.write_line.Goals as goal

pub returns : goal.returns
returns c =
    let first = c.write_between-at in
    let rest = c.write_outcome in
    record { wrote = wrote_as (line_of c.args.seed _ _ (sym (ap length c.filled-record.ensures ∙ length-filled 0 longest_record)) c.generate.ensures.buffer_after) (wrote_more first.ensures.wrote rest.ensures.wrote); upper_bound = omega (arith, first.ensures.upper_bound, rest.ensures.upper_bound) }
