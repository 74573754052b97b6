-- `run_text::write_output` meets its contract. Assumes nothing.
use mathlib.Core.Path.{ap}
use native.Mathlib.Omega.{arith}
use Rattle.integers.proofs.Held.{is, held}
use Rattle.text.specs.Text.{ascii}
use Rattle.text.proofs.Wrote.{wrote_copy, wrote_more, wrote_as}
use Rattle.run_text.specs.RunText.{signed_number}
use Rattle.run_text.proofs.write_output.Goals as goal

pub returns : goal.returns
returns c =
    let signed = c.write_signed-at in
    let s = c in
    let copied = c.copy in record {
      wrote = wrote_more (wrote_as (ap signed_number (is (held s.ranges.value))) signed.ensures.wrote) (wrote_copy _ (ascii "\n") _ _ copied.ensures.count copied.ensures.copied);
      upper_bound = omega (arith, signed.ensures.upper_bound, copied.ensures.count);
    }
