-- `clock_text::write_separated` meets its contract. Assumes nothing.
use mathlib.Core.Path.{sym, ap}
use mathlib.Core.List.{◌++◌}
use native.Mathlib.Omega.{arith}
use Rattle.integers.proofs.Held.{is, held}
use Rattle.text.specs.Text.{ascii}
use Rattle.text.proofs.Wrote.{wrote_copy, wrote_more, wrote_as}
use Rattle.run_text.specs.RunText.{signed_number}
use Rattle.clock_text.specs.Lines.{separator}
use Rattle.clock_text.proofs.write_separated.Goals as goal

pub returns-then-more : goal.returns-then-more
returns-then-more c =
    let branch = c in
    let signed = branch.write_signed-at in
    let s = branch in
    let copied = c.copy in
    let behind = ap separator (sym branch.if-more.true) in record {
      wrote = wrote_as (ap (λ l. signed_number s.args.value ++ l) behind)
          (wrote_more (wrote_as (ap signed_number (is (held s.ranges.value))) signed.ensures.wrote) (wrote_copy _ (ascii " ") _ _ copied.ensures.count copied.ensures.copied));
      upper_bound = omega (arith, signed.ensures.upper_bound, copied.ensures.count);
    }

pub returns : goal.returns
returns c =
    let branch = c in
    let signed = branch.write_signed-at in
    let s = branch in
    let copied = c.copy-2 in
    let behind = ap separator (sym branch.if-more.false) in record {
      wrote = wrote_as (ap (λ l. signed_number s.args.value ++ l) behind)
          (wrote_more (wrote_as (ap signed_number (is (held s.ranges.value))) signed.ensures.wrote) (wrote_copy _ (ascii "\n") _ _ copied.ensures.count copied.ensures.copied));
      upper_bound = omega (arith, signed.ensures.upper_bound, copied.ensures.count);
    }
