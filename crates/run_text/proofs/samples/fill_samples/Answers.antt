-- `run_text::samples::fill_samples` meets its contract. The samples before i are there. Assumes nothing.
use mathlib.Core.Path.{◌≡◌, refl, sym, ap, ◌∙◌}
use native.Mathlib.Omega.{arith}
use native.Mathlib.Numerals.{add-one}
use lib.ListN.{length, length-set}
use lib.Seq.{take_all}
use mir.Syntax.{w32}
use Rattle.integers.proofs.Held.{call_result}
use Rattle.layout_rules.specs.Bytes.{signed_of}
use Rattle.layout_rules.specs.Places.{first_records}
use Rattle.run_text.specs.Samples.{first_samples}
use Rattle.run_text.proofs.SampleBytes.{next_sample}
use Rattle.run_text.proofs.samples.fill_samples.Goals as goal

pub loop-i-init : goal.loop-i-init
unfolding first_records
loop-i-init c = (refl, refl)

pub loop-i-preserved : goal.loop-i-preserved
loop-i-preserved c =
    let l = c.loop-i in
    let z = call_result w32 c.signed_double_word.type_inv (c.signed_double_word.ensures ∙ ap (signed_of 32) c.double_word_at.ensures) in
    rw add-one (length-set l.samples l.i _ ∙ l.invariant.0, next_sample c.args.bytes.now l.samples l.i _ (omega (arith, l.invariant.0)) z l.invariant.1)

pub returns : goal.returns
returns c =
    let l = c.loop-i in
    let e : l.i ≡ length c.args.samples.now = omega arith in
    sym (take_all l.i l.samples (omega (arith, l.invariant.0))) ∙ l.invariant.1 ∙ ap (first_samples c.args.bytes.now) e
