-- `run_text::write_outputs` meets its contract. The lines of the outputs before i are written. Assumes nothing.
use Prim.Native.Nat.{ℕ}
use mathlib.Core.Path.{◌≡◌, refl, ap, ◌∙◌}
use mathlib.Core.List.{flat_map}
use native.Mathlib.Omega.{arith}
use native.Mathlib.Numerals.{add-one}
use lib.ListN.{length, take, length-take, length-drop}
use lib.Seq.{take-length}
use mir.Syntax.{w64}
use Rattle.integers.proofs.Held.{is, held}
use Rattle.text.proofs.Wrote.{wrote_nothing, wrote_more, wrote_as}
use Rattle.run_text.specs.RunText.{value_lines}
use Rattle.run_text.proofs.Signed.{next_line}
use Rattle.run_text.proofs.write_outputs.Goals as goal

pub loop-output-init : goal.loop-output-init
unfolding flat_map
loop-output-init c = (wrote_nothing _, (omega arith, refl))

pub write_output-at-requires : goal.write_output-at-requires
write_output-at-requires c = simp (length-take, length-drop) (omega arith)

pub loop-output-preserved : goal.loop-output-preserved
loop-output-preserved c =
    let l = c.loop-output in
    let w = c.write_output-at.ensures in
    rw add-one (
      wrote_as (next_line c.args.outputs.now l.output-index _ (omega arith) (is (held {w = w64} (record { sfits = c.output-1.given })))) (wrote_more l.invariant.0 w.wrote),
      (omega (arith, w.upper_bound), omega arith),
    )

pub returns : goal.returns
returns c =
    let l = c.loop-output in
    let outputs = c.args.outputs.now in
    let all : l.output-index ≡ length outputs = omega arith in
    record { wrote = wrote_as (ap (λ (k : ℕ). value_lines (take k outputs)) all ∙ ap value_lines (take-length outputs)) l.invariant.0; upper_bound = omega arith }
