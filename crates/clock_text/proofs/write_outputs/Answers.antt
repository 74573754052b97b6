-- `clock_text::write_outputs` meets its contract. What is written and the outputs left make the line. Assumes nothing.
use mathlib.Core.Path.{refl}
use native.Mathlib.Omega.{arith}
use lib.ListN.{length-take, length-drop}
use mir.Syntax.{w64}
use Rattle.integers.proofs.Held.{is, held}
use Rattle.text.proofs.Wrote.{wrote_as}
use Rattle.text.proofs.Listed.{listed_start, listed_more, listed_end}
use Rattle.clock_text.proofs.Lines.{output_text, get_d_there, text-of-output}
use Rattle.clock_text.proofs.write_outputs.Goals as goal

pub loop-i-init : goal.loop-i-init
loop-i-init c = let a = c.args in (listed_start (output_text a.outputs.now) 0 a.outputs.now a.text.now, (omega arith, (omega arith, refl)))

pub write_separated-at-requires : goal.write_separated-at-requires
write_separated-at-requires c = simp (length-take, length-drop) (omega arith)

pub loop-i-preserved : goal.loop-i-preserved
loop-i-preserved c =
    let w = c in
    let x = w in
    let l = x in
    let a = l.args in
    let outputs = a.outputs.now in
    let z = is (held {w = w64} (record { sfits = x.write_separated-arg-1.given })) in (
      listed_more (output_text outputs) 0 outputs a.text.now l.loop-i.invariant.0
          (omega arith)
          (get_d_there outputs l.loop-i.i _ _ (omega arith))
          (omega arith)
          (wrote_as (text-of-output outputs l.loop-i.i _ z) w.write_separated-at.ensures.wrote),
      (omega arith, (omega (arith, w.write_separated-at.ensures.upper_bound), omega arith)),
    )

pub shape_of-text : goal.shape_of-text
shape_of-text c = c.loop-i.invariant.1.1.1

pub returns : goal.returns
returns c =
    let l = c in
    let a = l.args in
    listed_end (output_text a.outputs.now) 0 a.outputs.now a.text.now l.loop-i.invariant.0 (omega arith)
