-- `netlist_run::start_values` meets its contract. Assumes nothing.
use mathlib.Core.Path.{◌≡◌, ◌∙◌, subst}
use Prim.Native.Nat.{ℕ}
use native.Mathlib.Omega.{arith}
use native.Mathlib.Numerals.{add-one}
use lib.IntN.{pos}
use lib.ListN.{length, get_or, take, length-set}
use lib.Seq.{take-length}
use mir.Syntax.{w32, w64}
use mir.Val.{to_z, of_z}
use Rattle.integers.proofs.Held.{is, held, call_result}
use Rattle.netlist_run.proofs.BoardLaws.{sample_next}
use Rattle.netlist_run.proofs.start_values.Goals as goal

pub loop-j-preserved : goal.loop-j-preserved
loop-j-preserved c =
    let samples = c.args.samples.now in
    let j = c.loop-j.j in
    let z = to_z w64 (of_z w64 c.from.result) in
    let e : z ≡ get_or samples j (pos 0) = call_result w64 c.from.type_inv (c.from.ensures ∙ is {w = w32} (held (record { sfits = c.from-arg-1.given }))) in
    rw (add-one j) (
      length-set c.loop-j.values j z ∙ c.loop-j.invariant.0,
      sample_next samples c.loop-j.values j z (omega arith) (omega arith) e c.loop-j.invariant.1,
    )

pub returns : goal.returns
returns c =
    let samples = c.args.samples.now in
    let e : c.loop-j.j ≡ length samples = omega arith in
    record {
      room = c.loop-j.invariant.0;
      held = subst (λ (j : ℕ). take j c.loop-j.values ≡ take j samples) e c.loop-j.invariant.1 ∙ take-length samples;
    }
