-- `netlist_run::fill_outputs` meets its contract. Assumes nothing.
use mathlib.Core.Path.{◌≡◌, sym, ◌∙◌}
use Prim.Native.Nat.{◌^◌, ◌<◌}
use mathlib.Core.List.{List}
use native.Mathlib.Omega.{arith}
use native.Mathlib.Numerals.{add-one}
use lib.IntN.{ℤ, pos}
use lib.ListN.{length-set}
use lib.Signed.{mag}
use mir.Syntax.{w64}
use mir.Val.{SFits, to_z, of_z}
use Rattle.integers.proofs.Held.{is, held, call_result}
use Rattle.layout_rules.specs.declared.Output.{Output}
use Rattle.layout_rules.specs.Places.{output_at}
use Rattle.board_rules.specs.Machine.{entry_at, shifted, with_sign, output_value}
use Rattle.board_rules.specs.Table.{Small}
use Rattle.board_rules.proofs.TableLaws.{sets_none}
use Rattle.netlist_run.proofs.BoardLaws.{symbols-most, output-held, entry-small, result_read, results-read, set_next, all_set}
use Rattle.netlist_run.proofs.fill_outputs.Goals as goal
use Rattle.netlist_run.proofs.fill_outputs.Invariants.{results}

-- what is written, over plain numbers
module _ (values : List ℤ) (p : Output) (fx : SFits w64 (entry_at values p.symbol)) where
  asked : Small (entry_at values p.symbol) p.shift → Small (to_z w64 (of_z w64 (entry_at values p.symbol))) p.shift
  asked z = rw (is (held fx)) z

  value : (r : ℤ) → mag r < 2 ^ 63 → r ≡ with_sign p.sign (shifted (to_z w64 (of_z w64 (entry_at values p.symbol))) p.shift) → to_z w64 (of_z w64 r) ≡ output_value values p
  value r ok e = call_result w64 ok (rw (is (held fx)) at e)

pub bounds-values-o : goal.bounds-values-o
bounds-values-o c =
    let s = c.args.netlist.now in
    omega (arith, symbols-most s.bytes.now s.read s.head s.head_read, (output-held s.bytes.now s.read s.head s.head_read c.loop-i.i (omega arith) c.output-o.ensures).symbol)

pub output_value-requires : goal.output_value-requires
output_value-requires c =
    let s = c.args.netlist.now in
    asked c.args.values.now c.output-o.result (record { sfits = c.x-1.given })
    (entry-small s.bytes.now s.read s.head s.head_read c.loop-i.i (omega arith) c.output-o.ensures c.args.values.now c.requires.board_ready)

pub loop-i-preserved : goal.loop-i-preserved
loop-i-preserved c =
    let s = c.args.netlist.now in
    let b = s.bytes.now in
    let i = c.loop-i.i in
    let values = c.args.values.now in
    let v = to_z w64 (of_z w64 c.output_value.result) in
    let e : v ≡ output_value values c.output-o.result
    = value values c.output-o.result (record { sfits = c.x-1.given }) c.output_value.result c.output_value.type_inv c.output_value.ensures in
    rw (add-one i) (
      length-set c.loop-i.outputs i v ∙ c.loop-i.invariant.0,
      set_next (results b values) c.loop-i.outputs i v (output_value values (output_at b 0 0)) (omega (arith, results-read b s.read s.head s.head_read values))
          (e ∙ result_read b s.read s.head s.head_read i (omega arith) c.output-o.ensures values) ∙ c.loop-i.invariant.1,
    )

pub returns : goal.returns
returns c =
    let s = c.args.netlist.now in
    let vs = results s.bytes.now c.args.values.now in
    let k = results-read s.bytes.now s.read s.head s.head_read c.args.values.now in
    sym (sets_none (pos 0) vs c.loop-i.outputs c.loop-i.i c.loop-i.i (omega (arith, k))) ∙ c.loop-i.invariant.1 ∙ all_set vs c.args.outputs.now (omega (arith, k))
