-- `compile_write::depth_of` meets its contract. Assumes nothing.
use Rattle.std.proofs.Common.{sym, ap, ◌∙◌, ◌<◌, length, arith}
use native.Mathlib.Numerals.{add-one}
use lib.Seq.{take_all}
use Rattle.layout_rules.specs.declared.Operation.{Operation}
use Rattle.board_rules.specs.Machine.{depth}
use Rattle.board_rules.proofs.DepthLaws.{depth-none}
use Rattle.board_rules.proofs.TableLaws.{depths_started}
use Rattle.compile_lists.specs.Lists.{operations_list}
use Rattle.compile_write.proofs.WriteLaws.{earlier_depths, depths_next, depth_next}
use Rattle.compile_write.proofs.depth_of.Goals as goal

pub loop-k-init : goal.loop-k-init
loop-k-init c =
    let n = c.args.n in (depths_started n _ (omega (arith, c.requires.inputs)) c.filled-depths.ensures, sym (depth-none n))

pub operation_depth-depth-requires : goal.operation_depth-depth-requires
operation_depth-depth-requires c =
    let os = operations_list c.args.operations in
    let w = c.requires in
    let k = c.loop-k.k in
    let same = c.as_slice-o-items.ensures in
    let inside : k < length os = omega (arith, ap (length {A = Operation}) same) in
    rw same record {
      a_lt_max_symbols = (omega (arith, w.few, w.inputs, w.first_earlier k inside), omega (arith, w.few, w.inputs, w.second_earlier k inside));
      a_bound = earlier_depths c.args.n os w c.loop-k.depths k inside c.loop-k.invariant.0;
    }

pub loop-k-preserved : goal.loop-k-preserved
loop-k-preserved c =
    let n = c.args.n in
    let os = operations_list c.args.operations in
    let k = c.loop-k.k in
    let same = c.as_slice-o-items.ensures in
    let inside : k < length os = omega (arith, ap (length {A = Operation}) same) in
    let H = c.loop-k.invariant.0 in
    let table = c.loop-k.depths in
    rw (add-one k, c.operation_depth-depth.ensures, same) (
      depths_next n os c.requires table k inside H,
      c.max-largest.ensures ∙ rw (c.operation_depth-depth.ensures, same, c.loop-k.invariant.1) (depth_next n os c.requires table k inside H),
    )

pub returns : goal.returns
returns c =
    c.loop-k.invariant.1
    ∙ ap (depth c.args.n) (take_all c.loop-k.k (operations_list c.args.operations) (omega (arith, ap (length {A = Operation}) c.as_slice-o-items.ensures)))
