-- `netlist_read::records::largest_depth` meets its contract. Assumes nothing.
use mathlib.Core.Path.{ap, ◌∙◌}
use Prim.Native.Nat.{ℕ, max}
use native.Mathlib.Numerals.{add-one}
use lib.ListN.{get_or, take}
use Rattle.std.proofs.lemmas.List.{take_all}
use Rattle.board_rules.specs.Machine.{largest}
use Rattle.netlist_read.proofs.HeldLaws.{largest-none, largest_next}
use Rattle.netlist_read.proofs.records.largest_depth.Goals as goal

pub loop-depth-init : goal.loop-depth-init
loop-depth-init c = largest-none (take c.args.count c.args.depths.now)

pub loop-depth-preserved : goal.loop-depth-preserved
loop-depth-preserved c =
    let l = take c.args.count c.args.depths.now in
    let i = c.loop-depth.depth-index in
    rw (add-one i) (c.max-most.ensures ∙ ap (λ (most : ℕ). max most (get_or l i 0)) c.loop-depth.invariant ∙ largest_next l i c.loop-depth-test.true)

pub returns : goal.returns
returns c = c.loop-depth.invariant ∙ ap largest (take_all c.loop-depth.depth-index (take c.args.count c.args.depths.now) c.loop-depth-test.false)
