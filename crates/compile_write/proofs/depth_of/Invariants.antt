-- `compile_write::depth_of` meets its contract. Assumes nothing.
use Rattle.std.proofs.Common.{◌≡◌, take}
use Rattle.board_rules.specs.Machine.{depth}
use Rattle.board_rules.specs.Table.{HoldsDepths}
use Rattle.compile_lists.specs.Lists.{operations_list}
use Rattle.compile_write.proofs.depth_of.Given as goal

abbrev pub invariant-loop-k : goal.invariant-loop-k
invariant-loop-k l =
    let done = take l.k (operations_list l.fn.operations) in
    HoldsDepths l.n done l.depths × (l.largest ≡ depth l.n done)
