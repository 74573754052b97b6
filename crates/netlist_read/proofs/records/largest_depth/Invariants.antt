-- `netlist_read::records::largest_depth` meets its contract: the largest of those before the index. Assumes nothing.
use mathlib.Core.Path.{◌≡◌}
use lib.ListN.{take}
use Rattle.board_rules.specs.Machine.{largest}
use Rattle.netlist_read.proofs.records.largest_depth.Given as goal

abbrev pub invariant-loop-depth : goal.invariant-loop-depth
invariant-loop-depth l = l.most ≡ largest (take l.depth-index l.counted)
