-- `netlist_run::run_operations` meets its contract. After k operations the table holds the board machine's entries. Assumes nothing.
use lib.ListN.{take}
use Rattle.netlist_run.proofs.BoardLaws.{BoardAt}
use Rattle.netlist_run.proofs.run_operations.Given as goal

abbrev pub invariant-loop-k : goal.invariant-loop-k
invariant-loop-k l = BoardAt l.netlist.bytes.now l.netlist.head.n l.k (take l.netlist.head.n l.initial.values) l.values
