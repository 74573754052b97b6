-- `netlist_check::rows_answer` meets its contract. What is left to compare is the rows from i on. Assumes nothing.
use mathlib.Core.Path.{◌≡◌}
use lib.ListN.{drop}
use Rattle.layout_rules.specs.Matrix.{matrix}
use Rattle.layout_rules.specs.Places.{head_at, operations_in, outputs_in}
use Rattle.netlist_rules.specs.Check.{rows_answer}
use Rattle.netlist_check.specs.Compared.{rows_matched}
use Rattle.netlist_check.proofs.rows_answer.Given as goal

abbrev pub invariant-loop-i : goal.invariant-loop-i
invariant-loop-i l =
    rows_answer (head_at l.netlist.bytes.now).n (operations_in l.netlist.bytes.now) l.i (drop l.i (outputs_in l.netlist.bytes.now)) (drop l.i (matrix l.matrix)) ≡ rows_matched l.matrix l.netlist.bytes.now
