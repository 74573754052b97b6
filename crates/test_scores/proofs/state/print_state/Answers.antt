-- The rows of a record that is not declined are ready for elimination.
use Rattle.std.proofs.Common.{arith, ap}
use Rattle.layout_rules.proofs.LittleEndian.{AreBytes}
use Rattle.layout_rules.proofs.MatrixRefusal.{accepted-matrix}
use Rattle.elimination_rules.specs.Rows.{plain_count}
use Rattle.compile_rules.proofs.Compiled.{plain-most}
use Rattle.compile_plan.proofs.PlanLaws.{ready}
use Rattle.test_scores.proofs.state.print_state.Goals as goal

pub eliminate_rows-state-requires : goal.eliminate_rows-state-requires
eliminate_rows-state-requires g c =
    let bytes = c.args.matrix.now in
    let due = c.requires in
    let all : AreBytes bytes = λ i. omega (arith, c.type_inv.matrix i) in
    let columns-are = c.column_count-n.ensures in
    let rows-are = c.matrix_rows-first.ensures in (
      rw (columns-are, rows-are) (ready bytes all due),
      omega (arith, columns-are, (accepted-matrix bytes due).limits.columns-most),
      omega (arith, ap plain_count rows-are, plain-most bytes all due),
    )
