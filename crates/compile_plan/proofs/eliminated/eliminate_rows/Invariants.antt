-- `compile_plan::eliminated::eliminate_rows` meets its contract. Assumes nothing.
use Prim.Native.Nat.{◌-◌}
use Rattle.elimination_rows.specs.State.{rows_terms}
use Rattle.compile_lists.specs.Lists.{operations_list}
use Rattle.elimination_state.specs.Running.{Running}
use Rattle.compile_plan.proofs.EndLaws.{BeforeStep}
use Rattle.compile_plan.proofs.eliminated.eliminate_rows.Given as goal

abbrev pub invariant-loop : goal.invariant-loop
invariant-loop l =
    BeforeStep l.most l.n (rows_terms l.initial.state.rows) (l.most - l.counter) l.state.symbol (operations_list l.operations) l.depths l.replacements (rows_terms l.state.rows)
    × Running (rows_terms l.state.rows) l.kept l.columns l.after
