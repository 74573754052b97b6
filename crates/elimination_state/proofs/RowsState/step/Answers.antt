-- `elimination_state::RowsState::step` meets its contract. Assumes nothing.
use Prim.Native.Nat.{suc}
use mathlib.Core.Path.{refl}
use Rattle.limits.specs.Limits.{term_symbols}
use Rattle.elimination_rules.specs.Elimination.{rows_after}
use Rattle.elimination_rows.specs.State.{rows_terms}
use Rattle.elimination_rows.proofs.Ready.{ready_below, ready_after}
use Rattle.elimination_state.proofs.Next.{all_fit, same_but, masks_taken, step_room, step_running}
use Rattle.elimination_state.proofs.RowsState.step.Goals as goal

pub refresh-requires : goal.refresh-requires
refresh-requires c =
    let rows = rows_terms c.args.self.rows in (
      all_fit c.args.self.symbol c.args.d rows c.args.kept.now c.args.columns.now c.args.after.now c.requires.0 c.requires.1 c.requires.2 c.requires.3 c.taken-masks.result c.without-x_after.result c.without-y_after.result c.taken-masks.ensures c.without-x_after.ensures c.without-y_after.ensures,
      same_but c.args.self.symbol c.args.d rows c.args.kept.now c.args.columns.now c.args.after.now c.requires.0 c.requires.1 c.requires.2 c.requires.3 c.taken-masks.result c.without-x_after.result c.without-y_after.result c.taken-masks.ensures c.without-x_after.ensures c.without-y_after.ensures,
    )

pub rows_after-rows-requires : goal.rows_after-rows-requires
rows_after-rows-requires c =
    let rows = rows_terms c.args.self.rows in (
      c.requires.0,
      c.requires.1,
      c.requires.2.proper,
      masks_taken c.args.self.symbol c.args.d rows c.args.kept.now c.args.columns.now c.args.after.now c.requires.0 c.requires.1 c.requires.2 c.requires.3 c.taken-masks.result c.without-x_after.result c.without-y_after.result c.taken-masks.ensures c.without-x_after.ensures c.without-y_after.ensures,
    )

pub gain-requires : goal.gain-requires
gain-requires c =
    let rows = rows_terms c.args.self.rows in
    let symbol = c.args.self.symbol in
    rw (c.enter_step.ensures, c.rows_after-rows.ensures) (
      ready_below (suc symbol) term_symbols c.requires.1 (rows_after symbol c.args.d rows) (ready_after symbol c.args.d rows c.requires.0),
      rw c.refresh.ensures (step_room c.args.self.symbol c.args.d rows c.args.kept.now c.args.columns.now c.args.after.now c.requires.0 c.requires.1 c.requires.2 c.requires.3 c.taken-masks.result c.without-x_after.result c.without-y_after.result c.taken-masks.ensures c.without-x_after.ensures c.without-y_after.ensures c.made-new.result c.made-new.ensures),
    )

pub returns : goal.returns
returns c =
    let rows = rows_terms c.args.self.rows in
    let e = c.enter_step in
    let after = c.rows_after-rows.ensures in (
      after,
      refl,
      rw (after, e.ensures) (step_running c.args.self.symbol c.args.d rows c.args.kept.now c.args.columns.now c.args.after.now c.requires.0 c.requires.1 c.requires.2 c.requires.3 c.taken-masks.result c.without-x_after.result c.without-y_after.result c.taken-masks.ensures c.without-x_after.ensures c.without-y_after.ensures c.made-new.result c.made-new.ensures c.gain.new.kept (rw (after, e.ensures, c.refresh.ensures) at c.gain.ensures)),
    )
