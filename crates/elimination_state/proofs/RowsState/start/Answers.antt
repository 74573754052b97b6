-- `elimination_state::RowsState::start` meets its contract. Assumes nothing.
use mathlib.Core.Path.{refl, ap, ◌∙◌}
use mathlib.Core.List.{List, ◌++◌}
use Rattle.limits.specs.Limits.{term_symbols}
use Rattle.kept_rules.specs.Kept.{new_pairs_from}
use Rattle.elimination_rules.specs.Elimination.{Scored}
use Rattle.elimination_rows.specs.State.{rows_terms}
use Rattle.elimination_rows.proofs.Ready.{ready_below}
use Rattle.elimination_gained.specs.Gained.{columns_gained}
use Rattle.elimination_state.proofs.Next.{start-room, start_running}
use Rattle.elimination_state.proofs.RowsState.start.Goals as goal

pub gain-requires : goal.gain-requires
gain-requires c =
    let rows = rows_terms c.args.rows in (
      ready_below c.args.n term_symbols c.requires.1 rows c.requires.0,
      rw c.clear.ensures (start-room c.args.n c.requires.1 rows c.requires.0 c.enter_rows.new.columns c.enter_rows.ensures.0),
    )

pub returns : goal.returns
returns c =
    let rows = rows_terms c.args.rows in
    let columns = c.enter_rows.new.columns in (
      refl,
      refl,
      start_running c.args.n c.requires.1 rows c.requires.0 columns c.enter_rows.ensures.0 c.enter_rows.ensures.1 c.gain.new.kept
          (c.gain.ensures ∙ ap (λ (t : List Scored). t ++ columns_gained columns (new_pairs_from 0 0 rows)) c.clear.ensures),
    )
