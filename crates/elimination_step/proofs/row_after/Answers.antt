-- `elimination_step::row_after` meets its contract. Assumes nothing.
use mathlib.Core.Path.{◌∙◌}
use native.Mathlib.Omega.{arith}
use Rattle.limits.specs.Limits.{max_terms}
use Rattle.elimination_rows.specs.State.{row_terms}
use Rattle.elimination_step.proofs.Stepping.{row-after_parts, row-after-short}
use Rattle.elimination_step.proofs.row_after.Goals as goal

pub add_new_terms-requires : goal.add_new_terms-requires
add_new_terms-requires c =
    let s = c in
    let a = s.args in
    let r = a.row.now in
    let parts = row-after_parts a.symbol a.d s.requires.1 r s.requires.2 a.taken s.requires.4 (row_terms c.kept_terms-out.result) c.kept_terms-out.ensures in
    (omega arith, rw parts (row-after-short a.symbol a.d r max_terms s.requires.3))

pub returns : goal.returns
returns c =
    let s = c in
    let a = s.args in
    let kept = c.kept_terms-out in
    c.add_new_terms.ensures
    ∙ row-after_parts a.symbol a.d s.requires.1 (a.row.now) s.requires.2 a.taken s.requires.4 (row_terms kept.result) kept.ensures
