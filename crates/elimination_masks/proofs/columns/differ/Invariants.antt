-- `elimination_masks::columns::differ` meets its contract. Assumes nothing.
use Prim.Native.Nat.{◌-◌}
use mathlib.Core.Path.{◌≡◌}
use mathlib.Core.Bool.{not, ◌||◌}
use lib.Dec.{eqb}
use Rattle.limits.specs.Limits.{max_rows}
use Rattle.elimination_masks.specs.Masks.{masks_differ_from, masks_differ}
use Rattle.elimination_masks.proofs.columns.differ.Given as goal

abbrev pub invariant-loop-i : goal.invariant-loop-i
invariant-loop-i l = (not (eqb l.changed 0) || masks_differ_from l.d l.x l.y l.x_after l.y_after l.i (max_rows - l.i) ≡ masks_differ l.d l.x l.y l.x_after l.y_after)
