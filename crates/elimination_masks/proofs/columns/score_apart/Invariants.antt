-- `elimination_masks::columns::score_apart` meets its contract. Assumes nothing.
use Prim.Native.Nat.{◌+◌, ◌-◌, ◌*◌, ◌≤◌}
use mathlib.Core.Path.{◌≡◌}
use Rattle.limits.specs.Limits.{max_rows, positions}
use Rattle.elimination_masks.specs.Masks.{mask_score_from, mask_score}
use Rattle.elimination_masks.proofs.columns.score_apart.Given as goal

abbrev pub invariant-loop-i : goal.invariant-loop-i
invariant-loop-i l = (l.count ≤ positions * l.i) × (l.count + mask_score_from l.d l.x l.y l.i (max_rows - l.i) ≡ mask_score l.d l.x l.y)
