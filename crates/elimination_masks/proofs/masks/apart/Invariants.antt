-- `elimination_masks::masks::apart` meets its contract. Assumes nothing.
use mathlib.Core.Path.{◌≡◌}
use Rattle.elimination_masks.specs.Masks.{apart_mask}
use Rattle.elimination_masks.proofs.masks.apart.Given as goal

abbrev pub invariant-loop-c : goal.invariant-loop-c
invariant-loop-c l = (l.taken ≡ apart_mask l.occurrences l.distance-2 l.c)
