-- `elimination_masks::columns::none_among` meets its contract. Assumes nothing.
use Prim.Native.Nat.{◌-◌}
use mathlib.Core.Path.{◌≡◌}
use mathlib.Core.Bool.{◌&&◌}
use lib.Dec.{eqb}
use Rattle.limits.specs.Limits.{max_rows}
use lib.ListN.{get_or}
use Rattle.elimination_masks.specs.Masks.{none_among_from, none_among}
use Rattle.elimination_masks.proofs.columns.none_among.Given as goal

abbrev pub invariant-loop-i : goal.invariant-loop-i
invariant-loop-i l = (eqb l.met 0 && none_among_from l.d l.x l.y (λ i. get_or l.asked i 0) l.i (max_rows - l.i) ≡ none_among l.d l.x l.y (λ i. get_or l.asked i 0))
