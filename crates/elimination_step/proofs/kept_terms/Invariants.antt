-- What is kept so far, and behind it what the rest of the row keeps.
use Prim.Native.Nat.{◌≤◌}
use mathlib.Core.Path.{◌≡◌}
use mathlib.Core.List.{◌++◌}
use lib.ListN.{length, drop}
use Rattle.limits.specs.Limits.{positions}
use Rattle.bits.specs.Bits.{bits_of}
use Rattle.elimination_rules.specs.Lookup.{kept_terms}
use Rattle.elimination_rows.specs.State.{row_terms}
use Rattle.elimination_step.proofs.kept_terms.Given as goal

abbrev pub invariant-loop-t : goal.invariant-loop-t
invariant-loop-t l =
    (length (row_terms l.kept) ≤ l.t-index)
    × (row_terms l.kept ++ kept_terms l.d (bits_of l.taken positions) (drop l.t-index l.row) ≡ kept_terms l.d (bits_of l.taken positions) l.row)
