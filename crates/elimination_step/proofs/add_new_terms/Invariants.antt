-- The new terms so far, and behind them those of the co-divisors that are left.
use mathlib.Core.Path.{◌≡◌}
use mathlib.Core.List.{◌++◌}
use lib.ListN.{drop}
use Rattle.limits.specs.Limits.{positions}
use Rattle.bits.specs.Bits.{bits_of}
use Rattle.elimination_rules.specs.Lookup.{sign_at, lookup_terms_from}
use Rattle.elimination_rows.specs.State.{row_terms}
use Rattle.elimination_step.proofs.add_new_terms.Given as goal

abbrev pub invariant-loop-c : goal.invariant-loop-c
invariant-loop-c l =
    row_terms l.rest ++ lookup_terms_from l.symbol (sign_at l.row) l.d l.c (drop l.c (bits_of l.taken positions)) ≡ row_terms l.initial.rest ++ lookup_terms_from l.symbol (sign_at l.row) l.d 0 (bits_of l.taken positions)
