-- Every pair's divisor has score at least 1, and a divisor that has is proper.
-- Assumes nothing.
use Prim.Native.Nat.{ℕ, ◌≤◌}
use mathlib.Core.Path.{◌≡◌, ap}
use mathlib.Core.Logic.{⊎_elim}
use mathlib.Core.List.Memᴰ
use mathlib.Core.List.{List, [], ◌∷◌, Memᴰ}
use native.Mathlib.Omega.{arith}
use lib.ListN.{length}
use Rattle.elimination_rules.specs.declared.Divisor.{Divisor}
use Rattle.elimination_rules.specs.Rows.{Row, WellFormed, EachRow}
use Rattle.elimination_rules.specs.Divisors.{Pair, divisor_of, pairs_of, taken, score}
use Rattle.elimination_rules.specs.Elimination.{all_pairs}
use Rattle.elimination_rules.specs.Lookup.{Proper}
use Rattle.elimination_rules.proofs.RowOrder.{Occurrence}
use Rattle.elimination_rules.proofs.Taken.{taken-most}
use Rattle.elimination_rules.proofs.Order.{score_occurs, each_row}
use Rattle.elimination_rules.proofs.LookupSigns.{pairs_proper}

module _ (positions symbol : ℕ) where
  -- a divisor that is taken is proper
  pub scored-proper : (d : Divisor) (rows : List Row) → EachRow (WellFormed positions symbol) rows → 1 ≤ score d rows → Proper d
  scored-proper d rows w h =
      let x = score_occurs d rows h in
      let o : Occurrence d x.0 x.2.0 = x.2.1 in
      rw (← o.divisor) (pairs_proper x.0 (each_row (WellFormed positions symbol) rows w x.0 x.1).ascending x.2.0 o.pair)

  -- every pair's divisor is taken at least once
  pub pair-scores : (rows : List Row) → EachRow (WellFormed positions symbol) rows → (p : Pair) → Memᴰ p (all_pairs rows) → 1 ≤ score (divisor_of p) rows
  unfolding all_pairs score
  pair-scores [] w p m = absurd (Memᴰ.not-nil m)
  pair-scores (r ∷ rows) w p m = ⊎_elim
      (λ k.
      let one : 1 ≤ length (taken (divisor_of p) r) = taken-most (divisor_of p) r w.0.ascending (p ∷ []) (record {
        occur = λ q l. let e : q ≡ p = Memᴰ.eq_of_singleton l in record { pair = rw e k; divisor = ap divisor_of e };
        apart = ((λ x l. absurd (Memᴰ.not-nil l)), tt);
      }) in
      omega arith)
      (λ k. omega (arith, pair-scores rows w.1 p k))
      (Memᴰ.append_cases (pairs_of r) m)

  pub pair-proper : (rows : List Row) → EachRow (WellFormed positions symbol) rows → (p : Pair) → Memᴰ p (all_pairs rows) → Proper (divisor_of p)
  pair-proper rows w p m = scored-proper (divisor_of p) rows w (pair-scores rows w p m)
