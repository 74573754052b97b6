-- What a table of rows holds: an entry with its score for each divisor that occurs, and nothing else.
-- Assumes nothing.
use Prim.Native.Nat.{◌≤◌}
use mathlib.Core.Path.{◌≡◌, refl, sym, ◌∙◌, ap}
use mathlib.Core.Logic.{⊎_elim}
use mathlib.Core.Bool.{false}
use mathlib.Core.List.Memᴰ
use mathlib.Core.List.{List, [], ◌∷◌, Memᴰ}
use native.Mathlib.Omega.{arith}
use Rattle.elimination_rules.specs.declared.Divisor.{Divisor}
use Rattle.elimination_rules.specs.Rows.{Row}
use Rattle.elimination_rules.specs.Divisors.{Pair, divisor_of, same_divisor, score}
use Rattle.elimination_rules.specs.Elimination.{Scored, all_pairs}
use Rattle.elimination_rules.proofs.Tests.{by_bool}
use Rattle.elimination_rules.proofs.Same.{same-divisor, divisor-same}
use Rattle.elimination_rules.proofs.Order.{score_occurs}
use Rattle.elimination_rules.proofs.Pick.{all_pairs_lem}
use Rattle.kept_rules.specs.Kept.{kept_score, Once, Kept}

-- ---- what a table says of a divisor

module _ (s : Scored) (table : List Scored) (d : Divisor) where
  pub kept_here : s.divisor ≡ d → kept_score (s ∷ table) d ≡ s.score
  unfolding kept_score
  kept_here e = rw (divisor-same s.divisor d e, kept_score)

  pub kept-later : same_divisor s.divisor d ≡ false → kept_score (s ∷ table) d ≡ kept_score table d
  unfolding kept_score
  kept-later e = rw (e, kept_score)

kept_nowhere : (d : Divisor) → kept_score [] d ≡ 0
unfolding kept_score
kept_nowhere d = refl

-- the score in its entry
pub kept_entry : (table : List Scored) → Once table → (s : Scored) → Memᴰ s table → kept_score table s.divisor ≡ s.score
kept_entry [] once s m = absurd (Memᴰ.not-nil m)
kept_entry (t ∷ table) once s m = ⊎_elim
    (λ w. kept_here t table s.divisor (ap (λ x. x.divisor) (sym w)) ∙ ap (λ x. x.score) (sym w))
    (λ k. by_bool (same_divisor t.divisor s.divisor)
    (λ e. absurd (once.0 s k (same-divisor t.divisor s.divisor e)))
    (λ e. kept-later t table s.divisor e ∙ kept_entry table once.1 s k))
    (Memᴰ.cases_cons m)

-- 0 where it has none
pub entry_kept : (table : List Scored) (d : Divisor) → 1 ≤ kept_score table d → Memᴰ (record { divisor = d; score = kept_score table d }) table
entry_kept [] d h = absurd (omega (arith, kept_nowhere d))
entry_kept (s ∷ table) d h = by_bool (same_divisor s.divisor d)
    (λ e.
    let w : s.divisor ≡ d = same-divisor s.divisor d e in
    Memᴰ.head (λ i. record { divisor = (sym w) i; score = (kept_here s table d w) i }))
    (λ e.
    let later : kept_score (s ∷ table) d ≡ kept_score table d = kept-later s table d e in
    rw later (Memᴰ.tail (entry_kept table d (omega (arith, later)))))

-- ---- a table of rows

module _ (rows : List Row) (table : List Scored) (kept : Kept rows table) where
  -- every entry has its divisor's score
  pub entry_exact : (s : Scored) → Memᴰ s table → s.score ≡ score s.divisor rows
  entry_exact s m = sym (kept_entry table kept.once s m) ∙ kept.scores s.divisor

  -- every divisor that occurs has an entry
  pub entry_there : (d : Divisor) → 1 ≤ score d rows → Memᴰ (record { divisor = d; score = score d rows }) table
  entry_there d h = rw (← kept.scores d) (entry_kept table d (omega (arith, kept.scores d)))

  -- every entry's divisor is that of one of the rows' pairs
  pub entry_pair : (s : Scored) → Memᴰ s table → (p : Pair) × Memᴰ p (all_pairs rows) × (divisor_of p ≡ s.divisor)
  entry_pair s m =
      let x = score_occurs s.divisor rows (omega (arith, kept.occurring s m, entry_exact s m)) in
      (x.2.0, all_pairs_lem x.0 rows x.1 x.2.0 x.2.1.pair, x.2.1.divisor)
