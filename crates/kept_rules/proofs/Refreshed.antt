-- The entries of a table after a step that have an occurrence still: where each comes from, which stay, and that each stands once.
-- Assumes nothing.
use Prim.Native.Nat.{ℕ, ◌≤◌}
use mathlib.Core.Path.{◌≡◌, refl, ◌∙◌, ap}
use mathlib.Core.Logic.{⊎_elim}
use mathlib.Core.Bool.{Bool}
use mathlib.Core.List.Memᴰ
use mathlib.Core.List.{List, [], ◌∷◌, ◌++◌, Memᴰ}
use native.Mathlib.Omega.{arith}
use lib.Dec.{eqb}
use borrow.Author.Tests.{eqb-true, eqb-false}
use Rattle.elimination_rules.specs.declared.Divisor.{Divisor}
use Rattle.elimination_rules.specs.Elimination.{Scored}
use Rattle.elimination_rules.proofs.Tests.{by_test}
use Rattle.kept_rules.specs.Kept.{Once, refreshed_entry, refreshed}

module _ (changed : Divisor → Bool) (scores : Divisor → ℕ) where
  -- an entry comes from one of the table, and has an occurrence
  pub refreshed_member : (table : List Scored) (t : Scored) → Memᴰ t (refreshed changed scores table)
      → (s : Scored) × Memᴰ s table × (t ≡ refreshed_entry changed scores s) × (1 ≤ t.score)
  unfolding refreshed
  refreshed_member [] t = λ m. absurd (Memᴰ.not-nil m)
  refreshed_member (s ∷ table) t =
      let u : Scored = refreshed_entry changed scores s in
      let later : Memᴰ t (refreshed changed scores table) → (x : Scored) × Memᴰ x (s ∷ table) × (t ≡ refreshed_entry changed scores x) × (1 ≤ t.score) =
      λ k. let h = refreshed_member table t k in (h.0, Memᴰ.tail h.1, h.2, h.3) in
      by_test (eqb u.score 0) (refreshed changed scores table) (u ∷ refreshed changed scores table)
      (λ z. Memᴰ t z → (x : Scored) × Memᴰ x (s ∷ table) × (t ≡ refreshed_entry changed scores x) × (1 ≤ t.score))
      (λ e m. later m)
      (λ e m. ⊎_elim (λ w. (s, Memᴰ.head refl, w, omega (arith, ap (λ z. z.score) w, eqb-false u.score 0 e))) later (Memᴰ.cases_cons m))

  -- an entry that has an occurrence stays
  pub member_refreshed : (table : List Scored) (s : Scored) → Memᴰ s table → 1 ≤ (refreshed_entry changed scores s).score
      → Memᴰ (refreshed_entry changed scores s) (refreshed changed scores table)
  unfolding refreshed
  member_refreshed [] s m h = absurd (Memᴰ.not-nil m)
  member_refreshed (t ∷ table) s m h =
      let u : Scored = refreshed_entry changed scores t in
      by_test (eqb u.score 0) (refreshed changed scores table) (u ∷ refreshed changed scores table) (Memᴰ (refreshed_entry changed scores s))
      (λ e. ⊎_elim
      (λ w. absurd (omega (arith, h, ap (λ z. (refreshed_entry changed scores z).score) w, eqb-true u.score 0 e)))
      (λ k. member_refreshed table s k h)
      (Memᴰ.cases_cons m))
      (λ e. ⊎_elim (λ w. Memᴰ.head (ap (refreshed_entry changed scores) w)) (λ k. Memᴰ.tail (member_refreshed table s k h)) (Memᴰ.cases_cons m))

  pub refreshed-once : (table : List Scored) → Once table → Once (refreshed changed scores table)
  unfolding refreshed
  refreshed-once [] o = tt
  refreshed-once (s ∷ table) o =
      let t : Scored = refreshed_entry changed scores s in
      by_test (eqb t.score 0) (refreshed changed scores table) (t ∷ refreshed changed scores table) Once
      (λ e. refreshed-once table o.1)
      (λ e. ((λ u m k. let x = refreshed_member table u m in o.0 x.0 x.1 (k ∙ ap (λ z. z.divisor) x.2)), refreshed-once table o.1))

-- two tables without a common divisor, one behind the other
pub once-append : (table other : List Scored) → Once table → Once other → ((s t : Scored) → Memᴰ s table → Memᴰ t other → s.divisor ≡ t.divisor → ⊥) → Once (table ++ other)
once-append [] other o p apart = p
once-append (s ∷ table) other o p apart = (
  (λ t m. ⊎_elim (λ k. o.0 t k) (λ k. apart s t (Memᴰ.head refl) k) (Memᴰ.append_cases table m)),
  once-append table other o.1 p (λ x y m n. apart x y (Memᴰ.tail m) n),
)
