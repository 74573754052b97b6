-- The best of a table's entries one by one: of each and the best so far the better one.
-- Assumes nothing.
use mathlib.Core.Path.{◌≡◌, refl, ap, ◌∙◌}
use mathlib.Core.Bool.{Bool, true, false}
use mathlib.Core.List.{List, ◌∷◌}
use Rattle.elimination_rules.specs.declared.Divisor.{Divisor}
use Rattle.elimination_rules.specs.Elimination.{Scored, better}
use Rattle.elimination_rules.proofs.Tests.{by_test, by_bool, clash}
use Rattle.kept_rules.specs.Kept.{best_entry}
use Rattle.kept_rules.proofs.TablePick.{best_yes, best_no}

-- the second only where it is better
abbrev pub better_of : (Divisor → Divisor → Bool) → Scored → Scored → Scored
better_of first s t = elim (better first t s) [ true ↦ t | false ↦ s ]

better_of_yes : (first : Divisor → Divisor → Bool) (s t : Scored) → better first t s ≡ true → t ≡ better_of first s t
better_of_yes first s t h = by_test (better first t s) t s (λ (r : Scored). t ≡ r) (λ _. refl) (λ f. clash h f)

better_of_no : (first : Divisor → Divisor → Bool) (s t : Scored) → better first t s ≡ false → s ≡ better_of first s t
better_of_no first s t h = by_test (better first t s) t s (λ (r : Scored). s ≡ r) (λ f. clash f h) (λ _. refl)

pub best_next : (first : Divisor → Divisor → Bool) (s t : Scored) (table : List Scored) → best_entry first s (t ∷ table) ≡ best_entry first (better_of first s t) table
best_next first s t table =
    by_bool (better first t s)
    (λ e. best_yes first s t table e ∙ ap (λ (u : Scored). best_entry first u table) (better_of_yes first s t e))
    (λ e. best_no first s t table e ∙ ap (λ (u : Scored). best_entry first u table) (better_of_no first s t e))
