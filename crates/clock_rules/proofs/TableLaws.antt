-- A table that is right below a place, and one more entry of it.
-- Assumes nothing.
use Prim.Native.Nat.{ℕ, suc, ◌<◌}
use mathlib.Core.Path.{◌≡◌, ◌∙◌}
use mathlib.Core.Logic.{⊎_elim}
use mathlib.Core.List.{List}
use native.Mathlib.Omega.{arith}
use lib.ListN.{length, get_or, set}
use lib.Seq.{get_or-set_same, get_or-set_other}
use Rattle.layout_rules.proofs.FirstRecords.{last_or_earlier}

module _ {A : Type 0} (none : A) where
  abbrev pub Below : List A → (ℕ → A) → ℕ → Type 0
  Below table right k = (j : ℕ) → j < k → get_or table j none ≡ right j

  pub below_next : (table : List A) (right : ℕ → A) (k : ℕ) (entry : A) → k < length table → entry ≡ right k → Below table right k → Below (set table k entry) right (suc k)
  below_next table right k entry room e before j h =
      ⊎_elim
      (λ less. get_or-set_other table k j entry none (λ same. omega arith) ∙ before j less)
      (λ same. rw same (get_or-set_same table k entry none room ∙ e))
      (last_or_earlier j k h)
