-- The table of the symbols with delays, one symbol more at a time.
-- Assumes nothing.
use Prim.Native.Nat.{ℕ, zero, suc, ◌≤◌, ◌<◌}
use mathlib.Core.Path.{◌≡◌, refl, ap, ◌∙◌}
use mathlib.Core.Logic.{⊎_elim}
use mathlib.Core.List.{List}
use native.Mathlib.Omega.{arith}
use lib.ListN.{length, get_or, set, take, length-set}
use lib.Seq.{get_or-set_same, get_or-set_other, get_or-take, length-take-le}
use Rattle.limits.specs.Limits.{max_symbols}
use Rattle.layout_rules.proofs.FirstRecords.{last_or_earlier}
use Rattle.clock_rules.specs.Tables.{behind_entry, NoDelays, WaitingHeld, WaitingSymbols}

module _ (longest waiting : List ℕ) where
  pub waiting_started : length waiting ≡ max_symbols → WaitingHeld longest 0 waiting 0
  waiting_started room = record {
    room = room;
    few = omega arith;
    ascending = λ j h. absurd (omega arith);
    below = λ j h. absurd (omega arith);
    between = λ j h. absurd (omega arith);
    behind = λ s l u. absurd (omega arith);
  }

  module _ (symbol entries : ℕ) (W : WaitingHeld longest symbol waiting entries) where
    -- a symbol without delays
    pub waiting-same : get_or longest symbol 0 ≡ 0 → WaitingHeld longest (suc symbol) waiting entries
    waiting-same e = record {
      room = W.room;
      few = omega (arith, W.few);
      ascending = W.ascending;
      below = λ j h. omega (arith, W.below j h);
      between = W.between;
      behind = λ s l u. ⊎_elim (λ less. W.behind s l less) (λ same. rw same e) (last_or_earlier s symbol u);
    }

    -- one with delays is entered
    module _ (room : symbol < max_symbols) where
      abbrev next : List ℕ
      next = set waiting entries symbol

      here : get_or next entries 0 ≡ symbol
      here = get_or-set_same waiting entries symbol 0 (omega (arith, W.few, W.room))

      earlier : (j : ℕ) → j < entries → get_or next j 0 ≡ get_or waiting j 0
      earlier j h = get_or-set_other waiting entries j symbol 0 (λ same. omega arith)

      behind-same : (j : ℕ) → j ≤ entries → behind_entry next j ≡ behind_entry waiting j
      behind-same zero h = refl
      behind-same (suc j) h = ap suc (earlier j h)

      behind-below : (j : ℕ) → j ≤ entries → behind_entry waiting j ≤ symbol
      behind-below zero h = omega arith
      behind-below (suc j) h = W.below j h

      -- what holds of the earlier entries and of the last one holds of all
      all : (P : ℕ → Type 0) → ((j : ℕ) → j < entries → P j) → P entries → (j : ℕ) → j < suc entries → P j
      all P before last j h = ⊎_elim (before j) (λ same. rw same last) (last_or_earlier j entries h)

      pub waiting_next : WaitingHeld longest (suc symbol) next (suc entries)
      waiting_next = record {
        room = length-set waiting entries symbol ∙ W.room;
        few = omega (arith, W.few);
        ascending = all (λ j. behind_entry next j ≤ get_or next j 0)
            (λ j h. rw (behind-same j (omega arith), earlier j h) (W.ascending j h))
            (rw (behind-same entries (omega arith), here) (behind-below entries (omega arith)));
        below = all (λ j. get_or next j 0 < suc symbol) (λ j h. omega (arith, earlier j h, W.below j h)) (omega (arith, here));
        between = all (λ j. NoDelays longest (behind_entry next j) (get_or next j 0))
            (λ j h. rw (behind-same j (omega arith), earlier j h) (W.between j h))
            (rw (behind-same entries (omega arith), here) W.behind);
        behind = λ s l u. absurd (omega (arith, here));
      }

-- the entries alone, behind which the table has nothing to say
pub waiting-taken : (longest waiting : List ℕ) (symbols entries : ℕ) → WaitingHeld longest symbols waiting entries → entries ≤ length waiting → WaitingSymbols longest symbols (take entries waiting)
waiting-taken longest waiting symbols entries W fits = record {
  few = omega (arith, size, W.few);
  ascending = λ j h. let l : j < entries = omega (arith, size) in rw (behind-is j (omega arith), get_or-take entries waiting j 0 l) (W.ascending j l);
  below = λ j h. let l : j < entries = omega (arith, size) in rw (get_or-take entries waiting j 0 l) (W.below j l);
  between = λ j h. let l : j < entries = omega (arith, size) in rw (behind-is j (omega arith), get_or-take entries waiting j 0 l) (W.between j l);
  behind = rw (size, behind-is entries (omega arith)) W.behind;
}
  where
    size : length (take entries waiting) ≡ entries
    size = length-take-le entries waiting fits

    behind-is : (j : ℕ) → j ≤ entries → behind_entry (take entries waiting) j ≡ behind_entry waiting j
    behind-is zero h = refl
    behind-is (suc j) h = ap suc (get_or-take entries waiting j 0 h)
