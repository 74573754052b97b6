-- The delays of a netlist shifted one symbol with delays after another.
-- Assumes nothing.
use Prim.Native.Nat.{ℕ, zero, suc, ◌+◌, ◌-◌, ◌≤◌, ◌<◌}
use mathlib.Core.Path.{◌≡◌, refl, sym, ◌∙◌, ap, subst}
use mathlib.Core.List.{List, ◌++◌}
use native.Mathlib.Omega.{arith}
use lib.IntN.{ℤ}
use lib.ListN.{length, get_or}
use Rattle.limits.specs.Limits.{max_symbols}
use Rattle.layout_rules.specs.Places.{netlist_in}
use Rattle.board_rules.specs.Machine.{entry_at}
use Rattle.clock_rules.specs.InPlace.{shifted_in, shifted_by, delays_in}
use Rattle.clock_rules.specs.Tables.{behind_entry, WaitingSymbols, StoreReady}
use Rattle.clock_rules.proofs.InPlace.{length-shifted_in, no_delays_in, none-shifted}
use Rattle.clock_edge.specs.declared.schedule.Schedule.{Schedule}
use Rattle.clock_edge.proofs.EdgeLaws.{symbols_few, symbols-are_held, delays_room}

-- the delays of the symbols below one are shifted; those of the others begin at a place and are within the store
pub record Left (longest : List ℕ) (samples : List ℤ) (operations symbols : ℕ) (store₀ store : List ℤ) (place symbol : ℕ) : Type 0 where
  pub same : length store ≡ length store₀
  pub room : place + delays_in longest symbol (symbols - symbol) ≤ length store₀
  pub left : shifted_by longest samples store place symbol (symbols - symbol) ≡ shifted_by longest samples store₀ operations 0 symbols

module _ (longest : List ℕ) (samples : List ℤ) (operations symbols : ℕ) (store₀ : List ℤ) where
  pub left-all : operations + delays_in longest 0 symbols ≤ length store₀ → Left longest samples operations symbols store₀ store₀ operations 0
  left-all h = let e : symbols - 0 ≡ symbols = omega arith in record { same = refl; room = rw e h; left = rw e refl }

  -- one symbol's delays are within the store, and are shifted
  module _ (store : List ℤ) (place symbol : ℕ) (L : Left longest samples operations symbols store₀ store place symbol) (h : symbol < symbols) where
    next : symbols - symbol ≡ suc (symbols - suc symbol)
    next = omega arith

    pub room_next : place + get_or longest symbol 0 + delays_in longest (suc symbol) (symbols - suc symbol) ≤ length store₀
    unfolding delays_in
    room_next = let r : place + (get_or longest symbol 0 + delays_in longest (suc symbol) (symbols - suc symbol)) ≤ length store₀ = rw next at L.room in omega arith

    pub left_next : (after : List ℤ) → after ≡ shifted_in store place (get_or longest symbol 0) (entry_at (samples ++ store) symbol)
        → Left longest samples operations symbols store₀ after (place + get_or longest symbol 0) (suc symbol)
    unfolding shifted_by
    left_next after e = record {
      same = ap length e ∙ length-shifted_in store place (get_or longest symbol 0) (entry_at (samples ++ store) symbol) ∙ L.same;
      room = room_next;
      left = rw e (rw next at L.left);
    }

  -- symbols without delays are passed over, up to an entry and behind the last one
  module _ (waiting : List ℕ) (W : WaitingSymbols longest symbols waiting) (store : List ℤ) (place : ℕ) where
    behind-most : (j : ℕ) → j ≤ length waiting → behind_entry waiting j ≤ symbols
    behind-most zero h = omega arith
    behind-most (suc j) h = W.below j h

    pub left-entry : (j : ℕ) → j < length waiting → Left longest samples operations symbols store₀ store place (behind_entry waiting j)
        → Left longest samples operations symbols store₀ store place (get_or waiting j 0)
    left-entry j h L = let most : get_or waiting j 0 ≤ symbols = omega (arith, W.below j h) in record {
      same = L.same;
      room = omega (arith, L.room, no_delays_in longest symbols (behind_entry waiting j) (get_or waiting j 0) (W.ascending j h) most (W.between j h));
      left = sym (none-shifted longest symbols (behind_entry waiting j) (get_or waiting j 0) (W.ascending j h) most (W.between j h) samples store place) ∙ L.left;
    }

    pub left-last : Left longest samples operations symbols store₀ store place (behind_entry waiting (length waiting))
        → store ≡ shifted_by longest samples store₀ operations 0 symbols
    unfolding shifted_by
    left-last L =
        let e : symbols - symbols ≡ 0 = omega arith in
        rw e at (sym (none-shifted longest symbols (behind_entry waiting (length waiting)) symbols (behind-most (length waiting) (omega arith)) (omega arith) W.behind samples store place) ∙ L.left)

-- ---- by a schedule

-- at an entry: its symbol, and that its delays are within the store
pub record AtEntry (longest : List ℕ) (samples store : List ℤ) (place symbol : ℕ) : Type 0 where
  pub below : symbol < max_symbols
  pub among : symbol < length samples + length store
  pub room : place + get_or longest symbol 0 ≤ length store

module _ (schedule : Schedule) (samples store₀ : List ℤ) (R : StoreReady (netlist_in schedule.netlist.bytes.now) samples store₀) where
  abbrev operations : ℕ
  operations = schedule.netlist.head.operations

  abbrev symbols : ℕ
  symbols = length samples + operations

  abbrev longest : List ℕ
  longest = schedule.longest.now

  abbrev waiting : List ℕ
  waiting = schedule.waiting.now

  held : WaitingSymbols longest symbols waiting
  held = subst (λ (s : ℕ). WaitingSymbols longest s waiting) (sym (symbols-are_held schedule samples store₀ R)) schedule.waiting_held

  pub started : Left longest samples operations symbols store₀ store₀ operations 0
  started = left-all longest samples operations symbols store₀ (delays_room schedule samples store₀ R)

  module _ (j place : ℕ) (store : List ℤ) (L : Left longest samples operations symbols store₀ store place (behind_entry waiting j)) where
    module _ (h : j < length waiting) where
      abbrev symbol : ℕ
      symbol = get_or waiting j 0

      here : Left longest samples operations symbols store₀ store place symbol
      here = left-entry longest samples operations symbols store₀ waiting held store place j h L

      pub at-entry : AtEntry longest samples store place symbol
      at-entry = record {
        below = omega (arith, held.below j h, symbols-are_held schedule samples store₀ R, symbols_few schedule);
        among = omega (arith, held.below j h, delays_room schedule samples store₀ R, here.same);
        room = omega (arith, room_next longest samples operations symbols store₀ store place symbol here (held.below j h), here.same);
      }

      pub entry-next : (after : List ℤ) → after ≡ shifted_in store place (get_or longest symbol 0) (entry_at (samples ++ store) symbol)
          → Left longest samples operations symbols store₀ after (place + get_or longest symbol 0) (suc symbol)
      entry-next = left_next longest samples operations symbols store₀ store place symbol here (held.below j h)

    pub entries-all : j ≡ length waiting → store ≡ shifted_by longest samples store₀ operations 0 symbols
    entries-all e = left-last longest samples operations symbols store₀ waiting held store place (rw e at L)
