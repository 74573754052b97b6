-- The table of the places of delays, one symbol more at a time.
-- Assumes nothing.
use Prim.Native.Nat.{ℕ, suc, ◌+◌, ◌≤◌, ◌<◌}
use mathlib.Core.Path.{◌≡◌, sym, ap, ◌∙◌}
use mathlib.Core.List.{List}
use native.Mathlib.Omega.{arith}
use lib.ListN.{length, get_or, set, length-set}
use Rattle.limits.specs.Limits.{max_symbols}
use Rattle.layout_rules.specs.Records.{Netlist}
use Rattle.layout_rules.specs.declared.Head.{Head}
use Rattle.layout_rules.specs.Places.{head_at, operation_at, netlist_in}
use Rattle.layout_rules.proofs.FirstRecords.{length-first}
use Rattle.netlist_read.specs.Tables.{NetlistRead}
use Rattle.netlist_read.proofs.NetlistLaws.{head-limits}
use Rattle.clock_rules.specs.Tables.{most_registers, LongestHeld, PlacesHeld}
use Rattle.clock_rules.proofs.InBytes.{symbols-are, places_below, registers_bound}
use Rattle.clock_delays.proofs.Entered.{n-is, operations-are}
use Rattle.clock_rules.specs.Delays.{symbols, registers, longest_delay, delays_below, delay_place}
use Rattle.clock_rules.proofs.TableLaws.{Below, below_next}

-- the places of the symbols below one
pub record PlacesTo (net : Netlist) (count : ℕ) (table : List ℕ) : Type 0 where
  pub room : length table ≡ max_symbols
  pub held : Below 0 table (delay_place net) count

module _ (net : Netlist) where
  pub places_started : (table : List ℕ) → length table ≡ max_symbols → PlacesTo net 0 table
  places_started table room = record { room = room; held = λ symbol h. absurd (omega arith) }

  -- the delays of the first symbol stand behind the operations' registers
  pub first-place : delay_place net 0 ≡ length net.operations
  unfolding delays_below
  first-place = omega arith

  module _ (count at : ℕ) (here : at ≡ delay_place net count) where
    pub places_next : (table : List ℕ) → PlacesTo net count table → count < max_symbols → PlacesTo net (suc count) (set table count at)
    places_next table P few = record {
      room = length-set table count at ∙ P.room;
      held = below_next 0 table (delay_place net) count at (omega (arith, P.room)) here P.held;
    }

    pub place_next : (longest : ℕ) → longest ≡ longest_delay net count → at + longest ≡ delay_place net (suc count)
    unfolding delays_below
    place_next longest e = omega arith

-- of the netlist in bytes whose head is read
module _ (b : List ℕ) (N : NetlistRead b) (h : Head) (e : h ≡ head_at b) where
  abbrev net : Netlist
  net = netlist_in b

  pub start_place : (operations : ℕ) → operations ≡ h.operations → operations ≡ delay_place net 0
  start_place operations d = d ∙ operations-are b N h e ∙ sym (length-first (operation_at b) (head_at b).operations) ∙ sym (first-place net)

  all-symbols : h.n + h.operations ≡ symbols net
  all-symbols = omega (arith, n-is b N h e, operations-are b N h e, symbols-are b)

  module _ (longest : List ℕ) (L : LongestHeld net longest) (symbol at : ℕ) (inside : symbol < h.n + h.operations) (here : at ≡ delay_place net symbol) where
    pub next-place : at + get_or longest symbol 0 ≡ delay_place net (suc symbol)
    next-place = place_next net symbol at here (get_or longest symbol 0) (L.held symbol (omega (arith, all-symbols)))

    pub next-small : at + get_or longest symbol 0 ≤ most_registers
    next-small = omega (arith, next-place, places_below b (suc symbol) (omega (arith, all-symbols)), registers_bound b (head-limits b N).few (head-limits b N).limits.columns-most)

  pub places-all : (count at : ℕ) (table : List ℕ) → count ≡ h.n + h.operations → at ≡ delay_place net count → PlacesTo net count table → (at ≡ registers net) × PlacesHeld net table
  places-all count at table all here P =
      (here ∙ ap (delay_place net) (all ∙ all-symbols), record { room = P.room; held = λ symbol s. P.held symbol (omega (arith, all-symbols)) })
