-- A symbol's longest delay is no shorter than any of its delays, and all registers of the store are those of the operations and of the delays.
-- Assumes nothing.
use Prim.Native.Nat.{ℕ, zero, suc, ◌+◌, ◌≤◌, ◌<◌}
use mathlib.Core.Path.{◌≡◌, refl, sym, ◌∙◌, ap}
use mathlib.Core.Bool.{Bool, true, false}
use mathlib.Core.Logic.{⊎_elim}
use mathlib.Core.List.{List, [], ◌∷◌, ◌++◌, append_assoc}
use native.Mathlib.Omega.{arith}
use lib.Dec.{eqb}
use lib.IntN.{ℤ, pos}
use lib.ListN.{length, drop, length-append, length-drop, get_or-append}
use lib.Seq.{drop_at, get_or-append-add}
use borrow.Author.Tests.{eq-eqb}
use Rattle.layout_rules.specs.declared.Operation.{Operation}
use Rattle.layout_rules.specs.Records.{Netlist}
use Rattle.board_rules.specs.Machine.{entry_at}
use Rattle.layout_rules.proofs.FirstRecords.{last_or_earlier, length-first, get_d_first}
use Rattle.clock_rules.specs.declared.Delay.{Delay}
use Rattle.clock_rules.specs.Delays.{symbols, operand_delays, output_delays, longest_of, longest_delay, delays_below, registers, delay_place}
use Rattle.clock_rules.specs.Clocked.{delayed, operations_after, symbol_after, delays_after, edge}

-- ---- longest delays

-- every delay is within a bound of its symbol
abbrev pub Covered : (ℕ → ℕ) → List Delay → Type 0
Covered bound [] = Unit {0}
Covered bound (d ∷ ds) = (d.clocks ≤ bound d.symbol) × Covered bound ds

covered_more : (low high : ℕ → ℕ) (ds : List Delay) → ((s : ℕ) → low s ≤ high s) → Covered low ds → Covered high ds
covered_more low high [] more c = tt
covered_more low high (d ∷ ds) more c = (omega (arith, more d.symbol, c.0), covered_more low high ds more c.1)

longest_covers : (ds : List Delay) → Covered (λ s. longest_of s ds) ds
unfolding longest_of
longest_covers [] = tt
longest_covers (d ∷ ds) = (own, covered_more (λ s. longest_of s ds) (λ s. longest_of s (d ∷ ds)) ds more (longest_covers ds))
  where
    own : d.clocks ≤ longest_of d.symbol (d ∷ ds)
    own = rw (longest_of, eq-eqb d.symbol d.symbol refl) (omega arith)

    more : (s : ℕ) → longest_of s ds ≤ longest_of s (d ∷ ds)
    more s = go (eqb d.symbol s) refl
      where
        go : (b : Bool) → eqb d.symbol s ≡ b → longest_of s ds ≤ longest_of s (d ∷ ds)
        go true e = rw (longest_of, e) (omega arith)
        go false e = rw (longest_of, e) (omega arith)

pub covered_split : (bound : ℕ → ℕ) (ds es : List Delay) → Covered bound (ds ++ es) → Covered bound ds × Covered bound es
covered_split bound [] es c = (tt, c)
covered_split bound (d ∷ ds) es c = let rest = covered_split bound ds es c.1 in ((c.0, rest.0), rest.1)

module _ (net : Netlist) where
  longest_covers_all : Covered (longest_delay net) (operand_delays net net.head.n net.operations) × Covered (longest_delay net) (output_delays net net.outputs)
  unfolding longest_delay
  longest_covers_all =
      let ds = operand_delays net net.head.n net.operations in
      let es = output_delays net net.outputs in
      covered_split (longest_delay net) ds es (longest_covers (ds ++ es))

  pub operands_covered : Covered (longest_delay net) (operand_delays net net.head.n net.operations)
  operands_covered = longest_covers_all.0

  pub outputs_covered : Covered (longest_delay net) (output_delays net net.outputs)
  outputs_covered = longest_covers_all.1

  -- the delays of a symbol stand before those of the next
  pub delays-below_next : (symbol count : ℕ) → symbol < count → delays_below net symbol + longest_delay net symbol ≤ delays_below net count
  unfolding delays_below
  delays-below_next symbol zero h = absurd (omega arith)
  delays-below_next symbol (suc count) h =
      ⊎_elim (λ l. omega (arith, delays-below_next symbol count l)) (λ e. rw e (omega arith)) (last_or_earlier symbol count h)

  -- ---- the store after the edge, register by register

  module _ (xs store : List ℤ) where
    pub length-operations-after : (symbol : ℕ) (os : List Operation) → length (operations_after net xs store symbol os) ≡ length os
    unfolding operations_after
    length-operations-after symbol [] = refl
    length-operations-after symbol (o ∷ os) = ap suc (length-operations-after (suc symbol) os)

    pub length-delays-after : (symbol : ℕ) → length (delays_after net xs store symbol) ≡ delays_below net symbol
    unfolding delays_after delays_below
    length-delays-after zero = refl
    length-delays-after (suc symbol) =
        length-append (delays_after net xs store symbol) (symbol_after net xs store symbol)
        ∙ omega (arith, length-delays-after symbol, length-first (delayed net xs store symbol) (longest_delay net symbol))

    delays-after_at : (count symbol older : ℕ) → symbol < count → older < longest_delay net symbol
        → entry_at (delays_after net xs store count) (delays_below net symbol + older) ≡ delayed net xs store symbol older
    unfolding delays_after delays_below
    delays-after_at zero symbol older h i = absurd (omega arith)
    delays-after_at (suc count) symbol older h i =
        ⊎_elim (λ l. earlier l (delays-after_at count symbol older l i)) (λ e. rw e (last (rw e at i))) (last_or_earlier symbol count h)
      where
        before : List ℤ
        before = delays_after net xs store count

        earlier : symbol < count → entry_at before (delays_below net symbol + older) ≡ delayed net xs store symbol older
            → entry_at (delays_after net xs store (suc count)) (delays_below net symbol + older) ≡ delayed net xs store symbol older
        earlier l e =
            get_or-append before (symbol_after net xs store count) (pos 0) (delays_below net symbol + older)
            (omega (arith, length-delays-after count, delays-below_next symbol count l)) ∙ e

        last : older < longest_delay net count → entry_at (delays_after net xs store (suc count)) (delays_below net count + older) ≡ delayed net xs store count older
        last j =
            ap (λ n. entry_at (before ++ symbol_after net xs store count) (n + older)) (sym (length-delays-after count))
            ∙ get_or-append-add before (symbol_after net xs store count) older (pos 0)
            ∙ get_d_first (delayed net xs store count) (longest_delay net count) older (pos 0) j

    abbrev operations_then : List ℤ
    operations_then = operations_after net xs store net.head.n net.operations

    abbrev delays_then : List ℤ
    delays_then = delays_after net xs store (symbols net)

    length_then : length (operations_then ++ delays_then) ≡ registers net
    length_then =
        length-append operations_then delays_then
        ∙ omega (arith, length-operations-after net.head.n net.operations, length-delays-after (symbols net))

    -- the store is as long as before, and the rest of it as it was
    pub length-edge : registers net ≤ length store → length (edge net xs store) ≡ length store
    unfolding edge
    length-edge room =
        ap length (sym (append_assoc operations_then delays_then (drop (registers net) store)))
        ∙ length-append (operations_then ++ delays_then) (drop (registers net) store)
        ∙ omega (arith, length_then, length-drop (registers net) store)

    pub edge-rest : drop (registers net) (edge net xs store) ≡ drop (registers net) store
    unfolding edge
    edge-rest =
        ap (drop (registers net)) (sym (append_assoc operations_then delays_then (drop (registers net) store)))
        ∙ drop_at (operations_then ++ delays_then) (drop (registers net) store) (registers net) length_then

    -- an operation's register takes over what the operation makes of its delayed operands
    pub edge-operation : (k : ℕ) → k < length net.operations → entry_at (edge net xs store) k ≡ entry_at operations_then k
    unfolding edge
    edge-operation k h =
        get_or-append operations_then (delays_then ++ drop (registers net) store) (pos 0) k
        (omega (arith, length-operations-after net.head.n net.operations))

    -- a delay takes over the value that was one clock newer
    pub edge_delay : (symbol older : ℕ) → symbol < symbols net → older < longest_delay net symbol
        → entry_at (edge net xs store) (delay_place net symbol + older) ≡ delayed net xs store symbol older
    unfolding edge
    edge_delay symbol older h i =
        let below : ℕ = delays_below net symbol + older in
        let place : length net.operations + delays_below net symbol + older ≡ length operations_then + below =
        omega (arith, length-operations-after net.head.n net.operations) in
        ap (λ p. entry_at (operations_then ++ (delays_then ++ drop (registers net) store)) p) place
        ∙ get_or-append-add operations_then (delays_then ++ drop (registers net) store) below (pos 0)
        ∙ get_or-append delays_then (drop (registers net) store) (pos 0) below
        (omega (arith, length-delays-after (symbols net), delays-below_next symbol (symbols net) h))
        ∙ delays-after_at (symbols net) symbol older h i
