-- What the registers hold: a symbol's value at a clock is the board machine's entry on the vector that came so many clocks before as the
-- symbol is deep.
-- Assumes nothing.
use Prim.Native.Nat.{ℕ, zero, suc, ◌+◌, ◌-◌, ◌≤◌, ◌<◌}
use mathlib.Core.Path.{◌≡◌, refl, sym, ◌∙◌, ap, subst}
use mathlib.Core.List.{List, [], ◌∷◌, ◌++◌, map}
use native.Mathlib.Omega.{arith}
use native.Mathlib.Decide.{dec_lt}
use lib.IntN.{ℤ, pos, neg_ℤ, *ℤ-zero}
use lib.ListN.{length, get_or, drop, replicate, length-replicate, get_or-replicate, get_or-append}
use lib.Seq.{get_or-append-add}
use Rattle.layout_rules.specs.declared.Operation.{Operation}
use Rattle.layout_rules.specs.declared.Output.{Output}
use Rattle.layout_rules.specs.Records.{Netlist}
use Rattle.board_rules.specs.Machine.{entry_at, shifted, with_sign, machine, Earlier, output_value, times, entry_form, output_form}
use Rattle.board_rules.proofs.MachineLaws.{machine_keeps, Follows, machine_follows}
use Rattle.board_rules.proofs.FormLaws.{entry_times, output-times}
use Rattle.clock_rules.specs.declared.Delay.{Delay}
use Rattle.clock_rules.specs.Delays.{symbols, symbol_depth, netlist_depth, operand_delay, output_delay, delay_by, unless_zero, operand_delays, output_delays, longest_delay, registers, delay_place}
use Rattle.clock_rules.specs.Clocked.{delayed, present_output, operations_after, edge, cleared}
use Rattle.clock_rules.specs.Pipelined.{Vectors}
use Rattle.clock_rules.proofs.Depths.{DepthsFollow, depth-most, input-depth, symbol-depths_follow, operation-depth-least}
use Rattle.clock_rules.proofs.DelayLaws.{Covered, operands_covered, delays-below_next, edge-operation, edge_delay}

-- ---- zeros

abbrev pub zeros : ℕ → List ℤ
zeros n = replicate n (pos 0)

times-zeros : (cs : List ℤ) (n : ℕ) → times cs (zeros n) ≡ pos 0
unfolding times
times-zeros [] n = refl
times-zeros (c ∷ cs) zero = refl
times-zeros (c ∷ cs) (suc n) = rw (*ℤ-zero c, times-zeros cs n) refl

-- on a vector of zeros every entry and every output of the board machine is zero
pub machine-zeros : (n : ℕ) (os : List Operation) (symbol : ℕ) → entry_at (machine (zeros n) os) symbol ≡ pos 0
machine-zeros n os symbol = entry_times n os symbol (zeros n) (length-replicate n (pos 0)) ∙ times-zeros (entry_form n os symbol) n

pub output-zeros : (n : ℕ) (os : List Operation) (o : Output) → output_value (machine (zeros n) os) o ≡ pos 0
output-zeros n os o = output-times n os o (zeros n) (length-replicate n (pos 0)) ∙ times-zeros (output_form n os o) n

-- ---- vectors that came before, newest first

-- the vector of so many clocks before, or zeros where there was none
abbrev pub vector_before : ℕ → List (List ℤ) → ℕ → List ℤ
vector_before n past clocks = get_or past clocks (zeros n)

length_before : (n : ℕ) (past : List (List ℤ)) → Vectors n past → (clocks : ℕ) → length (vector_before n past clocks) ≡ n
length_before n [] v clocks = length-replicate n (pos 0)
length_before n (xs ∷ past) v zero = v.0
length_before n (xs ∷ past) v (suc clocks) = length_before n past v.1 clocks

-- outputs of the symbols of a netlist, of which there are so many
abbrev pub Among : ℕ → List Output → Type 0
Among count [] = Unit {0}
Among count (o ∷ os) = (o.symbol < count) × Among count os

module _ (net : Netlist) where
  -- a symbol's entry on the vector of so many clocks before
  abbrev pub entry_before : List (List ℤ) → ℕ → ℕ → ℤ
  entry_before past clocks symbol = entry_at (machine (vector_before net.head.n past clocks) net.operations) symbol

  -- before a clock the store holds what the vectors of the past left there, of which the newest came one clock ago
  pub record StoreHolds (past : List (List ℤ)) (store : List ℤ) : Type 0 where
    pub operation : (k : ℕ) → k < length net.operations
        → entry_at store k ≡ entry_before past (symbol_depth net (net.head.n + k) - 1) (net.head.n + k)
    pub delay : (symbol older : ℕ) → symbol < symbols net → older < longest_delay net symbol
        → entry_at store (delay_place net symbol + older) ≡ entry_before past (symbol_depth net symbol + older) symbol

  pub holds-cleared : (store : List ℤ) → StoreHolds [] (cleared net store)
  unfolding cleared
  holds-cleared store = record {
    operation = λ k h. entry_cleared k (omega arith) ∙ sym (machine-zeros net.head.n net.operations (net.head.n + k));
    delay = λ s i h j.
        entry_cleared (delay_place net s + i) (omega (arith, delays-below_next net s (symbols net) h))
        ∙ sym (machine-zeros net.head.n net.operations s);
  }
    where
      entry_cleared : (place : ℕ) → place < registers net → entry_at (cleared net store) place ≡ pos 0
      entry_cleared place h =
          get_or-append (zeros (registers net)) (drop (registers net) store) (pos 0) place (omega (arith, length-replicate (registers net) (pos 0)))
          ∙ get_or-replicate (registers net) place (pos 0) (pos 0) h

  module _ (earlier : Earlier net.head.n net.operations) (past : List (List ℤ)) (store : List ℤ) (holds : StoreHolds past store)
      (xs : List ℤ) (size : length xs ≡ net.head.n) where
    abbrev now : List (List ℤ)
    now = xs ∷ past

    present_operation : (k : ℕ) → k < length net.operations
        → entry_at (xs ++ store) (net.head.n + k) ≡ entry_before now (symbol_depth net (net.head.n + k)) (net.head.n + k)
    present_operation k h =
        let s : ℕ = net.head.n + k in
        let e : suc (symbol_depth net s - 1) ≡ symbol_depth net s = omega (arith, operation-depth-least net earlier k h) in
        ap (λ l. entry_at (xs ++ store) (l + k)) (sym size)
        ∙ get_or-append-add xs store k (pos 0)
        ∙ holds.operation k h
        ∙ ap (λ c. entry_before now c s) e

    -- a symbol's value in this clock
    present : (symbol : ℕ) → symbol < symbols net → entry_at (xs ++ store) symbol ≡ entry_before now (symbol_depth net symbol) symbol
    present symbol h = go (dec_lt symbol net.head.n)
      where
        go : Dec (symbol < net.head.n) → entry_at (xs ++ store) symbol ≡ entry_before now (symbol_depth net symbol) symbol
        go (yes l) =
            get_or-append xs store (pos 0) symbol (omega arith)
            ∙ sym (machine_keeps xs net.operations symbol (omega arith))
            ∙ ap (λ c. entry_before now c symbol) (sym (input-depth net symbol l))
        go (no l) =
            let e : net.head.n + (symbol - net.head.n) ≡ symbol = omega arith in
            rw e at (present_operation (symbol - net.head.n) (omega arith))

    -- a symbol's value so many clocks before, within its longest delay
    pub delayed-is : (symbol clocks : ℕ) → symbol < symbols net → clocks ≤ longest_delay net symbol
        → delayed net xs store symbol clocks ≡ entry_before now (symbol_depth net symbol + clocks) symbol
    delayed-is symbol zero h l = let e : symbol_depth net symbol + 0 ≡ symbol_depth net symbol = omega arith in rw e (present symbol h)
    delayed-is symbol (suc older) h l =
        let e : symbol_depth net symbol + suc older ≡ suc (symbol_depth net symbol + older) = omega arith in
        rw e (holds.delay symbol older h l)

    -- a value that is delayed until a later depth
    until : (symbol later : ℕ) → symbol < symbols net → symbol_depth net symbol ≤ later → later - symbol_depth net symbol ≤ longest_delay net symbol
        → delayed net xs store symbol (later - symbol_depth net symbol) ≡ entry_before now later symbol
    until symbol later h d l =
        let e : symbol_depth net symbol + (later - symbol_depth net symbol) ≡ later = omega arith in
        delayed-is symbol (later - symbol_depth net symbol) h l ∙ ap (λ c. entry_before now c symbol) e

    -- ---- the outputs of this clock

    module _ (o : Output) (among : o.symbol < symbols net) where
      output-is : (sign : ℕ) (ds : List Delay) → Covered (longest_delay net) (unless_zero sign (delay_by o.symbol (output_delay net o.symbol)) ++ ds)
          → (with_sign sign (shifted (delayed net xs store o.symbol (output_delay net o.symbol)) o.shift)
          ≡ with_sign sign (shifted (entry_before now (netlist_depth net) o.symbol) o.shift))
          × Covered (longest_delay net) ds
      output-is zero ds c = (ap (λ z. shifted z o.shift) (until o.symbol (netlist_depth net) among (depth-most net o.symbol) c.0), c.1)
      output-is (suc zero) ds c = (ap (λ z. neg_ℤ (shifted z o.shift)) (until o.symbol (netlist_depth net) among (depth-most net o.symbol) c.0), c.1)
      output-is (suc (suc _)) ds c = (refl, c)

    pub outputs-are : (os : List Output) → Among (symbols net) os → Covered (longest_delay net) (output_delays net os)
        → map (present_output net xs store) os ≡ map (output_value (machine (vector_before net.head.n now (netlist_depth net)) net.operations)) os
    unfolding output_delays
    outputs-are [] a c = refl
    outputs-are (o ∷ os) a c =
        let one = output-is o a.0 o.sign (output_delays net os) c in
        rw (one.0, outputs-are os a.1 one.1) refl

    -- ---- the store after the edge

    module _ (whole : Vectors net.head.n past) where
      operations-are : (symbol : ℕ) (os : List Operation) → symbol + length os ≡ symbols net → Earlier symbol os
          → DepthsFollow (symbol_depth net) symbol os → Covered (longest_delay net) (operand_delays net symbol os)
          → ((v : List ℤ) → length v ≡ net.head.n → Follows (entry_at (machine v net.operations)) symbol os)
          → (k : ℕ) → k < length os
          → entry_at (operations_after net xs store symbol os) k ≡ entry_before now (symbol_depth net (symbol + k) - 1) (symbol + k)
      unfolding operations_after operand_delays
      operations-are symbol [] n e d c f k h = absurd (omega arith)
      operations-are symbol (o ∷ os) n e d c f (suc k) h =
          let r : symbol + suc k ≡ suc symbol + k = omega arith in
          rw r (operations-are (suc symbol) os (omega arith) e.1 d.1 c.1.1 (λ v l. (f v l).1) k (omega arith))
      operations-are symbol (o ∷ os) n e d c f zero h =
          let r : symbol + 0 ≡ symbol = omega arith in
          let later : ℕ = symbol_depth net symbol - 1 in
          let v : List ℤ = vector_before net.head.n now later in
          let first : delayed net xs store o.a (operand_delay net symbol o.a) ≡ entry_before now later o.a =
          until o.a later (omega (arith, e.0.0)) (omega (arith, d.0)) c.0 in
          let second : delayed net xs store o.b (operand_delay net symbol o.b) ≡ entry_before now later o.b =
          until o.b later (omega (arith, e.0.1)) (omega (arith, d.0)) c.1.0 in
          rw (r, first, second) (sym (f v (length_before net.head.n now (size, whole) later)).0)

      pub holds-edge : StoreHolds now (edge net xs store)
      holds-edge = record {
        operation = λ k h.
            edge-operation net xs store k h
            ∙ operations-are net.head.n net.operations refl earlier (symbol-depths_follow net earlier) (operands_covered net)
            (λ v l. follows v l) k h;
        delay = λ s i h j. edge_delay net xs store s i h j ∙ delayed-is s i h (omega arith);
      }
        where
          follows : (v : List ℤ) → length v ≡ net.head.n → Follows (entry_at (machine v net.operations)) net.head.n net.operations
          follows v l =
              subst (λ s. Follows (entry_at (machine v net.operations)) s net.operations) l
              (machine_follows v net.operations (subst (λ s. Earlier s net.operations) (sym l) earlier))
