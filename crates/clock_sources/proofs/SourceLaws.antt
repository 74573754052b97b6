-- Where the operands and outputs of a netlist with its depths are read: what the table of the places of delays says of a delay, and the
-- tables, filled one by one.
-- Assumes nothing.
use Prim.Native.Nat.{ℕ, zero, suc, ◌+◌, ◌≤◌, ◌<◌}
use mathlib.Core.Path.{◌≡◌, refl, sym, ap, ap₂, ◌∙◌, subst}
use mathlib.Core.List.{List}
use native.Mathlib.Omega.{arith}
use lib.ListN.{length, get_or, set, length-set}
use Rattle.limits.specs.Limits.{max_rows, max_columns, max_operations, max_symbols}
use Rattle.layout_rules.specs.declared.Head.{Head}
use Rattle.layout_rules.specs.declared.Output.{Output}
use Rattle.layout_rules.specs.Records.{Netlist}
use Rattle.layout_rules.specs.Places.{head_at, operation_at, output_at, netlist_in}
use Rattle.netlist_read.specs.Tables.{NetlistRead}
use Rattle.netlist_read.proofs.NetlistLaws.{head-limits, operation-there, output-there}
use Rattle.clock_rules.specs.declared.Delay.{Delay}
use Rattle.clock_rules.specs.declared.Operands.{Operands}
use Rattle.clock_rules.specs.Delays.{symbols, output_delay, longest_delay, clocks_by_sign, first_delay, second_delay, delay_of_output}
use Rattle.clock_rules.specs.InPlace.{source_at, source, source_by_sign, output_source}
use Rattle.clock_rules.specs.Tables.{most_registers, PlacesHeld, no_operands, operands_of, OperandSources, OutputsHeld}
use Rattle.clock_rules.proofs.TableLaws.{Below, below_next}
use Rattle.clock_rules.proofs.InBytes.{symbols-are, first_covered, second_covered, output_covered, delay_bound}
use Rattle.clock_delays.specs.declared.depths.NetlistDepths.{NetlistDepths}
use Rattle.clock_delays.proofs.Entered.{n-is, operations-are, symbols-few}

-- ---- one after another

-- where the operands of the operations before k are read
pub record OperandsBefore (bytes : List ℕ) (k : ℕ) (operands : List Operands) : Type 0 where
  pub room : length operands ≡ max_operations
  pub held : Below no_operands operands (λ j. operands_of (netlist_in bytes) ((head_at bytes).n + j) (operation_at bytes j)) k

-- and the outputs before i
pub record OutputsBefore (bytes : List ℕ) (i : ℕ) (sources : List ℕ) : Type 0 where
  pub room : length sources ≡ max_rows
  pub output : Below 0 sources (λ j. output_source (netlist_in bytes) (output_at bytes (head_at bytes).operations j)) i

-- ---- a delay

-- where a delayed value is read, by a table of the places of delays: what is asked to work it out, and that this is right
pub record DelayKnown (net : Netlist) (places : List ℕ) (n : ℕ) (d : Delay) : Type 0 where
  pub below : d.symbol < max_symbols
  pub narrow : n ≤ max_columns
  pub within : get_or places d.symbol 0 + d.clocks ≤ most_registers
  pub found : source_at n (get_or places d.symbol 0) d.symbol d.clocks ≡ source net d.symbol d.clocks

by_sign : (net : Netlist) (sign symbol : ℕ) → source net symbol (clocks_by_sign net sign symbol) ≡ source_by_sign net sign symbol
by_sign net zero symbol = refl
by_sign net (suc zero) symbol = refl
by_sign net (suc (suc sign)) symbol = refl

sign_covered : (net : Netlist) (sign symbol : ℕ) → (sign ≤ 1 → output_delay net symbol ≤ longest_delay net symbol) → clocks_by_sign net sign symbol ≤ longest_delay net symbol
sign_covered net zero symbol h = h (omega arith)
sign_covered net (suc zero) symbol h = h (omega arith)
sign_covered net (suc (suc sign)) symbol h = omega arith

module _ (b : List ℕ) (N : NetlistRead b) (h : Head) (e : h ≡ head_at b) (places : List ℕ) (P : PlacesHeld (netlist_in b) places) where
  abbrev net : Netlist
  net = netlist_in b

  known : (d : Delay) → d.symbol < symbols net → d.clocks ≤ longest_delay net d.symbol → DelayKnown net places h.n d
  known d there c = record {
    below = omega (arith, there, symbols-are b, symbols-few b N);
    narrow = omega (arith, n-is b N h e, (head-limits b N).limits.columns-most);
    within = omega (arith, P.held d.symbol there, delay_bound b (head-limits b N).few (head-limits b N).limits.columns-most d.symbol d.clocks there c);
    found = ap₂ (λ (n place : ℕ). source_at n place d.symbol d.clocks) (n-is b N h e) (P.held d.symbol there);
  }

  -- both operands of operation k
  module _ (k : ℕ) (l : k < h.operations) where
    inside : k < (head_at b).operations
    inside = omega (arith, operations-are b N h e)

    first_there : (operation_at b k).a < symbols net
    first_there = omega (arith, (operation-there b N k inside).1.first_earlier, symbols-are b, inside)

    pub first_known : (d : Delay) → d ≡ first_delay net (h.n + k) (operation_at b k) → DelayKnown net places h.n d
    first_known d r = subst (DelayKnown net places h.n) (sym (r ∙ ap (λ (n : ℕ). first_delay net (n + k) (operation_at b k)) (n-is b N h e)))
        (known (first_delay net ((head_at b).n + k) (operation_at b k)) first_there (first_covered b k inside))

    second_there : (operation_at b k).b < symbols net
    second_there = omega (arith, (operation-there b N k inside).1.second_earlier, symbols-are b, inside)

    pub second_known : (d : Delay) → d ≡ second_delay net (h.n + k) (operation_at b k) → DelayKnown net places h.n d
    second_known d r = subst (DelayKnown net places h.n) (sym (r ∙ ap (λ (n : ℕ). second_delay net (n + k) (operation_at b k)) (n-is b N h e)))
        (known (second_delay net ((head_at b).n + k) (operation_at b k)) second_there (second_covered b k inside))

    -- are entered
    pub operands_next : (first second : Delay) → first ≡ first_delay net (h.n + k) (operation_at b k) → second ≡ second_delay net (h.n + k) (operation_at b k)
        → (x y : ℕ) → x ≡ source_at h.n (get_or places first.symbol 0) first.symbol first.clocks → y ≡ source_at h.n (get_or places second.symbol 0) second.symbol second.clocks
        → (operands : List Operands) → OperandsBefore b k operands → OperandsBefore b (suc k) (set operands k (record { first = x; second = y }))
    operands_next first second r s x y f g operands B =
        let symbol = (head_at b).n + k in
        let o = operation_at b k in
        let n : h.n ≡ (head_at b).n = n-is b N h e in
        let first-is : x ≡ (operands_of net symbol o).first =
        f ∙ (first_known first r).found ∙ ap (λ (d : Delay). source net d.symbol d.clocks) (r ∙ ap (λ (m : ℕ). first_delay net (m + k) o) n) in
        let second-is : y ≡ (operands_of net symbol o).second =
        g ∙ (second_known second s).found ∙ ap (λ (d : Delay). source net d.symbol d.clocks) (s ∙ ap (λ (m : ℕ). second_delay net (m + k) o) n) in
        record {
          room = length-set operands k (record { first = x; second = y }) ∙ B.room;
          held = below_next no_operands operands (λ j. operands_of net ((head_at b).n + j) (operation_at b j)) k (record { first = x; second = y })
              (omega (arith, B.room, inside, (head-limits b N).few))
              (ap₂ (λ (v w : ℕ). record { first = v; second = w }) first-is second-is) B.held;
        }

  pub operands-started : (operands : List Operands) → length operands ≡ max_operations → OperandsBefore b 0 operands
  operands-started operands room = record { room = room; held = λ j l. absurd (omega arith) }

  pub operands-all : (k : ℕ) → k ≡ h.operations → (operands : List Operands) → OperandsBefore b k operands → OperandSources b operands
  operands-all k all operands B = record { room = B.room; held = λ j l. B.held j (omega (arith, operations-are b N h e)) }

  -- output i
  module _ (i : ℕ) (l : i < h.m) where
    row : i < (head_at b).m
    row = omega (arith, ap (λ (x : Head). x.m) e)

    abbrev o : Output
    o = output_at b (head_at b).operations i

    same : delay_of_output net (output_at b h.operations i) ≡ delay_of_output net o
    same = ap (λ (q : ℕ). delay_of_output net (output_at b q i)) (operations-are b N h e)

    output_here : o.symbol < symbols net
    output_here = omega (arith, symbols-are b, (output-there b N i row).1.operand.symbol)

    pub output_known : (d : Delay) → d ≡ delay_of_output net (output_at b h.operations i) → DelayKnown net places h.n d
    output_known d r = subst (DelayKnown net places h.n) (sym (r ∙ same))
        (known (delay_of_output net o) output_here (sign_covered net o.sign o.symbol (output_covered b i row)))

    pub outputs_next : (d : Delay) → d ≡ delay_of_output net (output_at b h.operations i)
        → (x : ℕ) → x ≡ source_at h.n (get_or places d.symbol 0) d.symbol d.clocks
        → (sources : List ℕ) → OutputsBefore b i sources → OutputsBefore b (suc i) (set sources i x)
    outputs_next d r x f sources B = record {
      room = length-set sources i x ∙ B.room;
      output = below_next 0 sources (λ j. output_source net (output_at b (head_at b).operations j)) i x
          (omega (arith, B.room, row, (head-limits b N).limits.rows-most))
          (f ∙ (output_known d r).found ∙ ap (λ (y : Delay). source net y.symbol y.clocks) (r ∙ same) ∙ by_sign net o.sign o.symbol) B.output;
    }

  pub outputs-all : (i : ℕ) → i ≡ h.m → (sources : List ℕ) → OutputsBefore b i sources → OutputsHeld b sources
  outputs-all i all sources B = record { room = B.room; output = λ j l. B.output j (omega (arith, ap (λ (x : Head). x.m) e)) }

-- ---- of a netlist with its depths

module _ (D : NetlistDepths) (places : List ℕ) (P : PlacesHeld (netlist_in D.netlist.bytes.now) places) where
  abbrev b : List ℕ
  b = D.netlist.bytes.now

  abbrev head : Head
  head = D.netlist.head

  pub first-of : (k : ℕ) → k < head.operations → (d : Delay) → d ≡ first_delay (netlist_in b) (head.n + k) (operation_at b k) → DelayKnown (netlist_in b) places head.n d
  first-of = first_known b D.netlist.read head D.netlist.head_read places P

  pub second-of : (k : ℕ) → k < head.operations → (d : Delay) → d ≡ second_delay (netlist_in b) (head.n + k) (operation_at b k) → DelayKnown (netlist_in b) places head.n d
  second-of = second_known b D.netlist.read head D.netlist.head_read places P

  pub output-of : (i : ℕ) → i < head.m → (d : Delay) → d ≡ delay_of_output (netlist_in b) (output_at b head.operations i) → DelayKnown (netlist_in b) places head.n d
  output-of = output_known b D.netlist.read head D.netlist.head_read places P
