-- The clocked form of the netlist in bytes, record by record: which delays each operation and each output adds, and that where a program
-- reads a value is within the registers. Operands being earlier is all that is asked of the netlist.
-- Assumes nothing.
use Prim.Native.Nat.{ℕ, zero, suc, ◌+◌, ◌≤◌, ◌<◌, max}
use mathlib.Core.Path.{◌≡◌, refl, sym, ◌∙◌, ap, subst}
use mathlib.Core.Logic.{⊎_elim}
use mathlib.Core.List.{List, [], ◌∷◌, ◌++◌, append_assoc, append-nil}
use native.Mathlib.Omega.{arith}
use lib.IntN.{ℤ, pos}
use lib.ListN.{length, get_or, set, drop, length-set}
use lib.Seq.{get_or-take, get_or-append-add}
use Rattle.limits.specs.Limits.{max_columns, max_operations, max_symbols}
use Rattle.layout_rules.specs.declared.Operation.{Operation}
use Rattle.layout_rules.specs.declared.Output.{Output}
use Rattle.layout_rules.specs.Records.{Netlist}
use Rattle.layout_rules.specs.Places.{head_at, operation_at, output_at, first_records, first_operations, first_outputs, operations_in, outputs_in, netlist_in}
use Rattle.layout_rules.proofs.FirstRecords.{last_or_earlier, length-first, first_split}
use Rattle.board_rules.specs.Machine.{entry_at, Earlier}
use Rattle.board_rules.specs.Table.{HoldsDepths}
use Rattle.clock_rules.specs.declared.Delay.{Delay}
use Rattle.clock_rules.specs.Delays.{symbols, symbol_depth, operand_delay, output_delay, delay_by, operand_delays, unless_zero, output_delays, longest_delay, registers, delay_place}
use Rattle.clock_rules.specs.Clocked.{delayed, clocked_value, operations_after}
use Rattle.clock_rules.specs.InPlace.{source}
use Rattle.clock_rules.specs.Tables.{most_registers, SymbolDepths, entered}
use Rattle.clock_rules.proofs.Depths.{DepthsFollow, symbol-depths_follow}
use Rattle.clock_rules.proofs.DelayLaws.{Covered, covered_split, operands_covered, outputs_covered, delays-below_next}
use Rattle.clock_rules.proofs.LongestTable.{registers-few}

-- ---- one more record

module _ (net : Netlist) where
  -- the delays of one more operation, behind those before it
  operand-delays_snoc : (symbol : ℕ) (os : List Operation) (o : Operation)
      → operand_delays net symbol (os ++ (o ∷ []))
      ≡ operand_delays net symbol os ++ (delay_by o.a (operand_delay net (symbol + length os) o.a) ∷ delay_by o.b (operand_delay net (symbol + length os) o.b) ∷ [])
  unfolding operand_delays
  operand-delays_snoc symbol [] o = let e : symbol + 0 ≡ symbol = omega arith in rw e refl
  operand-delays_snoc symbol (p ∷ os) o =
      let e : symbol + suc (length os) ≡ suc symbol + length os = omega arith in
      rw (e, operand-delays_snoc (suc symbol) os o) refl

  output-delays_snoc : (os : List Output) (o : Output)
      → output_delays net (os ++ (o ∷ [])) ≡ output_delays net os ++ unless_zero o.sign (delay_by o.symbol (output_delay net o.symbol))
  unfolding output_delays
  output-delays_snoc [] o = append-nil (unless_zero o.sign (delay_by o.symbol (output_delay net o.symbol)))
  output-delays_snoc (p ∷ os) o =
      let first : List Delay = unless_zero p.sign (delay_by p.symbol (output_delay net p.symbol)) in
      ap (λ l. first ++ l) (output-delays_snoc os o)
      ∙ sym (append_assoc first (output_delays net os) (unless_zero o.sign (delay_by o.symbol (output_delay net o.symbol))))

  operations-after_snoc : (xs store : List ℤ) (symbol : ℕ) (os : List Operation) (o : Operation)
      → operations_after net xs store symbol (os ++ (o ∷ [])) ≡ operations_after net xs store symbol os ++ (clocked_value net xs store (symbol + length os) o ∷ [])
  unfolding operations_after
  operations-after_snoc xs store symbol [] o = let e : symbol + 0 ≡ symbol = omega arith in rw e refl
  operations-after_snoc xs store symbol (p ∷ os) o =
      let e : symbol + suc (length os) ≡ suc symbol + length os = omega arith in
      rw (e, operations-after_snoc xs store (suc symbol) os o) refl

  -- ---- a record among others

  operands_at : (bound : ℕ → ℕ) (symbol : ℕ) (before after : List Operation) (o : Operation) → Covered bound (operand_delays net symbol (before ++ o ∷ after))
      → (operand_delay net (symbol + length before) o.a ≤ bound o.a) × (operand_delay net (symbol + length before) o.b ≤ bound o.b)
  unfolding operand_delays
  operands_at bound symbol [] after o c = let e : symbol + 0 ≡ symbol = omega arith in rw e (c.0, c.1.0)
  operands_at bound symbol (p ∷ before) after o c =
      let e : symbol + suc (length before) ≡ suc symbol + length before = omega arith in
      rw e (operands_at bound (suc symbol) before after o c.1.1)

  output_at_lem : (bound : ℕ → ℕ) (before after : List Output) (o : Output) → o.sign ≤ 1 → Covered bound (output_delays net (before ++ o ∷ after))
      → output_delay net o.symbol ≤ bound o.symbol
  unfolding output_delays
  output_at_lem bound [] after o h c = go o.sign h (covered_split bound (unless_zero o.sign (delay_by o.symbol (output_delay net o.symbol))) (output_delays net after) c).0
    where
      go : (sign : ℕ) → sign ≤ 1 → Covered bound (unless_zero sign (delay_by o.symbol (output_delay net o.symbol))) → output_delay net o.symbol ≤ bound o.symbol
      go zero l d = d.0
      go (suc zero) l d = d.0
      go (suc (suc _)) l d = absurd (omega arith)
  output_at_lem bound (p ∷ before) after o h c =
      output_at_lem bound before after o h
      (covered_split bound (unless_zero p.sign (delay_by p.symbol (output_delay net p.symbol))) (output_delays net (before ++ o ∷ after)) c).1

follow_at : (d : ℕ → ℕ) (symbol : ℕ) (before after : List Operation) (o : Operation) → DepthsFollow d symbol (before ++ o ∷ after)
    → d (symbol + length before) ≡ suc (max (d o.a) (d o.b))
follow_at d symbol [] after o f = let e : symbol + 0 ≡ symbol = omega arith in rw e f.0
follow_at d symbol (p ∷ before) after o f =
    let e : symbol + suc (length before) ≡ suc symbol + length before = omega arith in
    rw e (follow_at d (suc symbol) before after o f.1)

-- ---- the table of longest delays

pub length-entered : (table : List ℕ) (ds : List Delay) → length (entered table ds) ≡ length table
unfolding entered
length-entered table [] = refl
length-entered table (d ∷ ds) =
    let longer : ℕ = max (get_or table d.symbol 0) d.clocks in
    length-entered (set table d.symbol longer) ds ∙ length-set table d.symbol longer

pub entered-append : (ds es : List Delay) (table : List ℕ) → entered table (ds ++ es) ≡ entered (entered table ds) es
unfolding entered
entered-append [] es table = refl
entered-append (d ∷ ds) es table = entered-append ds es (set table d.symbol (max (get_or table d.symbol 0) d.clocks))

-- ---- the records in bytes

module _ (bytes : List ℕ) where
  abbrev net : Netlist
  net = netlist_in bytes

  abbrev n : ℕ
  n = (head_at bytes).n

  abbrev q : ℕ
  q = (head_at bytes).operations

  abbrev o : ℕ → Operation
  o k = operation_at bytes k

  -- so many symbols: inputs and operations
  pub symbols-are : symbols net ≡ n + q
  symbols-are = ap (λ k. n + k) (length-first (operation_at bytes) q)

  pub held-depths : (table : List ℕ) → HoldsDepths n (operations_in bytes) table → SymbolDepths net table
  unfolding symbol_depth
  held-depths table H = record {
    room = H.room;
    held = λ symbol h. sym (get_or-take (n + length (operations_in bytes)) table symbol 0 h) ∙ ap (λ l. get_or l symbol 0) H.held;
  }

  pub operand-delays_next : (k : ℕ) → operand_delays net n (first_operations bytes (suc k))
      ≡ operand_delays net n (first_operations bytes k) ++ (delay_by (o k).a (operand_delay net (n + k) (o k).a) ∷ delay_by (o k).b (operand_delay net (n + k) (o k).b) ∷ [])
  unfolding first_records
  operand-delays_next k =
      subst (λ j. operand_delays net n (first_operations bytes (suc k)) ≡ operand_delays net n (first_operations bytes k)
      ++ (delay_by (o k).a (operand_delay net (n + j) (o k).a) ∷ delay_by (o k).b (operand_delay net (n + j) (o k).b) ∷ []))
      (length-first (operation_at bytes) k) (operand-delays_snoc net n (first_operations bytes k) (o k))

  pub output-delays_next : (operations i : ℕ) → output_delays net (first_outputs bytes operations (suc i))
      ≡ output_delays net (first_outputs bytes operations i)
      ++ unless_zero (output_at bytes operations i).sign (delay_by (output_at bytes operations i).symbol (output_delay net (output_at bytes operations i).symbol))
  unfolding first_records
  output-delays_next operations i = output-delays_snoc net (first_outputs bytes operations i) (output_at bytes operations i)

  -- the operations' registers after an edge, one by one
  module _ (xs store : List ℤ) where
    abbrev value : ℕ → ℤ
    value k = clocked_value net xs store (n + k) (o k)

    after_first : (k : ℕ) → operations_after net xs store n (first_operations bytes k) ≡ first_records value k
    unfolding first_records operations_after
    after_first zero = refl
    after_first (suc k) =
        operations-after_snoc net xs store n (first_operations bytes k) (o k)
        ∙ ap (λ j. operations_after net xs store n (first_operations bytes k) ++ (clocked_value net xs store (n + j) (o k) ∷ [])) (length-first (operation_at bytes) k)
        ∙ ap (λ l. l ++ (value k ∷ [])) (after_first k)

    pub operations-after-first : operations_after net xs store n (operations_in bytes) ≡ first_records value q
    operations-after-first = after_first q

  -- operands stand below their operations: record by record, and as one fact
  pub earlier_in : ((k : ℕ) → k < q → ((o k).a < n + k) × ((o k).b < n + k)) → Earlier n (operations_in bytes)
  unfolding first_records
  earlier_in each = go q (omega arith)
    where
      earlier_snoc : (s : ℕ) (os : List Operation) (p : Operation) → Earlier s os → (p.a < s + length os) × (p.b < s + length os) → Earlier s (os ++ (p ∷ []))
      earlier_snoc s [] p e h = let z : s + 0 ≡ s = omega arith in (rw z at h, tt)
      earlier_snoc s (x ∷ os) p e h = let z : s + suc (length os) ≡ suc s + length os = omega arith in (e.0, earlier_snoc (suc s) os p e.1 (rw z at h))

      go : (k : ℕ) → k ≤ q → Earlier n (first_operations bytes k)
      go zero h = tt
      go (suc k) h =
          earlier_snoc n (first_operations bytes k) (o k) (go k (omega arith))
          (subst (λ j. ((o k).a < n + j) × ((o k).b < n + j)) (sym (length-first (operation_at bytes) k)) (each k (omega arith)))

  -- a delay is no longer than its symbol's longest
  module _ (k : ℕ) (h : k < q) where
    abbrev behind : List Operation
    behind = drop (suc k) (operations_in bytes)

    operands_covered_at : (operand_delay net (n + k) (o k).a ≤ longest_delay net (o k).a) × (operand_delay net (n + k) (o k).b ≤ longest_delay net (o k).b)
    operands_covered_at =
        subst (λ j. (operand_delay net (n + j) (o k).a ≤ longest_delay net (o k).a) × (operand_delay net (n + j) (o k).b ≤ longest_delay net (o k).b))
        (length-first (operation_at bytes) k)
        (operands_at net (longest_delay net) n (first_operations bytes k) behind (o k)
        (subst (λ os. Covered (longest_delay net) (operand_delays net n os)) (first_split (operation_at bytes) q k h) (operands_covered net)))

    pub first_covered : operand_delay net (n + k) (o k).a ≤ longest_delay net (o k).a
    first_covered = operands_covered_at.0

    pub second_covered : operand_delay net (n + k) (o k).b ≤ longest_delay net (o k).b
    second_covered = operands_covered_at.1

    -- an operation is deeper than its operands
    module _ (earlier : Earlier n (operations_in bytes)) where
      depth_at : symbol_depth net (n + k) ≡ suc (max (symbol_depth net (o k).a) (symbol_depth net (o k).b))
      depth_at =
          subst (λ j. symbol_depth net (n + j) ≡ suc (max (symbol_depth net (o k).a) (symbol_depth net (o k).b))) (length-first (operation_at bytes) k)
          (follow_at (symbol_depth net) n (first_operations bytes k) behind (o k)
          (subst (DepthsFollow (symbol_depth net) n) (first_split (operation_at bytes) q k h) (symbol-depths_follow net earlier)))

      pub first-shallower : symbol_depth net (o k).a < symbol_depth net (n + k)
      first-shallower = omega (arith, depth_at)

      pub second-shallower : symbol_depth net (o k).b < symbol_depth net (n + k)
      second-shallower = omega (arith, depth_at)

  pub output_covered : (i : ℕ) → i < (head_at bytes).m → (output_at bytes q i).sign ≤ 1
      → output_delay net (output_at bytes q i).symbol ≤ longest_delay net (output_at bytes q i).symbol
  output_covered i h =
      let count : length (operations_in bytes) ≡ q = length-first (operation_at bytes) q in
      subst (λ k. (output_at bytes k i).sign ≤ 1 → output_delay net (output_at bytes k i).symbol ≤ longest_delay net (output_at bytes k i).symbol) count
      (λ s. output_at_lem net (longest_delay net) (first_outputs bytes (length (operations_in bytes)) i) (drop (suc i) (outputs_in bytes)) (output_at bytes (length (operations_in bytes)) i) s
      (subst (λ os. Covered (longest_delay net) (output_delays net os)) (first_split (output_at bytes (length (operations_in bytes))) (head_at bytes).m i h) (outputs_covered net)))

  -- ---- where a program reads

  pub source-read : (xs store : List ℤ) → length xs ≡ n → (symbol clocks : ℕ) → entry_at (xs ++ store) (source net symbol clocks) ≡ delayed net xs store symbol clocks
  source-read xs store l symbol zero = refl
  source-read xs store l symbol (suc older) =
      ap (λ j. entry_at (xs ++ store) (j + (delay_place net symbol + older))) (sym l) ∙ get_or-append-add xs store (delay_place net symbol + older) (pos 0)

  pub places_below : (symbol : ℕ) → symbol ≤ symbols net → delay_place net symbol ≤ registers net
  places_below symbol h = ⊎_elim
      (λ l. omega (arith, delays-below_next net symbol (symbols net) l))
      (λ e. rw e (omega arith))
      (last_or_earlier symbol (symbols net) (omega arith))

  pub source-within : (symbol clocks : ℕ) → symbol < symbols net → clocks ≤ longest_delay net symbol → source net symbol clocks < n + registers net
  source-within symbol zero h c = omega arith
  source-within symbol (suc older) h c = omega (arith, delays-below_next net symbol (symbols net) h)

  module _ (few : q ≤ max_operations) (narrow : n ≤ max_columns) where
    pub registers_bound : registers net ≤ most_registers
    registers_bound =
        registers-few net max_operations max_symbols (omega (arith, length-first (operation_at bytes) q)) (omega (arith, symbols-are))

    pub delay_bound : (symbol clocks : ℕ) → symbol < symbols net → clocks ≤ longest_delay net symbol → delay_place net symbol + clocks ≤ most_registers
    delay_bound symbol clocks h c = omega (arith, delays-below_next net symbol (symbols net) h, registers_bound)
