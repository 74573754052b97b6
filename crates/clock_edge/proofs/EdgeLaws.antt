-- One clock of the netlist in bytes: values written one after another are those that are due, where an operand or an output is read stands
-- its delayed value, which does not wrap, and the parts of the edge make the edge.
-- Assumes nothing.
use Prim.Native.Nat.{ℕ, zero, suc, ◌+◌, ◌≤◌, ◌<◌}
use mathlib.Core.Path.{◌≡◌, refl, sym, ap, ap₂, ◌∙◌, subst}
use mathlib.Core.List.{List, [], ◌∷◌, ◌++◌, map, map-append}
use native.Mathlib.Omega.{arith}
use lib.IntN.{ℤ}
use lib.ListN.{length, get_or, set, take}
use lib.Seq.{sets, take-suc-set, take_all}
use Rattle.limits.specs.Limits.{max_rows, max_shift, max_operations, max_symbols}
use Rattle.layout_rules.specs.declared.Head.{Head}
use Rattle.layout_rules.specs.declared.Operation.{Operation}
use Rattle.layout_rules.specs.declared.Output.{Output}
use Rattle.layout_rules.specs.Records.{Netlist}
use Rattle.layout_rules.specs.Places.{head_at, operation_at, output_at, first_records, operations_in, netlist_in}
use Rattle.layout_rules.proofs.FirstRecords.{length-first}
use Rattle.board_rules.specs.Machine.{entry_at, shifted, joined, with_sign}
use Rattle.board_rules.specs.Table.{Small}
use Rattle.board_rules.specs.Netlist.{OperationLimits, OutputOperand}
use Rattle.netlist_rules.specs.Exact.{read_limits}
use Rattle.netlist_read.specs.Tables.{NetlistRead}
use Rattle.netlist_read.proofs.NetlistLaws.{head-limits, operation-there, output-there}
use Rattle.clock_rules.specs.declared.Operands.{Operands}
use Rattle.clock_rules.specs.Delays.{symbols, operand_delay, output_delay, longest_delay}
use Rattle.clock_rules.specs.Clocked.{delayed, present_output, present_outputs, clocked_value, operations_after, edge}
use Rattle.clock_rules.specs.InPlace.{source, source_by_sign, shifted_by, delays_in}
use Rattle.clock_rules.specs.Tables.{LongestHeld, no_operands, OperandSources, OutputsHeld, StoreReady}
use Rattle.clock_rules.proofs.InPlace.{delays_in_all, edge_by_table}
use Rattle.clock_rules.proofs.InBytes.{symbols-are, first_covered, second_covered, output_covered, source-read, source-within}
use Rattle.clock_edge.specs.declared.schedule.Schedule.{Schedule}

-- ---- values written one after another

pub none_written : (due : ℕ → ℤ) (values : List ℤ) → take 0 values ≡ first_records due 0
unfolding first_records
none_written due values = refl

pub written_next : (due : ℕ → ℤ) (values : List ℤ) (k : ℕ) (v : ℤ) → k < length values → v ≡ due k → take k values ≡ first_records due k
    → take (suc k) (set values k v) ≡ first_records due (suc k)
unfolding first_records
written_next due values k v h e t = take-suc-set values k v h ∙ ap₂ (λ (l : List ℤ) (z : ℤ). l ++ (z ∷ [])) t e

map_first : {A : Type 0} (f : A → ℤ) (fields : ℕ → A) (m : ℕ) → map f (first_records fields m) ≡ first_records (λ i. f (fields i)) m
unfolding first_records
map_first f fields zero = refl
map_first f fields (suc m) = map-append f (first_records fields m) (fields m ∷ []) ∙ ap (λ l. l ++ (f (fields m) ∷ [])) (map_first f fields m)

-- as many outputs as there are rows
pub outputs-written : (bytes : List ℕ) (xs store outputs : List ℤ) → length outputs ≡ (head_at bytes).m
    → take (head_at bytes).m outputs ≡ first_records (λ i. present_output (netlist_in bytes) xs store (output_at bytes (head_at bytes).operations i)) (head_at bytes).m
    → outputs ≡ present_outputs (netlist_in bytes) xs store
outputs-written bytes xs store outputs l t =
    let m = (head_at bytes).m in
    let q = (head_at bytes).operations in
    let present = present_output (netlist_in bytes) xs store in
    sym (take_all m outputs (omega arith))
    ∙ t
    ∙ sym (map_first present (output_at bytes q) m)
    ∙ ap (λ (k : ℕ). map present (first_records (output_at bytes k) m)) (sym (length-first (operation_at bytes) q))

-- ---- values read

-- at a place of the vector followed by the store there is a value, which does not wrap where it is shifted
pub record Readable (xs store : List ℤ) (place shift : ℕ) : Type 0 where
  pub within : place < length xs + length store
  pub small : Small (entry_at (xs ++ store) place) shift

module _ (bytes : List ℕ) (xs store : List ℤ) (S : StoreReady (netlist_in bytes) xs store) where
  abbrev net : Netlist
  net = netlist_in bytes

  abbrev n : ℕ
  n = (head_at bytes).n

  abbrev q : ℕ
  q = (head_at bytes).operations

  module _ (symbol clocks place : ℕ) (e : place ≡ source net symbol clocks) where
    delayed-is : entry_at (xs ++ store) place ≡ delayed net xs store symbol clocks
    delayed-is = ap (entry_at (xs ++ store)) e ∙ source-read bytes xs store S.size symbol clocks

    readable : (shift : ℕ) → symbol < n + q → clocks ≤ longest_delay net symbol → shift ≤ max_shift → Readable xs store place shift
    readable shift h c s = let among : symbol < symbols net = omega (arith, symbols-are bytes) in record {
      within = omega (arith, source-within bytes symbol clocks among c, S.room, S.size);
      small = subst (λ z. Small z shift) (sym delayed-is) (S.small symbol clocks shift among c s);
    }

  -- of an operation
  module _ (operands : List Operands) (O : OperandSources bytes operands) (k : ℕ) (h : k < q) where
    abbrev operation : Operation
    operation = operation_at bytes k

    abbrev sources : Operands
    sources = get_or operands k no_operands

    abbrev first : ℤ
    first = entry_at (xs ++ store) sources.first

    abbrev second : ℤ
    second = entry_at (xs ++ store) sources.second

    first_is : sources.first ≡ source net operation.a (operand_delay net (n + k) operation.a)
    first_is = ap (λ (x : Operands). x.first) (O.held k h)

    second_is : sources.second ≡ source net operation.b (operand_delay net (n + k) operation.b)
    second_is = ap (λ (x : Operands). x.second) (O.held k h)

    abbrev delay : ℕ → ℕ
    delay symbol = operand_delay net (n + k) symbol

    pub value-is : joined operation.sign (shifted first operation.sa) (shifted second operation.sb) ≡ clocked_value net xs store (n + k) operation
    value-is = ap₂ (λ (x y : ℤ). joined operation.sign (shifted x operation.sa) (shifted y operation.sb))
        (delayed-is operation.a (delay operation.a) sources.first first_is)
        (delayed-is operation.b (delay operation.b) sources.second second_is)

    module _ (N : NetlistRead bytes) where
      limits : OperationLimits (read_limits (head_at bytes).width) (n + k) operation
      limits = (operation-there bytes N k h).1

      pub first_readable : Readable xs store sources.first operation.sa
      first_readable = readable operation.a (delay operation.a) sources.first first_is operation.sa
          (omega (arith, limits.first_earlier)) (first_covered bytes k h) (omega (arith, limits.first-shift))

      pub second_readable : Readable xs store sources.second operation.sb
      second_readable = readable operation.b (delay operation.b) sources.second second_is operation.sb
          (omega (arith, limits.second_earlier)) (second_covered bytes k h) (omega (arith, limits.second-shift))

  -- of an output; where it is zero, its symbol's present value is read
  module _ (sources : List ℕ) (O : OutputsHeld bytes sources) (i : ℕ) (h : i < (head_at bytes).m) where
    abbrev output : Output
    output = output_at bytes q i

    abbrev place : ℕ
    place = get_or sources i 0

    abbrev due-clocks : ℕ
    due-clocks = output_delay net output.symbol

    pub output-is : with_sign output.sign (shifted (entry_at (xs ++ store) place) output.shift) ≡ present_output net xs store output
    output-is = go output.sign (O.output i h)
      where
        go : (sign : ℕ) → place ≡ source_by_sign net sign output.symbol
            → with_sign sign (shifted (entry_at (xs ++ store) place) output.shift)
            ≡ with_sign sign (shifted (delayed net xs store output.symbol due-clocks) output.shift)
        go zero e = ap (λ (z : ℤ). with_sign 0 (shifted z output.shift)) (delayed-is output.symbol due-clocks place e)
        go (suc zero) e = ap (λ (z : ℤ). with_sign 1 (shifted z output.shift)) (delayed-is output.symbol due-clocks place e)
        go (suc (suc _)) e = refl

    pub output_readable : NetlistRead bytes → Readable xs store place output.shift
    output_readable N = go output.sign (output_covered bytes i h) (O.output i h)
      where
        operand : OutputOperand (read_limits (head_at bytes).width) (n + q) output
        operand = (output-there bytes N i h).1.operand

        read : (clocks : ℕ) → clocks ≤ longest_delay net output.symbol → place ≡ source net output.symbol clocks → Readable xs store place output.shift
        read clocks c e = readable output.symbol clocks place e output.shift operand.symbol c (omega (arith, operand.shift))

        go : (sign : ℕ) → (sign ≤ 1 → due-clocks ≤ longest_delay net output.symbol) → place ≡ source_by_sign net sign output.symbol
            → Readable xs store place output.shift
        go zero c e = read due-clocks (c (omega arith)) e
        go (suc zero) c e = read due-clocks (c (omega arith)) e
        go (suc (suc _)) c e = read 0 (omega arith) e

  -- ---- the edge

  module _ (longest : List ℕ) (L : LongestHeld net longest) (operations : ℕ) (e : operations ≡ q) where
    count : length (operations_in bytes) ≡ operations
    count = length-first (operation_at bytes) q ∙ sym e

    all : symbols net ≡ length xs + operations
    all = omega (arith, count, S.size)

    pub delays-room : operations + delays_in longest 0 (length xs + operations) ≤ length store
    delays-room = subst (λ (s : ℕ). operations + delays_in longest 0 s ≤ length store) all (omega (arith, count, delays_in_all net longest L, S.room))

    -- from the store with its delays shifted and the values that were worked out
    pub edge-is : (delays values : List ℤ) → delays ≡ shifted_by longest xs store operations 0 (length xs + operations)
        → values ≡ operations_after net xs store n (operations_in bytes) → sets delays 0 values ≡ edge net xs store
    edge-is delays values d v =
        ap₂ (λ (l vs : List ℤ). sets l 0 vs) (d ∙ ap₂ (λ (k s : ℕ). shifted_by longest xs store k 0 s) (sym count) (sym all)) v
        ∙ edge_by_table net longest L xs store S.size S.room

-- ---- by a schedule

module _ (schedule : Schedule) where
  abbrev head : Head
  head = schedule.netlist.head

  abbrev bytes-of : List ℕ
  bytes-of = schedule.netlist.bytes.now

  abbrev net-of : Netlist
  net-of = netlist_in bytes-of

  columns-are : head.n ≡ (head_at bytes-of).n
  columns-are = ap (λ (h : Head). h.n) schedule.netlist.head_read

  pub operations-are : head.operations ≡ (head_at bytes-of).operations
  operations-are = ap (λ (h : Head). h.operations) schedule.netlist.head_read

  pub rows-are : head.m ≡ (head_at bytes-of).m
  rows-are = ap (λ (h : Head). h.m) schedule.netlist.head_read

  pub operations-few : head.operations ≤ max_operations
  operations-few = omega (arith, operations-are, (head-limits bytes-of schedule.netlist.read).few)

  pub rows-few : head.m ≤ max_rows
  rows-few = omega (arith, rows-are, (head-limits bytes-of schedule.netlist.read).limits.rows-most)

  pub symbols_few : head.n + head.operations ≤ max_symbols
  symbols_few = omega (arith, columns-are, operations-are, (head-limits bytes-of schedule.netlist.read).limits.columns-most, (head-limits bytes-of schedule.netlist.read).few)

  module _ (xs store : List ℤ) (R : StoreReady (netlist_in schedule.netlist.bytes.now) xs store) where
    -- operation k, read, and the values of its operands
    module _ (k : ℕ) (inside : k < schedule.netlist.head.operations) where
      there : k < (head_at bytes-of).operations
      there = omega (arith, operations-are)

      abbrev read_at : Operands
      read_at = get_or schedule.operands.now k no_operands

      pub first_within : read_at.first < length xs + length store
      first_within = (first_readable bytes-of xs store R schedule.operands.now schedule.operands_held k there schedule.netlist.read).within

      pub second_within : read_at.second < length xs + length store
      second_within = (second_readable bytes-of xs store R schedule.operands.now schedule.operands_held k there schedule.netlist.read).within

      module _ (o : Operation) (e : o ≡ operation_at bytes-of k) (x y : ℤ) (d : x ≡ entry_at (xs ++ store) read_at.first) (f : y ≡ entry_at (xs ++ store) read_at.second) where
        pub operands_small : Small x o.sa × Small y o.sb
        operands_small = rw (d, f, e) (
          (first_readable bytes-of xs store R schedule.operands.now schedule.operands_held k there schedule.netlist.read).small,
          (second_readable bytes-of xs store R schedule.operands.now schedule.operands_held k there schedule.netlist.read).small,
        )

        pub worked-out : (r : ℤ) → r ≡ joined o.sign (shifted x o.sa) (shifted y o.sb) → r ≡ clocked_value net-of xs store ((head_at bytes-of).n + k) (operation_at bytes-of k)
        worked-out r g = g ∙ rw (d, f, e) (value-is bytes-of xs store R schedule.operands.now schedule.operands_held k there)

    -- the output of row i, read, and its symbol's value
    module _ (i : ℕ) (inside : i < schedule.netlist.head.m) where
      row : i < (head_at bytes-of).m
      row = omega (arith, rows-are)

      abbrev source_at_row : ℕ
      source_at_row = get_or schedule.outputs.now i 0

      pub output_within : source_at_row < length xs + length store
      output_within = (output_readable bytes-of xs store R schedule.outputs.now schedule.outputs_held i row schedule.netlist.read).within

      module _ (o : Output) (e : o ≡ output_at bytes-of head.operations i) (x : ℤ) (d : x ≡ entry_at (xs ++ store) source_at_row) where
        same : o ≡ output_at bytes-of (head_at bytes-of).operations i
        same = e ∙ ap (λ (q : ℕ). output_at bytes-of q i) operations-are

        pub output_small : Small x o.shift
        output_small = rw (d, same) (output_readable bytes-of xs store R schedule.outputs.now schedule.outputs_held i row schedule.netlist.read).small

        pub made : (r : ℤ) → r ≡ with_sign o.sign (shifted x o.shift) → r ≡ present_output net-of xs store (output_at bytes-of (head_at bytes-of).operations i)
        made r g = g ∙ rw (d, same) (output-is bytes-of xs store R schedule.outputs.now schedule.outputs_held i row)

    -- the store
    pub symbols-are_held : length xs + head.operations ≡ head.n + head.operations
    symbols-are_held = omega (arith, R.size, columns-are)

    pub delays_room : head.operations + delays_in schedule.longest.now 0 (length xs + head.operations) ≤ length store
    delays_room = delays-room bytes-of xs store R schedule.longest.now schedule.longest_held head.operations operations-are
