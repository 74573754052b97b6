-- What a netlist with its depths says of the delays of each operation and each output, and the table of longest delays, one of them more at
-- a time.
-- Assumes nothing.
use Prim.Native.Nat.{ℕ, zero, suc, ◌+◌, ◌≤◌, ◌<◌}
use mathlib.Core.Path.{◌≡◌, refl, sym, ap, ap₂, ◌∙◌, subst}
use mathlib.Core.List.{List, [], ◌∷◌, ◌++◌, append_assoc, append-nil}
use native.Mathlib.Omega.{arith}
use lib.ListN.{length, get_or, set}
use Rattle.std.proofs.Math.Nat.{max-zero}
use Rattle.std.proofs.lemmas.List.{set-get_or}
use Rattle.limits.specs.Limits.{max_rows, max_operations, max_symbols}
use Rattle.layout_rules.specs.declared.Head.{Head}
use Rattle.layout_rules.specs.declared.Operation.{Operation}
use Rattle.layout_rules.specs.declared.Output.{Output}
use Rattle.layout_rules.specs.declared.Totals.{Totals}
use Rattle.layout_rules.specs.Records.{Netlist}
use Rattle.layout_rules.specs.Places.{head_at, operation_at, output_at, first_records, first_operations, first_outputs, operations_in, outputs_in, netlist_in}
use Rattle.layout_rules.proofs.FirstRecords.{length-first}
use Rattle.board_rules.specs.Machine.{Earlier}
use Rattle.board_rules.specs.Table.{filled}
use Rattle.board_rules.specs.Netlist.{OutputOperand}
use Rattle.board_rules.proofs.TableLaws.{length-filled}
use Rattle.netlist_rules.specs.Exact.{read_limits}
use Rattle.netlist_read.specs.declared.accepted.Netlist.{Netlist as AcceptedNetlist}
use Rattle.netlist_read.specs.Tables.{DepthsHeld, NetlistRead}
use Rattle.netlist_read.proofs.NetlistLaws.{head-limits, operation-there, output-there}
use Rattle.clock_rules.specs.declared.Delay.{Delay}
use Rattle.clock_rules.specs.Delays.{symbol_depth, netlist_depth, output_delay, delay_by, operand_delays, unless_zero, output_delays, first_delay, second_delay, delay_of_output, clocks_by_sign}
use Rattle.clock_rules.specs.Tables.{SymbolDepths, entered, LongestHeld}
use Rattle.clock_rules.proofs.Depths.{depth-most}
use Rattle.clock_rules.proofs.LongestTable.{longest-entered}
use Rattle.clock_rules.proofs.InBytes.{symbols-are, held-depths, operand-delays_next, output-delays_next, length-entered, entered-append, earlier_in, first-shallower, second-shallower}
use Rattle.clock_delays.proofs.Read.{depth-read}
use Rattle.clock_delays.specs.declared.depths.NetlistDepths.{NetlistDepths}

-- ---- an operation and an output

module _ (b : List ℕ) (N : NetlistRead b) where
  pub symbols-few : (head_at b).n + (head_at b).operations ≤ max_symbols
  symbols-few = omega (arith, (head-limits b N).limits.columns-most, (head-limits b N).few)

  pub operands_earlier : Earlier (head_at b).n (operations_in b)
  operands_earlier = earlier_in b (λ k h. let L = (operation-there b N k h).1 in (L.first_earlier, L.second_earlier))

-- both operands stand below their operation and are less deep
pub record OperandsReady (net : Netlist) (symbol : ℕ) (o : Operation) : Type 0 where
  pub first_earlier : o.a < symbol
  pub second_earlier : o.b < symbol
  pub first-shallower : symbol_depth net o.a < symbol_depth net symbol
  pub second-shallower : symbol_depth net o.b < symbol_depth net symbol

-- the netlist in bytes whose head is read
module _ (b : List ℕ) (N : NetlistRead b) (h : Head) (e : h ≡ head_at b) where
  pub n-is : h.n ≡ (head_at b).n
  n-is = ap (λ (x : Head). x.n) e

  pub operations-are : h.operations ≡ (head_at b).operations
  operations-are = ap (λ (x : Head). x.operations) e

  pub symbols-in : h.n + h.operations ≤ max_symbols
  symbols-in = omega (arith, n-is, operations-are, symbols-few b N)

  pub operations-in : h.operations ≤ max_operations
  operations-in = omega (arith, operations-are, (head-limits b N).few)

  pub rows-in : h.m ≤ max_rows
  rows-in = omega (arith, ap (λ (x : Head). x.m) e, (head-limits b N).limits.rows-most)

  operands-in : (k : ℕ) → k < h.operations → (o : Operation) → o ≡ operation_at b k → OperandsReady (netlist_in b) (h.n + k) o
  operands-in k l o r =
      let inside : k < (head_at b).operations = omega (arith, operations-are) in
      let L = (operation-there b N k inside).1 in
      rw (n-is, r) (record {
        first_earlier = L.first_earlier;
        second_earlier = L.second_earlier;
        first-shallower = first-shallower b k inside (operands_earlier b N);
        second-shallower = second-shallower b k inside (operands_earlier b N);
      })

  output-in : (i : ℕ) → i < h.m → (o : Output) → o ≡ output_at b h.operations i
      → (o.symbol < h.n + h.operations) × ((o.sign ≤ 2) × (symbol_depth (netlist_in b) o.symbol ≤ netlist_depth (netlist_in b)))
  output-in i l o r =
      let operand : OutputOperand (read_limits (head_at b).width) ((head_at b).n + (head_at b).operations) (output_at b (head_at b).operations i) =
      (output-there b N i (omega (arith, ap (λ (x : Head). x.m) e))).1.operand in
      rw (r, n-is, operations-are) (operand.symbol, (operand.sign, depth-most (netlist_in b) (output_at b (head_at b).operations i).symbol))

module _ (D : NetlistDepths) where
  abbrev pub bytes_of : List ℕ
  bytes_of = D.netlist.bytes.now

  abbrev head : Head
  head = D.netlist.head

  abbrev net : Netlist
  net = netlist_in bytes_of

  pub symbols_few : head.n + head.operations ≤ max_symbols
  symbols_few = symbols-in bytes_of D.netlist.read head D.netlist.head_read

  pub rows_few : head.m ≤ max_rows
  rows_few = rows-in bytes_of D.netlist.read head D.netlist.head_read

  pub operations_few : head.operations ≤ max_operations
  operations_few = operations-in bytes_of D.netlist.read head D.netlist.head_read

  pub depth_held : (symbol : ℕ) → symbol < head.n + head.operations → get_or D.depths.now symbol 0 ≡ symbol_depth net symbol
  depth_held symbol h = D.depths_held.held symbol
      (omega (arith, n-is bytes_of D.netlist.read head D.netlist.head_read, operations-are bytes_of D.netlist.read head D.netlist.head_read, symbols-are bytes_of))

  pub deepest : D.netlist.totals.depth ≡ netlist_depth net
  deepest = ap (λ (t : Totals). t.depth) D.netlist.totals_read ∙ depth-read bytes_of D.netlist.read

  pub operands_ready : (k : ℕ) → k < head.operations → (o : Operation) → o ≡ operation_at bytes_of k → OperandsReady net (head.n + k) o
  operands_ready = operands-in bytes_of D.netlist.read head D.netlist.head_read

  pub output_ready : (i : ℕ) → i < head.m → (o : Output) → o ≡ output_at bytes_of head.operations i
      → (o.symbol < head.n + head.operations) × ((o.sign ≤ 2) × (symbol_depth net o.symbol ≤ netlist_depth net))
  output_ready = output-in bytes_of D.netlist.read head D.netlist.head_read

  -- what a table of symbols asks of their delays
  pub operands_below : (k : ℕ) → k < head.operations → (first second : Delay) → first ≡ first_delay net (head.n + k) (operation_at bytes_of k)
      → second ≡ second_delay net (head.n + k) (operation_at bytes_of k) → (first.symbol < max_symbols) × (second.symbol < max_symbols)
  operands_below k h first second d e =
      let R = operands_ready k h (operation_at bytes_of k) refl in
      (omega (arith, ap (λ (x : Delay). x.symbol) d, R.first_earlier, symbols_few), omega (arith, ap (λ (x : Delay). x.symbol) e, R.second_earlier, symbols_few))

  pub output_below : (i : ℕ) → i < head.m → (d : Delay) → d ≡ delay_of_output net (output_at bytes_of head.operations i) → d.symbol < max_symbols
  output_below i h d e = omega (arith, ap (λ (x : Delay). x.symbol) e, (output_ready i h (output_at bytes_of head.operations i) refl).0, symbols_few)

  pub all-rows : (i : ℕ) → i ≡ head.m → i ≡ (head_at bytes_of).m
  all-rows i e = e ∙ ap (λ (x : Head). x.m) D.netlist.head_read

-- an opened netlist with the table that was lent to open it
pub opened_depths : (N : AcceptedNetlist) (b table : List ℕ) → N.bytes.now ≡ b → DepthsHeld b N.head.n N.head.operations table → SymbolDepths (netlist_in N.bytes.now) table
opened_depths N b table e H =
    held-depths N.bytes.now table
    (subst (λ (h : Head). DepthsHeld N.bytes.now h.n h.operations table) N.head_read (subst (λ (x : List ℕ). DepthsHeld x N.head.n N.head.operations table) (sym e) H))

-- a zero output has no delay, another one its own
pub other_delay : (x : Netlist) (sign symbol : ℕ) → sign ≤ 2 → (sign ≡ 2 → ⊥) → output_delay x symbol ≡ clocks_by_sign x sign symbol
other_delay x zero symbol h z = refl
other_delay x (suc zero) symbol h z = refl
other_delay x (suc (suc sign)) symbol h z = absurd (z (omega arith))

-- ---- one more entered

pub entered-room : (ds : List Delay) (table : List ℕ) → table ≡ entered (filled max_symbols 0) ds → length table ≡ max_symbols
entered-room ds table e = ap length e ∙ length-entered (filled max_symbols 0) ds ∙ length-filled 0 max_symbols

-- both operands of operation k, read from bytes whose head has n = m
pub operation-entered : (b : List ℕ) (m : ℕ) → m ≡ (head_at b).n → (k : ℕ) (first second : Delay)
    → first ≡ first_delay (netlist_in b) (m + k) (operation_at b k) → second ≡ second_delay (netlist_in b) (m + k) (operation_at b k)
    → (before table after : List ℕ) → table ≡ entered before (first ∷ []) → after ≡ entered table (second ∷ [])
    → before ≡ entered (filled max_symbols 0) (operand_delays (netlist_in b) (head_at b).n (first_operations b k))
    → after ≡ entered (filled max_symbols 0) (operand_delays (netlist_in b) (head_at b).n (first_operations b (suc k)))
operation-entered b m same k first second d e before table after t a s =
    let ds : List Delay = operand_delays (netlist_in b) (head_at b).n (first_operations b k) in
    rw (a, t, d, e, s, same, operand-delays_next b k)
    (sym (entered-append (first_delay (netlist_in b) ((head_at b).n + k) (operation_at b k) ∷ []) (second_delay (netlist_in b) ((head_at b).n + k) (operation_at b k) ∷ []) (entered (filled max_symbols 0) ds))
    ∙ sym (entered-append ds (first_delay (netlist_in b) ((head_at b).n + k) (operation_at b k) ∷ second_delay (netlist_in b) ((head_at b).n + k) (operation_at b k) ∷ []) (filled max_symbols 0)))

-- the delays of all operands, and of the first i outputs
abbrev pub delays_to : List ℕ → ℕ → List Delay
delays_to b i = operand_delays (netlist_in b) (head_at b).n (operations_in b) ++ output_delays (netlist_in b) (first_outputs b (head_at b).operations i)

-- a delay of 0 clocks changes nothing, so that of a zero output is as good as none
sign_entered : (x : Netlist) (sign symbol : ℕ) (table : List ℕ)
    → entered table (delay_by symbol (clocks_by_sign x sign symbol) ∷ []) ≡ entered table (unless_zero sign (delay_by symbol (output_delay x symbol)))
unfolding entered
sign_entered x zero symbol table = refl
sign_entered x (suc zero) symbol table = refl
sign_entered x (suc (suc sign)) symbol table = ap (set table symbol) (max-zero (get_or table symbol 0)) ∙ set-get_or table symbol 0

module _ (b : List ℕ) where
  pub operands_entered : delays_to b 0 ≡ operand_delays (netlist_in b) (head_at b).n (operations_in b)
  unfolding first_records output_delays
  operands_entered = append-nil (operand_delays (netlist_in b) (head_at b).n (operations_in b))

  pub output-entered : (q : ℕ) → q ≡ (head_at b).operations → (i : ℕ) (d : Delay) → d ≡ delay_of_output (netlist_in b) (output_at b q i)
      → (table after : List ℕ) → after ≡ entered table (d ∷ []) → table ≡ entered (filled max_symbols 0) (delays_to b i)
      → after ≡ entered (filled max_symbols 0) (delays_to b (suc i))
  output-entered q same i d e table after a t =
      let operands : List Delay = operand_delays (netlist_in b) (head_at b).n (operations_in b) in
      let before : List Delay = output_delays (netlist_in b) (first_outputs b (head_at b).operations i) in
      let o : Output = output_at b (head_at b).operations i in
      let next : List Delay = unless_zero o.sign (delay_by o.symbol (output_delay (netlist_in b) o.symbol)) in
      a ∙ ap₂ (λ (l : List ℕ) (x : Delay). entered l (x ∷ [])) t (e ∙ ap (λ (k : ℕ). delay_of_output (netlist_in b) (output_at b k i)) same)
      ∙ sign_entered (netlist_in b) o.sign o.symbol (entered (filled max_symbols 0) (delays_to b i))
      ∙ sym (entered-append (operands ++ before) next (filled max_symbols 0))
      ∙ ap (entered (filled max_symbols 0)) (append_assoc operands before next ∙ sym (ap (λ ds. operands ++ ds) (output-delays_next b (head_at b).operations i)))

  -- all delays of the netlist
  pub all-entered : (table : List ℕ) → (head_at b).n + (head_at b).operations ≤ max_symbols → table ≡ entered (filled max_symbols 0) (delays_to b (head_at b).m)
      → LongestHeld (netlist_in b) table
  unfolding filled
  all-entered table few e =
      let count : length (operations_in b) ≡ (head_at b).operations = length-first (operation_at b) (head_at b).operations in
      let all : table ≡ entered (filled max_symbols 0) (operand_delays (netlist_in b) (head_at b).n (operations_in b) ++ output_delays (netlist_in b) (outputs_in b)) =
      subst (λ k. table ≡ entered (filled max_symbols 0) (operand_delays (netlist_in b) (head_at b).n (operations_in b) ++ output_delays (netlist_in b) (first_outputs b k (head_at b).m))) (sym count) e in
      record {
        room = entered-room (delays_to b (head_at b).m) table e;
        held = λ symbol h. ap (λ t. get_or t symbol 0) all ∙ longest-entered (netlist_in b) max_symbols symbol (omega (arith, symbols-are b));
      }
