-- What the tables of a program hold that clocks the netlist in bytes: depths, longest delays, the places of delays, the symbols with delays,
-- and where each operand and output is read.
-- Assumes nothing.
use Rattle.std.specs.Prelude.{ℕ, zero, suc, ◌+◌, ◌*◌, ◌≤◌, ◌<◌, max, ◌≡◌, List, [], ◌∷◌, ℤ, length, get_or, set}
use Rattle.limits.specs.Limits.{max_rows, max_shift, max_operations, max_symbols}
use Rattle.layout_rules.specs.declared.Operation.{Operation}
use Rattle.layout_rules.specs.Records.{Netlist}
use Rattle.layout_rules.specs.Places.{head_at, operation_at, output_at, netlist_in}
use Rattle.board_rules.specs.Table.{Small}
use Rattle.clock_rules.specs.declared.Delay.{Delay}
use Rattle.clock_rules.specs.declared.Operands.{Operands}
use Rattle.clock_rules.specs.Delays.{symbols, symbol_depth, longest_delay, registers, delay_place}
use Rattle.clock_rules.specs.Clocked.{delayed}
use Rattle.clock_rules.specs.InPlace.{first_source, second_source, output_source}

-- more registers than any netlist has: no delay is longer than a netlist is deep
abbrev pub most_registers : ℕ
most_registers = max_operations + max_symbols * max_operations

-- ---- by symbol

pub record SymbolDepths (net : Netlist) (table : List ℕ) : Type 0 where
  pub room : length table ≡ max_symbols
  pub held : (symbol : ℕ) → symbol < symbols net → get_or table symbol 0 ≡ symbol_depth net symbol

-- the table of the longest delays, delay by delay in the order in which a program meets them
unfoldable pub entered : List ℕ → List Delay → List ℕ
entered table [] = table
entered table (d ∷ ds) = entered (set table d.symbol (max (get_or table d.symbol 0) d.clocks)) ds

pub record LongestHeld (net : Netlist) (table : List ℕ) : Type 0 where
  pub room : length table ≡ max_symbols
  pub held : (symbol : ℕ) → symbol < symbols net → get_or table symbol 0 ≡ longest_delay net symbol

pub record PlacesHeld (net : Netlist) (table : List ℕ) : Type 0 where
  pub room : length table ≡ max_symbols
  pub held : (symbol : ℕ) → symbol < symbols net → get_or table symbol 0 ≡ delay_place net symbol

-- the first symbol behind the first j entries of a table of ascending symbols
abbrev pub behind_entry : List ℕ → ℕ → ℕ
behind_entry waiting zero = 0
behind_entry waiting (suc j) = suc (get_or waiting j 0)

-- from a symbol up to another there are no delays
abbrev pub NoDelays : List ℕ → ℕ → ℕ → Type 0
NoDelays longest from to = (symbol : ℕ) → from ≤ symbol → symbol < to → get_or longest symbol 0 ≡ 0

-- so many entries, ascending; a symbol between two of them has no delays, nor has one before the first or behind the last
pub record WaitingHeld (longest : List ℕ) (symbols : ℕ) (waiting : List ℕ) (entries : ℕ) : Type 0 where
  pub room : length waiting ≡ max_symbols
  pub few : entries ≤ symbols
  pub ascending : (j : ℕ) → j < entries → behind_entry waiting j ≤ get_or waiting j 0
  pub below : (j : ℕ) → j < entries → get_or waiting j 0 < symbols
  pub between : (j : ℕ) → j < entries → NoDelays longest (behind_entry waiting j) (get_or waiting j 0)
  pub behind : NoDelays longest (behind_entry waiting entries) symbols

-- the symbols with delays, ascending; a symbol between two of them has no delays, nor has one before the first or behind the last
pub record WaitingSymbols (longest : List ℕ) (symbols : ℕ) (waiting : List ℕ) : Type 0 where
  pub few : length waiting ≤ symbols
  pub ascending : (j : ℕ) → j < length waiting → behind_entry waiting j ≤ get_or waiting j 0
  pub below : (j : ℕ) → j < length waiting → get_or waiting j 0 < symbols
  pub between : (j : ℕ) → j < length waiting → NoDelays longest (behind_entry waiting j) (get_or waiting j 0)
  pub behind : NoDelays longest (behind_entry waiting (length waiting)) symbols

-- ---- by operation and by output

abbrev pub no_operands : Operands
no_operands = record { first = 0; second = 0 }

abbrev pub operands_of : Netlist → ℕ → Operation → Operands
operands_of net symbol o = record { first = first_source net symbol o; second = second_source net symbol o }

pub record OperandSources (bytes : List ℕ) (operands : List Operands) : Type 0 where
  pub room : length operands ≡ max_operations
  pub held : (k : ℕ) → k < (head_at bytes).operations → get_or operands k no_operands ≡ operands_of (netlist_in bytes) ((head_at bytes).n + k) (operation_at bytes k)

pub record OutputsHeld (bytes sources : List ℕ) : Type 0 where
  pub room : length sources ≡ max_rows
  pub output : (i : ℕ) → i < (head_at bytes).m → get_or sources i 0 ≡ output_source (netlist_in bytes) (output_at bytes (head_at bytes).operations i)

-- ---- the store

-- before a clock, with the vector xs at the inputs: there is room for the registers, and no value read is so large that it wraps
pub record StoreReady (net : Netlist) (xs store : List ℤ) : Type 0 where
  pub room : registers net ≤ length store
  pub size : length xs ≡ net.head.n
  pub small : (symbol clocks shift : ℕ) → symbol < symbols net → clocks ≤ longest_delay net symbol → shift ≤ max_shift
      → Small (delayed net xs store symbol clocks) shift
