-- The edge in place: a second form of the store after the edge, register by register in the order in which a program writes them, and of
-- where a program reads a delayed value. proofs/InPlace.antt and proofs/InBytes.antt say that they agree with the first.
-- Assumes nothing.
use Rattle.std.specs.Prelude.{ℕ, zero, suc, ◌+◌, List, ◌++◌, ℤ, get_or, set}
use Rattle.std.proofs.lemmas.List.Edits.{sets}
use Rattle.layout_rules.specs.declared.Operation.{Operation}
use Rattle.layout_rules.specs.declared.Output.{Output}
use Rattle.layout_rules.specs.Records.{Netlist}
use Rattle.board_rules.specs.Machine.{entry_at}
use Rattle.clock_rules.specs.Delays.{symbols, operand_delay, output_delay, longest_delay, delay_place}
use Rattle.clock_rules.specs.Clocked.{operations_after}

-- ---- where a value is read

-- in the vector of n followed by the store: the place of a symbol's value so many clocks before, where its delays begin at a place
abbrev pub source_at : ℕ → ℕ → ℕ → ℕ → ℕ
source_at n place symbol zero = symbol
source_at n place symbol (suc older) = n + (place + older)

abbrev pub source : Netlist → ℕ → ℕ → ℕ
source net symbol clocks = source_at net.head.n (delay_place net symbol) symbol clocks

-- of the operands of the operation of a symbol, and of an output; a zero one is not delayed
abbrev pub first_source : Netlist → ℕ → Operation → ℕ
first_source net symbol o = source net o.a (operand_delay net symbol o.a)

abbrev pub second_source : Netlist → ℕ → Operation → ℕ
second_source net symbol o = source net o.b (operand_delay net symbol o.b)

abbrev pub source_by_sign : Netlist → ℕ → ℕ → ℕ
source_by_sign net zero symbol = source net symbol (output_delay net symbol)
source_by_sign net (suc zero) symbol = source net symbol (output_delay net symbol)
source_by_sign net (suc (suc _)) symbol = symbol

abbrev pub output_source : Netlist → Output → ℕ
output_source net o = source_by_sign net o.sign o.symbol

-- ---- the edge

-- a value goes into the first of so many registers, the old value of each into the next, and that of the last is lost
unfoldable pub shifted_in : List ℤ → ℕ → ℕ → ℤ → List ℤ
shifted_in store place zero value = store
shifted_in store place (suc count) value = shifted_in (set store place value) (suc place) count (entry_at store place)

-- the delays of the symbols below one, each symbol's value going into its own
unfoldable pub delays_shifted : Netlist → List ℤ → List ℤ → ℕ → List ℤ
unfolding shifted_in
delays_shifted net xs store zero = store
delays_shifted net xs store (suc symbol) =
    let before = delays_shifted net xs store symbol in
    shifted_in before (delay_place net symbol) (longest_delay net symbol) (entry_at (xs ++ before) symbol)

-- the same by a table of the longest delays: of so many more symbols, whose delays begin at a place
unfoldable pub shifted_by : List ℕ → List ℤ → List ℤ → ℕ → ℕ → ℕ → List ℤ
unfolding shifted_in
shifted_by longest xs store place symbol zero = store
shifted_by longest xs store place symbol (suc more) =
    shifted_by longest xs (shifted_in store place (get_or longest symbol 0) (entry_at (xs ++ store) symbol)) (place + get_or longest symbol 0) (suc symbol) more

-- the registers that these delays have
unfoldable pub delays_in : List ℕ → ℕ → ℕ → ℕ
delays_in longest symbol zero = 0
delays_in longest symbol (suc more) = get_or longest symbol 0 + delays_in longest (suc symbol) more

-- the operations' values are worked out first and stored last
unfoldable pub edge_in_place : Netlist → List ℤ → List ℤ → List ℤ
unfolding delays_shifted operations_after
edge_in_place net xs store = sets (delays_shifted net xs store (symbols net)) 0 (operations_after net xs store net.head.n net.operations)
