-- Document 01, "One vector every clock": the clocked machine. A step takes the store before an edge to the store after it, with a vector at
-- the inputs; outputs are read before the edge. A store is the whole lent one: what stands behind the registers stays as it was.
-- Assumes nothing.
use Rattle.std.specs.Prelude.{ℕ, zero, suc, ◌+◌, List, [], ◌∷◌, ◌++◌, map, ℤ, pos, replicate, take, drop}
use Rattle.layout_rules.specs.declared.Operation.{Operation}
use Rattle.layout_rules.specs.declared.Output.{Output}
use Rattle.layout_rules.specs.Records.{Netlist}
use Rattle.layout_rules.specs.Places.{first_records}
use Rattle.board_rules.specs.Machine.{entry_at, shifted, joined, with_sign}
use Rattle.clock_rules.specs.Delays.{symbols, operand_delay, output_delay, longest_delay, registers, delay_place}

-- ---- one clock, with the vector xs at the inputs: all values are read before the edge

-- a symbol's value so many clocks before, unshifted: its present one stands at the input or in the operation's register, which come in the
-- order of symbols
abbrev pub delayed : Netlist → List ℤ → List ℤ → ℕ → ℕ → ℤ
delayed net xs store symbol zero = entry_at (xs ++ store) symbol
delayed net xs store symbol (suc older) = entry_at store (delay_place net symbol + older)

-- the outputs of this clock; a zero one is 0 by its sign, and has no delay that could be read
abbrev pub present_output : Netlist → List ℤ → List ℤ → Output → ℤ
present_output net xs store o = with_sign o.sign (shifted (delayed net xs store o.symbol (output_delay net o.symbol)) o.shift)

abbrev pub present_outputs : Netlist → List ℤ → List ℤ → List ℤ
present_outputs net xs store = map (present_output net xs store) net.outputs

-- what the operation of a symbol makes of its delayed operands: "every operation ends in a register"
abbrev pub clocked_value : Netlist → List ℤ → List ℤ → ℕ → Operation → ℤ
clocked_value net xs store symbol o =
    joined o.sign (shifted (delayed net xs store o.a (operand_delay net symbol o.a)) o.sa)
    (shifted (delayed net xs store o.b (operand_delay net symbol o.b)) o.sb)

-- the registers of operations after the edge, the first of which has the symbol given
unfoldable pub operations_after : Netlist → List ℤ → List ℤ → ℕ → List Operation → List ℤ
operations_after net xs store symbol [] = []
operations_after net xs store symbol (o ∷ os) = clocked_value net xs store symbol o ∷ operations_after net xs store (suc symbol) os

-- the delays of a symbol after the edge, and those of all symbols below one: each takes over the value that was one clock newer
abbrev pub symbol_after : Netlist → List ℤ → List ℤ → ℕ → List ℤ
symbol_after net xs store symbol = first_records (delayed net xs store symbol) (longest_delay net symbol)

unfoldable pub delays_after : Netlist → List ℤ → List ℤ → ℕ → List ℤ
unfolding first_records
delays_after net xs store zero = []
delays_after net xs store (suc symbol) = delays_after net xs store symbol ++ symbol_after net xs store symbol

-- the store after the edge
unfoldable pub edge : Netlist → List ℤ → List ℤ → List ℤ
unfolding operations_after delays_after
edge net xs store =
    operations_after net xs store net.head.n net.operations ++ (delays_after net xs store (symbols net) ++ drop (registers net) store)

-- ---- a list of vectors, one a clock

unfoldable pub outputs_from : Netlist → List ℤ → List (List ℤ) → List (List ℤ)
unfolding edge
outputs_from net store [] = []
outputs_from net store (xs ∷ vectors) = present_outputs net xs store ∷ outputs_from net (edge net xs store) vectors

unfoldable pub store_from : Netlist → List ℤ → List (List ℤ) → List ℤ
unfolding edge
store_from net store [] = store
store_from net store (xs ∷ vectors) = store_from net (edge net xs store) vectors

-- "clears that many registers at the front of a lent store (the rest of it stays as it was)"
unfoldable pub cleared : Netlist → List ℤ → List ℤ
cleared net store = replicate (registers net) (pos 0) ++ drop (registers net) store

-- the m outputs of each clock, and the lent store afterwards
abbrev pub clocked_outputs : Netlist → List ℤ → List (List ℤ) → List (List ℤ)
clocked_outputs net store vectors = outputs_from net (cleared net store) vectors

abbrev pub clocked_store : Netlist → List ℤ → List (List ℤ) → List ℤ
clocked_store net store vectors = store_from net (cleared net store) vectors

-- ---- samples and outputs one clock after another: so many vectors of n samples, and m outputs a clock

unfoldable pub vectors_of : ℕ → ℕ → List ℤ → List (List ℤ)
vectors_of n zero samples = []
vectors_of n (suc clocks) samples = take n samples ∷ vectors_of n clocks (drop n samples)

unfoldable pub in_order : List (List ℤ) → List ℤ
in_order [] = []
in_order (ys ∷ clocks) = ys ++ in_order clocks
