-- Document 01, "One vector every clock": by how many clocks a value is delayed, and the registers that a netlist's clocked form has.
-- Assumes nothing.
use Rattle.std.specs.Prelude.{ℕ, zero, suc, ◌+◌, ◌-◌, max, true, false, List, [], ◌∷◌, ◌++◌, eqb, length, get_or, replicate}
use Rattle.layout_rules.specs.declared.Operation.{Operation}
use Rattle.layout_rules.specs.declared.Output.{Output}
use Rattle.layout_rules.specs.Records.{Netlist}
use Rattle.board_rules.specs.Machine.{depths, depth}
use Rattle.clock_rules.specs.declared.Delay.{Delay}

-- the number of symbols: inputs, then operations
abbrev pub symbols : Netlist → ℕ
symbols net = net.head.n + length net.operations

unfoldable pub symbol_depth : Netlist → ℕ → ℕ
symbol_depth net symbol = get_or (depths (replicate net.head.n 0) net.operations) symbol 0

unfoldable pub netlist_depth : Netlist → ℕ
netlist_depth net = depth net.head.n net.operations

-- ---- delays

-- "an operand that arrives early is delayed": by depth(operation) − 1 − depth(operand), an operation being given by its symbol;
-- an operand is never as deep as its operation (first-shallower, second-shallower in proofs/InBytes.antt)
abbrev pub operand_delay : Netlist → ℕ → ℕ → ℕ
operand_delay net operation operand = symbol_depth net operation - 1 - symbol_depth net operand

-- "all outputs but zero ones are delayed to the netlist's depth": by the netlist's depth − depth(symbol), which no
-- symbol exceeds (depth-most in proofs/Depths.antt)
abbrev pub output_delay : Netlist → ℕ → ℕ
output_delay net symbol = netlist_depth net - symbol_depth net symbol

-- a symbol's delay by so many clocks
abbrev pub delay_by : ℕ → ℕ → Delay
delay_by symbol clocks = record { symbol = symbol; clocks = clocks }

-- the delays of the operands of operations, the first of which has the symbol given
unfoldable pub operand_delays : Netlist → ℕ → List Operation → List Delay
operand_delays net symbol [] = []
operand_delays net symbol (o ∷ os) =
    delay_by o.a (operand_delay net symbol o.a) ∷ delay_by o.b (operand_delay net symbol o.b) ∷ operand_delays net (suc symbol) os

-- the delay of an output by its sign, 0 plus, 1 minus, 2 zero: a zero one has none
abbrev pub unless_zero : ℕ → Delay → List Delay
unless_zero zero d = d ∷ []
unless_zero (suc zero) d = d ∷ []
unless_zero (suc (suc _)) d = []

-- by how many clocks an output is delayed: a zero one by none
abbrev pub clocks_by_sign : Netlist → ℕ → ℕ → ℕ
clocks_by_sign net zero symbol = output_delay net symbol
clocks_by_sign net (suc zero) symbol = output_delay net symbol
clocks_by_sign net (suc (suc _)) symbol = 0

-- the delays of both operands of the operation of a symbol, and of an output
abbrev pub first_delay : Netlist → ℕ → Operation → Delay
first_delay net symbol o = delay_by o.a (operand_delay net symbol o.a)

abbrev pub second_delay : Netlist → ℕ → Operation → Delay
second_delay net symbol o = delay_by o.b (operand_delay net symbol o.b)

abbrev pub delay_of_output : Netlist → Output → Delay
delay_of_output net o = delay_by o.symbol (clocks_by_sign net o.sign o.symbol)

unfoldable pub output_delays : Netlist → List Output → List Delay
output_delays net [] = []
output_delays net (o ∷ os) = unless_zero o.sign (delay_by o.symbol (output_delay net o.symbol)) ++ output_delays net os

-- all delays of a netlist
abbrev pub delays : Netlist → List Delay
delays net = operand_delays net net.head.n net.operations ++ output_delays net net.outputs

unfoldable pub longest_of : ℕ → List Delay → ℕ
longest_of symbol [] = 0
longest_of symbol (d ∷ ds) = elim (eqb d.symbol symbol) [ true ↦ max d.clocks (longest_of symbol ds) | false ↦ longest_of symbol ds ]

-- "Delays of one symbol are shared, so it costs as many registers as its longest delay"
unfoldable pub longest_delay : Netlist → ℕ → ℕ
unfolding longest_of operand_delays output_delays
longest_delay net symbol = longest_of symbol (delays net)

-- ---- the registers: "the operations' by symbol, then each symbol's delays by symbol, newest first"

-- the registers of the delays of the symbols below this one
unfoldable pub delays_below : Netlist → ℕ → ℕ
delays_below net zero = 0
delays_below net (suc symbol) = delays_below net symbol + longest_delay net symbol

-- "the total of these and the operations' registers"
abbrev pub registers : Netlist → ℕ
registers net = length net.operations + delays_below net (symbols net)

-- the place of a symbol's newest delay, which holds the value that it had one clock before; older ones follow
abbrev pub delay_place : Netlist → ℕ → ℕ
delay_place net symbol = length net.operations + delays_below net symbol
