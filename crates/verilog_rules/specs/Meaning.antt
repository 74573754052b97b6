-- Document 01, "Verilog": what a module's assignments mean. "Let w be the largest width among an assignment's operands and target. Worked
-- modulo 2^w, cut to the target and read as two's complement": the rule of IEEE 1364-2005 where all operands are signed (Standard).
-- Assumes nothing.
use Rattle.std.specs.Prelude.{ℕ, suc, ◌+◌, ◌-◌, ◌%◌, ◌^◌, ◌<◌, max, ◌≡◌, List, [], ◌∷◌, ◌++◌, map, ℤ, pos, negsuc, neg_ℤ, ◌+ℤ◌, ◌-ℤ◌, length, get_or}
use Rattle.layout_rules.specs.Bytes.{signed_of}
use Rattle.board_rules.specs.Machine.{entry_at, shifted}
use Rattle.verilog_rules.specs.Module.{Operand, Expression, sum, difference, plain, negated, constant, Assignment, Module}

-- ---- bits

-- z modulo 2^w: of −(k + 1) it is 2^w − 1 − (k modulo 2^w)
unfoldable pub modulo : ℕ → ℤ → ℕ
modulo w (pos k) = k % 2 ^ w
modulo w (negsuc k) = 2 ^ w - suc (k % 2 ^ w)

-- w bits read as two's complement
unfoldable pub twos_complement : ℕ → ℕ → ℤ
twos_complement w bits = signed_of w bits

-- an input, a wire or an output: its declared width and its bits
pub record Signal : Type 0 where
  pub width : ℕ
  pub bits : ℕ

abbrev pub value : Signal → ℤ
value x = twos_complement x.width x.bits

-- a number, cut to w bits
abbrev pub signal : ℕ → ℤ → Signal
signal w z = record { width = w; bits = modulo w z }

-- signals stand by symbol, as the board machine's entries do
abbrev pub signal_at : List Signal → ℕ → Signal
signal_at signals symbol = get_or signals symbol (signal 1 (pos 0))

-- ---- an assignment

abbrev pub operand_width : List Signal → Operand → ℕ
operand_width signals a = (signal_at signals a.symbol).width

-- the largest width among the operands
abbrev pub expression_width : List Signal → Expression → ℕ
expression_width signals (sum a b) = max (operand_width signals a) (operand_width signals b)
expression_width signals (difference a b) = max (operand_width signals a) (operand_width signals b)
expression_width signals (plain a) = operand_width signals a
expression_width signals (negated a) = operand_width signals a
expression_width signals constant = 1

-- an operand, two's complement of its declared width, is taken modulo 2^w (its sign is extended), then shifted
unfoldable pub operand_bits : ℕ → List Signal → Operand → ℕ
unfolding modulo twos_complement
operand_bits w signals a =
    let extended = modulo w (value (signal_at signals a.symbol)) in
    modulo w (shifted (pos extended) a.shift)

-- worked modulo 2^w
unfoldable pub expression_bits : ℕ → List Signal → Expression → ℕ
unfolding modulo operand_bits
expression_bits w signals (sum a b) = modulo w (pos (operand_bits w signals a) +ℤ pos (operand_bits w signals b))
expression_bits w signals (difference a b) = modulo w (pos (operand_bits w signals a) -ℤ pos (operand_bits w signals b))
expression_bits w signals (plain a) = operand_bits w signals a
expression_bits w signals (negated a) = modulo w (neg_ℤ (pos (operand_bits w signals a)))
expression_bits w signals constant = 0

-- with w the largest width among operands and target, the expression modulo 2^w, cut to the target
unfoldable pub assigned : List Signal → Assignment → Signal
unfolding modulo expression_bits
assigned signals a =
    let w = max a.width (expression_width signals a.expression) in
    signal a.width (pos (expression_bits w signals a.expression))

-- ---- the module

-- an input has its sample, in the sample width's bits
abbrev pub input_signals : ℕ → List ℤ → List Signal
input_signals s samples = map (signal s) samples

-- the wires in order, behind the signals that there are
unfoldable pub wire_signals : List Signal → List Assignment → List Signal
unfolding assigned
wire_signals signals [] = signals
wire_signals signals (a ∷ rest) = wire_signals (signals ++ (assigned signals a ∷ [])) rest

-- inputs and wires
abbrev pub signals_of : Module → List ℤ → List Signal
signals_of m samples = wire_signals (input_signals m.sample_width samples) m.wires

abbrev pub output_signals : Module → List ℤ → List Signal
output_signals m samples = map (assigned (signals_of m samples)) m.outputs

-- assignments hold all at once, in whatever order a tool carries them out: the signals are settled where each input is its sample and
-- each wire is what its assignment says of these same signals
pub record Settled (m : Module) (samples : List ℤ) (signals : List Signal) : Type 0 where
  pub input : (j : ℕ) → j < length samples → signal_at signals j ≡ signal m.sample_width (entry_at samples j)
  pub wire : (before after : List Assignment) (a : Assignment) → m.wires ≡ before ++ a ∷ after
      → signal_at signals (length samples + length before) ≡ assigned signals a
