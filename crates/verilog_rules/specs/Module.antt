-- Document 01, "Verilog": the module of a netlist, as data. Its text (Text) and its meaning (Meaning) are functions of this data alone.
-- Assumes nothing.
use Rattle.std.specs.Prelude.{ℕ, zero, suc, List, map}
use Rattle.layout_rules.specs.declared.Operation.{Operation}
use Rattle.layout_rules.specs.declared.Output.{Output}
use Rattle.layout_rules.specs.Records.{Netlist}

-- ---- what a module is

-- (NAME <<< SHIFT): the signal of a symbol, an input or a wire, shifted to the left
pub record Operand : Type 0 where
  pub symbol : ℕ
  pub shift : ℕ

-- the right side of an assignment: (A <<< s) + (B <<< t), (A <<< s) - (B <<< t), (A <<< s), -(A <<< s), or the one-bit signed constant 0
pub data Expression : Type 0 where
  sum difference : Operand → Operand → Expression
  plain negated : Operand → Expression
  constant : Expression

-- a wire or an output: the declared width, and what is assigned
pub record Assignment : Type 0 where
  pub width : ℕ
  pub expression : Expression

-- so many inputs of the sample width, symbols 0 on; wires, which have the symbols behind these; outputs
pub record Module : Type 0 where
  pub sample_width : ℕ
  pub inputs : ℕ
  pub wires : List Assignment
  pub outputs : List Assignment

-- ---- the module of a netlist

abbrev pub operand : ℕ → ℕ → Operand
operand symbol shift = record { symbol = symbol; shift = shift }

-- an operation: the sign 0 adds, 1 subtracts
abbrev pub joined_operands : ℕ → Operand → Operand → Expression
joined_operands zero a b = sum a b
joined_operands (suc _) a b = difference a b

-- "a signed wire of the recorded width per operation"
abbrev pub wire_of : Operation → Assignment
wire_of o = record { width = o.width; expression = joined_operands o.sign (operand o.a o.sa) (operand o.b o.sb) }

-- an output: plus (sign 0), minus (1), zero (2)
abbrev pub signed_operand : ℕ → Operand → Expression
signed_operand zero a = plain a
signed_operand (suc zero) a = negated a
signed_operand (suc (suc _)) a = constant

-- "a signed output of the recorded width per row"
abbrev pub output_of : Output → Assignment
output_of o = record { width = o.width; expression = signed_operand o.sign (operand o.symbol o.shift) }

-- "a signed input of the sample width per column"
abbrev pub module_of : Netlist → Module
module_of net =
    record {
      sample_width = net.head.width;
      inputs = net.head.n;
      wires = map wire_of net.operations;
      outputs = map output_of net.outputs;
    }
