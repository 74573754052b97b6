-- The lines as their writers put them together.
-- Assumes nothing.
use mathlib.Core.Path.{◌≡◌, refl}
use mathlib.Core.Bool.{cond}
use mathlib.Core.List.{◌++◌}
use Prim.Native.Nat.{ℕ, zero, suc, ◌+◌, pred}
use native.Mathlib.Omega.{arith}
use borrow.Author.Tests.{ne_eqb}
use lib.Dec.{eqb}
use Rattle.layout_rules.specs.declared.Operation.{Operation}
use Rattle.layout_rules.specs.declared.Output.{Output}
use Rattle.text.specs.Decimal.{number}
use Rattle.text.specs.Text.{ascii}
use Rattle.verilog_rules.specs.Module.{Operand, operand, joined_operands, wire_of, signed_operand, output_of, Assignment}
use Rattle.verilog_rules.specs.Text.{port_end, input_line, output_line, wire_line, name, operand_text, expression_text, wire_assignment, output_assignment}

-- ---- ports and wires: the highest bit's number as `top_bit` gives it, the port's as it is counted in code

pub input_parts : (ports column width top : ℕ) → top ≡ pred width
    → (ascii "  input signed [" ++ number top ++ ascii ":0] x" ++ number column) ++ port_end ports (column + 1) ≡ input_line ports column width
unfolding input_line
input_parts ports column width top e =
    let s : column + 1 ≡ suc column = omega arith in
    rw (e, s)

pub output_parts : (ports inputs row top : ℕ) (a : Assignment) → top ≡ pred a.width
    → (ascii "  output signed [" ++ number top ++ ascii ":0] y" ++ number row) ++ port_end ports (inputs + row + 1) ≡ output_line ports inputs row a
unfolding output_line
output_parts ports inputs row top a e =
    let s : inputs + row + 1 ≡ inputs + suc row = omega arith in
    rw (e, s)

pub wire_parts : (symbol top : ℕ) (a : Assignment) → top ≡ pred a.width
    → (ascii "  wire signed [" ++ number top ++ ascii ":0] s" ++ number symbol) ++ ascii ";\n" ≡ wire_line symbol a
unfolding wire_line
wire_parts symbol top a e = rw e

-- ---- operands

pub operand_parts : (inputs symbol shift : ℕ)
    → (ascii "(" ++ name inputs symbol ++ ascii " <<< " ++ number shift) ++ ascii ")" ≡ operand_text inputs (operand symbol shift)
unfolding operand_text
operand_parts inputs symbol shift = refl

-- ---- expressions

joined_parts : (inputs sign : ℕ) (a b : Operand)
    → operand_text inputs a ++ cond (eqb sign 0) (ascii " + ") (ascii " - ") ++ operand_text inputs b ≡ expression_text inputs (joined_operands sign a b)
unfolding expression_text
joined_parts inputs zero a b = refl
joined_parts inputs (suc sign) a b = rw (ne_eqb (suc sign) 0 (λ e. absurd (omega arith)))

pub operation_parts : (inputs : ℕ) (o : Operation)
    → operand_text inputs (operand o.a o.sa) ++ cond (eqb o.sign 0) (ascii " + ") (ascii " - ") ++ operand_text inputs (operand o.b o.sb)
    ≡ expression_text inputs (wire_of o).expression
operation_parts inputs o = joined_parts inputs o.sign (operand o.a o.sa) (operand o.b o.sb)

pub output_plus : (inputs : ℕ) (o : Output) → o.sign ≡ 0
    → operand_text inputs (operand o.symbol o.shift) ≡ expression_text inputs (output_of o).expression
unfolding expression_text
output_plus inputs o e = rw e

pub output-minus : (inputs : ℕ) (o : Output) → o.sign ≡ 1
    → ascii "-" ++ operand_text inputs (operand o.symbol o.shift) ≡ expression_text inputs (output_of o).expression
unfolding expression_text
output-minus inputs o e = rw e

constant-otherwise : (inputs sign : ℕ) (a : Operand) → (sign ≡ 0 → ⊥) → (sign ≡ 1 → ⊥) → ascii "1'sb0" ≡ expression_text inputs (signed_operand sign a)
unfolding expression_text
constant-otherwise inputs zero a h g = absurd (h refl)
constant-otherwise inputs (suc zero) a h g = absurd (g refl)
constant-otherwise inputs (suc (suc sign)) a h g = refl

pub output-zero : (inputs : ℕ) (o : Output) → (o.sign ≡ 0 → ⊥) → (o.sign ≡ 1 → ⊥) → ascii "1'sb0" ≡ expression_text inputs (output_of o).expression
output-zero inputs o h g = constant-otherwise inputs o.sign (operand o.symbol o.shift) h g

-- ---- assignments

pub wire_assignment_parts : (inputs symbol : ℕ) (a : Assignment)
    → (ascii "  assign s" ++ number symbol) ++ ascii " = " ++ expression_text inputs a.expression ++ ascii ";\n" ≡ wire_assignment inputs symbol a
unfolding wire_assignment
wire_assignment_parts inputs symbol a = refl

pub output_assignment_parts : (inputs row : ℕ) (a : Assignment)
    → (ascii "  assign y" ++ number row) ++ ascii " = " ++ expression_text inputs a.expression ++ ascii ";\n" ≡ output_assignment inputs row a
unfolding output_assignment
output_assignment_parts inputs row a = refl
