-- Document 01, "Verilog": the text of a module, as bytes. Every line ends in a line feed.
-- Assumes nothing.
use Rattle.std.specs.Prelude.{ℕ, suc, ◌+◌, pred, cond, List, [], ◌++◌, ltb, eqb, length, replicate}
use Rattle.text.specs.Decimal.{number}
use Rattle.text.specs.Text.{ascii, lines}
use Rattle.verilog_rules.specs.Module.{Operand, Expression, sum, difference, plain, negated, constant, Assignment, Module}

-- ---- ports: inputs, then outputs, one a line

-- behind the port with a number, counted from 1 on, of so many: a comma, unless it is the last
abbrev pub port_end : ℕ → ℕ → List ℕ
port_end ports port = cond (eqb port ports) (ascii "\n") (ascii ",\n")

-- input signed [WIDTH-1:0] xCOLUMN
unfoldable pub input_line : ℕ → ℕ → ℕ → List ℕ
input_line ports column width = ascii "  input signed [" ++ number (pred width) ++ ascii ":0] x" ++ number column ++ port_end ports (suc column)

-- output signed [WIDTH-1:0] yROW, behind so many inputs
unfoldable pub output_line : ℕ → ℕ → ℕ → Assignment → List ℕ
output_line ports inputs row a =
    ascii "  output signed [" ++ number (pred a.width) ++ ascii ":0] y" ++ number row ++ port_end ports (inputs + suc row)

-- without ports the list is ()
abbrev pub first_line : ℕ → List ℕ
first_line ports = ascii "module bank (" ++ cond (eqb ports 0) [] (ascii "\n")

-- ---- wires

-- wire signed [WIDTH-1:0] sSYMBOL;
unfoldable pub wire_line : ℕ → Assignment → List ℕ
wire_line symbol a = ascii "  wire signed [" ++ number (pred a.width) ++ ascii ":0] s" ++ number symbol ++ ascii ";\n"

-- ---- assignments

-- of so many inputs: x and its symbol for an input, s and its symbol for a wire
abbrev pub name : ℕ → ℕ → List ℕ
name inputs symbol = cond (ltb symbol inputs) (ascii "x") (ascii "s") ++ number symbol

-- (NAME <<< SHIFT)
unfoldable pub operand_text : ℕ → Operand → List ℕ
operand_text inputs a = ascii "(" ++ name inputs a.symbol ++ ascii " <<< " ++ number a.shift ++ ascii ")"

unfoldable pub expression_text : ℕ → Expression → List ℕ
expression_text inputs (sum a b) = operand_text inputs a ++ ascii " + " ++ operand_text inputs b
expression_text inputs (difference a b) = operand_text inputs a ++ ascii " - " ++ operand_text inputs b
expression_text inputs (plain a) = operand_text inputs a
expression_text inputs (negated a) = ascii "-" ++ operand_text inputs a
expression_text inputs constant = ascii "1'sb0"

-- assign sSYMBOL = EXPRESSION;
unfoldable pub wire_assignment : ℕ → ℕ → Assignment → List ℕ
wire_assignment inputs symbol a = ascii "  assign s" ++ number symbol ++ ascii " = " ++ expression_text inputs a.expression ++ ascii ";\n"

-- assign yROW = EXPRESSION;
unfoldable pub output_assignment : ℕ → ℕ → Assignment → List ℕ
output_assignment inputs row a = ascii "  assign y" ++ number row ++ ascii " = " ++ expression_text inputs a.expression ++ ascii ";\n"

-- ---- the module

-- its ports, its wires, then an assignment for each wire and each output; wires have the symbols behind the inputs
unfoldable pub module_text : Module → List ℕ
module_text m =
    let n = m.inputs in
    let ports = n + length m.outputs in
    first_line ports
    ++ lines (input_line ports) 0 (replicate n m.sample_width)
    ++ lines (output_line ports n) 0 m.outputs
    ++ ascii ");\n"
    ++ lines wire_line n m.wires
    ++ lines (wire_assignment n) n m.wires
    ++ lines (output_assignment n) 0 m.outputs
    ++ ascii "endmodule\n"
