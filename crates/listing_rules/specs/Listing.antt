-- Document 01, "Programs": the text that the program list-bank prints, as bytes. Every line ends in a line feed.
-- Assumes nothing.
use Rattle.std.specs.Prelude.{ℕ, cond, List, [], ◌++◌, eqb}
use Rattle.layout_rules.specs.declared.Operation.{Operation}
use Rattle.layout_rules.specs.declared.Output.{Output}
use Rattle.text.specs.Decimal.{number}
use Rattle.text.specs.Text.{ascii, lines}
use Rattle.listing_rules.specs.declared.Counts.{Counts}

-- the first line: inputs N outputs M operations K plain P divisors D replacements R depth X
unfoldable pub counts_line : Counts → List ℕ
counts_line c =
    ascii "inputs "
    ++ number c.inputs
    ++ ascii " outputs "
    ++ number c.outputs
    ++ ascii " operations "
    ++ number c.operations
    ++ ascii " plain "
    ++ number c.plain
    ++ ascii " divisors "
    ++ number c.divisors
    ++ ascii " replacements "
    ++ number c.replacements
    ++ ascii " depth "
    ++ number c.depth
    ++ ascii "\n"

-- operand<<shift
abbrev pub shifted_operand : ℕ → ℕ → List ℕ
shifted_operand operand shift = number operand ++ ascii "<<" ++ number shift

-- an operation's sign: + for 0, add; - for 1, subtract
abbrev pub operation_sign : ℕ → List ℕ
operation_sign sign = cond (eqb sign 0) (ascii " + ") (ascii " - ")

-- symbol, operand<<shift, sign, operand<<shift, width
unfoldable pub operation_line : ℕ → Operation → List ℕ
operation_line symbol o =
    number symbol
    ++ ascii " = "
    ++ shifted_operand o.a o.sa
    ++ operation_sign o.sign
    ++ shifted_operand o.b o.sb
    ++ ascii " width "
    ++ number o.width
    ++ ascii "\n"

-- an output's sign: none for 0, plus; - for 1, minus
abbrev pub output_sign : ℕ → List ℕ
output_sign sign = cond (eqb sign 0) [] (ascii "-")

-- an output that is not zero: sign, symbol<<shift
abbrev pub entry_text : Output → List ℕ
entry_text o = ascii " = " ++ output_sign o.sign ++ shifted_operand o.symbol o.shift

-- what stands behind an output's row; zero where the sign is 2
unfoldable pub value_text : Output → List ℕ
value_text o = cond (eqb o.sign 2) (ascii " = zero width 1\n") (entry_text o ++ ascii " width " ++ number o.width ++ ascii "\n")

-- row, sign, symbol<<shift, width
abbrev pub output_line : ℕ → Output → List ℕ
output_line row o = ascii "row " ++ number row ++ value_text o

-- operations have symbols from the number of inputs on, rows count from 0
abbrev pub listing : Counts → List Operation → List Output → List ℕ
listing c operations outputs = counts_line c ++ lines operation_line c.inputs operations ++ lines output_line 0 outputs
