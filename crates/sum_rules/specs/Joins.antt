-- Document 01, "Operations and outputs of a matrix": the operation of a divisor, and what two terms of a row are joined to. Widths are 0
-- here; `Compile` fills them in.
-- Assumes nothing.
use Rattle.std.specs.Prelude.{ℕ, Bool, true, false}
use Rattle.std.specs.Bool.{xor}
use Rattle.term.specs.declared.Term.{Term}
use Rattle.elimination_rules.specs.declared.Divisor.{Divisor}
use Rattle.layout_rules.specs.declared.Operation.{Operation}
use Rattle.layout_rules.specs.declared.Output.{Output}

-- 0 add or plus, 1 subtract or minus
unfoldable pub sign_field : Bool → ℕ
sign_field false = 0
sign_field true = 1

-- one per divisor: (a shifted by ea) plus or minus (b shifted by eb)
abbrev pub divisor_operation : Divisor → Operation
divisor_operation d = record { sign = sign_field d.minus; a = d.a; sa = d.ea; b = d.b; sb = d.eb; width = 0 }

-- two terms: the first's operand, plus the second's where their signs agree, minus it where they differ
abbrev pub join_operation : Term → Term → Operation
join_operation t u =
    record { sign = sign_field (xor t.negative u.negative); a = t.symbol; sa = t.exponent; b = u.symbol; sb = u.exponent; width = 0 }

-- the result is a term: the operation's symbol, exponent 0, the sign of the first
abbrev pub joined_term : ℕ → Term → Term
joined_term symbol t = record { symbol = symbol; exponent = 0; negative = t.negative }

-- the last term, with its sign and shift, is the output; a row without terms has the zero output
abbrev pub term_output : Term → Output
term_output t = record { sign = sign_field t.negative; symbol = t.symbol; shift = t.exponent; width = 0 }

abbrev pub zero_output : Output
zero_output = record { sign = 2; symbol = 0; shift = 0; width = 0 }
