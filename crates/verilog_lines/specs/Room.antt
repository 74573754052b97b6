-- Bytes that hold a line of a module: a number has at most 5 digits there, an operand at most 18 bytes.
-- Assumes nothing.
use Rattle.std.specs.Prelude.{ℕ}

-- the line of an output; that of an input is one byte shorter
abbrev pub longest_port_line : ℕ
longest_port_line = 34

abbrev pub longest_wire_line : ℕ
longest_wire_line = 32

abbrev pub longest_wire_assignment : ℕ
longest_wire_assignment = 59

abbrev pub longest_output_assignment : ℕ
longest_output_assignment = 39
