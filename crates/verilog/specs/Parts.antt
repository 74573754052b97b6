-- Writing a module part by part: its wires and rows, the two halves of the text, and bytes that hold them as the
-- writers ask for them.
-- Assumes nothing.
use Rattle.std.specs.Prelude.{ℕ, ◌+◌, ◌*◌, List, ◌++◌, length, replicate, map}
use Rattle.limits.specs.Limits.{max_rows, max_columns, max_operations}
use Rattle.layout_rules.specs.Places.{operations_in, outputs_in}
use Rattle.text.specs.Text.{ascii, lines}
use Rattle.verilog_rules.specs.Module.{Assignment, Module, wire_of, output_of}
use Rattle.verilog_rules.specs.Text.{first_line, input_line, output_line, wire_line, wire_assignment, output_assignment}
use Rattle.verilog_lines.specs.Room.{longest_port_line, longest_wire_assignment, longest_output_assignment}

-- the wires and the rows of a netlist in bytes
abbrev pub wires : List ℕ → List Assignment
wires b = map wire_of (operations_in b)

abbrev pub rows : List ℕ → List Assignment
rows b = map output_of (outputs_in b)

-- up to the end of the ports
unfoldable pub ports_text : Module → List ℕ
ports_text m =
    let n = m.inputs in
    let ports = n + length m.outputs in
    first_line ports
    ++ lines (input_line ports) 0 (replicate n m.sample_width)
    ++ lines (output_line ports n) 0 m.outputs
    ++ ascii ");\n"

-- wires and assignments
unfoldable pub assignments_text : Module → List ℕ
assignments_text m =
    let n = m.inputs in
    lines wire_line n m.wires ++ lines (wire_assignment n) n m.wires ++ lines (output_assignment n) 0 m.outputs

-- an assignment is the longer of two lines
abbrev pub ports_room : ℕ
ports_room = 17 + longest_port_line * max_columns + longest_output_assignment * max_rows

abbrev pub assignments_room : ℕ
assignments_room = 2 * longest_wire_assignment * max_operations + longest_output_assignment * max_rows

abbrev pub room : ℕ
room = ports_room + assignments_room + 10
