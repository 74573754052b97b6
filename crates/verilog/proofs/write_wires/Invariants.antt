-- No wire's line is longer than an assignment. Assumes nothing.
use Rattle.verilog_lines.specs.Room.{longest_wire_assignment}
use Rattle.verilog.proofs.write_wires.Given as goal

abbrev pub ghost-write_lines : goal.ghost-write_lines
ghost-write_lines a = longest_wire_assignment
