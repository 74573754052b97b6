-- None of these lines is longer than the longest. Assumes nothing.
use Rattle.verilog_lines.specs.Room.{longest_port_line}
use Rattle.verilog.proofs.write_inputs.Given as goal

abbrev pub ghost-write_lines : goal.ghost-write_lines
ghost-write_lines a = longest_port_line
