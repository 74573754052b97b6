-- Document 01, "Programs": what the program clock-bank prints for a netlist and a list of samples, both given as bytes.
-- Assumes nothing.
use Rattle.std.specs.Prelude.{ℕ, zero, suc, List, pos}
use Rattle.arrays.specs.Filled.{filled}
use Rattle.text.specs.Text.{refused_line}
use Rattle.clock_text.specs.Lines.{clock_lines}
use Rattle.clock_text.specs.ListBytes.{outputs_of, bytes_outputs, clocked_answer}

-- a line a clock, or the refusal
unfoldable pub clock_text : List ℕ → List ℕ → List ℕ
clock_text netlist bytes =
    let answer = clocked_answer netlist bytes in
    elim answer.refusal [
      | suc r ↦ refused_line (suc r) answer.place
      | zero ↦ clock_lines answer.rows (bytes_outputs netlist bytes (filled (outputs_of netlist bytes) (pos 0))) answer.clocks
    ]
