-- Document 01, "Verilog": what is claimed of the module that is written for a netlist of a matrix.
-- Assumes nothing.
use Rattle.std.specs.Prelude.{◌≡◌, List, ◌∷◌, ◌++◌, map, ℕ, ℤ, length, drop}
use Rattle.layout_rules.specs.Matrix.{columns, matrix}
use Rattle.board_rules.specs.Machine.{times}
use Rattle.board_rules.specs.Width.{Samples}
use Rattle.verilog_rules.specs.Module.{Assignment, Module}
use Rattle.verilog_rules.specs.Meaning.{Signal, value, assigned, signals_of, Settled}
use Rattle.verilog_rules.specs.Standard.{assigned_by_standard}
use Rattle.verilog_rules.specs.Text.{module_text}
use Rattle.verilog_rules.specs.Answer.{verilog_answer, verilog_buffer}

-- in assignments as IEEE 1364-2005 has them each says what Meaning says
abbrev pub ByTheStandard : List Assignment → Type 0
ByTheStandard assignments =
    (signals : List Signal) (before after : List Assignment) (a : Assignment) → assignments ≡ before ++ a ∷ after
    → assigned_by_standard signals a ≡ assigned signals a

-- the sample width, the matrix's bytes, the netlist's bytes and the buffer that is lent for the text
pub record WrittenModule (s : ℕ) (matrix_bytes netlist buffer : List ℕ) : Type 0 where
  pub its_module : Module
  -- write_verilog accepts, and what it writes is the module's text; behind it the buffer is as it was
  pub accepts : verilog_answer netlist (length buffer) ≡ record { refusal = 0; place = 0; written = length (module_text its_module) }
  pub its_text : verilog_buffer netlist buffer ≡ module_text its_module ++ drop (length (module_text its_module)) buffer
  -- its assignments mean what the standard says
  pub standard_wires : ByTheStandard its_module.wires
  pub standard_outputs : ByTheStandard its_module.outputs
  -- for every vector of samples of the width its signals settle
  pub settles : (samples : List ℤ) → Samples s (columns matrix_bytes) samples → Settled its_module samples (signals_of its_module samples)
  -- and in whatever order a tool carries the assignments out, its outputs are row times vector
  pub row-times-vector : (samples : List ℤ) → Samples s (columns matrix_bytes) samples → (signals : List Signal) → Settled its_module samples signals
      → map value (map (assigned signals) its_module.outputs) ≡ map (λ row. times row samples) (matrix matrix_bytes)
