-- Document 01, "Verilog": one complete module, the module of no rows, values at both ends of the samples, and two modules that go wrong.
-- Assumes nothing.
use Rattle.std.specs.Prelude.{ℕ, ◌≡◌, false, List, [], ◌∷◌, map, ℤ, pos, negsuc}
use Rattle.limits.specs.Limits.{unstated_width}
use Rattle.layout_rules.specs.Records.{Netlist, netlist_without_rows}
use Rattle.text.specs.Text.{ascii}
use Rattle.verilog_rules.specs.Module.{module_of}
use Rattle.verilog_rules.specs.Meaning.{value, input_signals, output_signals}
use Rattle.verilog_rules.specs.Standard.{add, vector, literal, tree_assigned}
use Rattle.verilog_rules.specs.Answer.{netlist_text, enough_text}

-- rows 3 −3, −1 0 and 0 0, for samples of 16 bits: the first operation has the width w, of which 17 is right
abbrev pub netlist : ℕ → Netlist
netlist w = record {
  head = record { m = 3; n = 2; operations = 2; width = unstated_width };
  operations = record { sign = 1; a = 0; sa = 0; b = 1; sb = 0; width = w } ∷ record { sign = 1; a = 2; sa = 2; b = 2; sb = 0; width = 19 } ∷ [];
  outputs =
      record { sign = 0; symbol = 3; shift = 0; width = 19 }
      ∷ record { sign = 1; symbol = 0; shift = 0; width = 17 }
      ∷ record { sign = 2; symbol = 0; shift = 0; width = 1 }
      ∷ [];
  totals = record { operations = 2; depth = 2 };
}

-- 32,767 and −32,768
abbrev pub steep : List ℤ
steep = pos 32767 ∷ negsuc 32767 ∷ []

abbrev pub computed : ℕ → List ℤ → List ℤ
computed w samples = map value (output_signals (module_of (netlist w)) samples)

pub record MarkedModules : Type 0 where
  pub text : netlist_text (netlist 17)
      ≡ ascii "module bank (\n  input signed [15:0] x0,\n  input signed [15:0] x1,\n  output signed [18:0] y0,\n  output signed [16:0] y1,\n  output signed [0:0] y2\n);\n  wire signed [16:0] s2;\n  wire signed [18:0] s3;\n  assign s2 = (x0 <<< 0) - (x1 <<< 0);\n  assign s3 = (s2 <<< 2) - (s2 <<< 0);\n  assign y0 = (s3 <<< 0);\n  assign y1 = -(x0 <<< 0);\n  assign y2 = 1'sb0;\nendmodule\n"
  pub no_rows : netlist_text (netlist_without_rows unstated_width) ≡ ascii "module bank ();\nendmodule\n"
  pub highest : computed 17 steep ≡ pos 196605 ∷ negsuc 32766 ∷ pos 0 ∷ []
  pub lowest : computed 17 (negsuc 32767 ∷ pos 32767 ∷ []) ≡ negsuc 196604 ∷ pos 32768 ∷ pos 0 ∷ []
  -- one bit too narrow: 65,535 wraps to −1, and the bank's 196,605 is lost
  pub narrow : computed 16 steep ≡ negsuc 2 ∷ negsuc 32766 ∷ pos 0 ∷ []
  -- an unsigned constant makes the whole expression unsigned: −1 + 1'b0 is 65,535
  pub unsigned : value (tree_assigned (input_signals 16 (negsuc 0 ∷ [])) 17 (add (vector 0) (literal false 1 0))) ≡ pos 65535
  -- bytes that hold the text of every netlist
  pub longest : enough_text ≡ 37987
