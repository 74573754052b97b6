-- Document 01, "Programs": what the program compile-bank writes for a matrix's bytes and a sample width.
-- Assumes nothing.
use Rattle.std.specs.Prelude.{ℕ, zero, suc, List}
use Rattle.layout_rules.specs.Places.{enough_bytes}
use Rattle.compile_rules.specs.Compile.{compiled_bytes, input_refusal}
use Rattle.text.specs.Text.{refused_line}
use Rattle.text.specs.Wrote.{text_in}

-- the netlist's bytes for samples of s bits, or the refusal's line; compile has room for every netlist, so it is one of 20 and 1 to 5
unfoldable pub compile_output : ℕ → List ℕ → List ℕ
compile_output s bytes = elim (input_refusal s bytes) [ suc r ↦ refused_line (suc r) 0 | zero ↦ compiled_bytes s bytes ]

-- nothing where fewer bytes are lent than suffice for every netlist
abbrev pub compile_output_in : ℕ → ℕ → List ℕ → List ℕ
compile_output_in lent s bytes = text_in enough_bytes lent (compile_output s bytes)
