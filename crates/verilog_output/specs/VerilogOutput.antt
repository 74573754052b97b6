-- Document 01, "Programs": what the program verilog-bank writes for a netlist's bytes.
-- Assumes nothing.
use Rattle.std.specs.Prelude.{ℕ, List}
use Rattle.netlist_rules.specs.Read.{refused, accepted, read_netlist}
use Rattle.text.specs.Text.{refused_line}
use Rattle.text.specs.Wrote.{text_in}
use Rattle.verilog_rules.specs.Answer.{netlist_text, enough_text}

-- the text of the netlist's module, or the refusal's line; there is room for every text, so it is one of 7 to 12
unfoldable pub verilog_output : List ℕ → List ℕ
verilog_output bytes = elim (read_netlist bytes) [ refused r place ↦ refused_line r place | accepted net ↦ netlist_text net ]

-- nothing where fewer bytes are lent than suffice for every text
abbrev pub verilog_output_in : ℕ → List ℕ → List ℕ
verilog_output_in lent bytes = text_in enough_text lent (verilog_output bytes)
