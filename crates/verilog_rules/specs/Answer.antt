-- Document 01, "Verilog" and "Why a record was declined": what write_verilog answers.
-- Assumes nothing.
use Rattle.std.specs.Prelude.{ℕ, ◌+◌, ◌*◌, true, false, List, ◌++◌, ltb, length, drop}
use Rattle.limits.specs.Limits.{max_rows, max_columns, max_operations}
use Rattle.layout_rules.specs.Records.{Netlist}
use Rattle.netlist_rules.specs.Read.{refused, accepted, read_netlist}
use Rattle.verilog_rules.specs.Module.{module_of}
use Rattle.verilog_rules.specs.Text.{module_text}
use Rattle.verilog_rules.specs.declared.VerilogAnswer.{VerilogAnswer}

-- the text of a netlist's module
abbrev pub netlist_text : Netlist → List ℕ
netlist_text net = module_text (module_of net)

-- bytes that hold the text of m rows, n columns and k operations: of symbols with up to three digits, widths and shifts with up to two
abbrev pub text_room : ℕ → ℕ → ℕ → ℕ
text_room m n k = 27 + 26 * n + 57 * m + 74 * k

-- "37,987 bytes always suffice."
abbrev pub enough_text : ℕ
enough_text = text_room max_rows max_columns max_operations

abbrev pub verilog_refused : ℕ → ℕ → VerilogAnswer
verilog_refused r place = record { refusal = r; place = place; written = 0 }

-- 6: the buffer, of so many bytes, is shorter than the text
unfoldable pub text_answer : List ℕ → ℕ → VerilogAnswer
text_answer text lent =
    elim (ltb lent (length text)) [ true ↦ verilog_refused 6 0 | false ↦ record { refusal = 0; place = 0; written = length text } ]

-- 7 to 12, 6, of a netlist's bytes and the number of bytes lent
unfoldable pub verilog_answer : List ℕ → ℕ → VerilogAnswer
verilog_answer bytes lent =
    elim (read_netlist bytes) [ refused r place ↦ verilog_refused r place | accepted net ↦ text_answer (netlist_text net) lent ]

-- the text and then what stood there, or the buffer as it was where the text is longer
unfoldable pub text_buffer : List ℕ → List ℕ → List ℕ
text_buffer text buffer = elim (ltb (length buffer) (length text)) [ true ↦ buffer | false ↦ text ++ drop (length text) buffer ]

-- the lent buffer afterwards: as it was where write_verilog refuses
unfoldable pub verilog_buffer : List ℕ → List ℕ → List ℕ
verilog_buffer bytes buffer = elim (read_netlist bytes) [ refused r place ↦ buffer | accepted net ↦ text_buffer (netlist_text net) buffer ]
