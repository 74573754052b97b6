-- Document 01, "Programs": what the program list-bank prints for a matrix's bytes and a sample width.
-- Assumes nothing.
use Rattle.std.specs.Prelude.{ℕ, zero, suc, List}
use Rattle.limits.specs.Limits.{max_rows, max_operations}
use Rattle.layout_rules.specs.Matrix.{rows, columns}
use Rattle.compile_rules.specs.Compile.{compile_accepted, compiled_netlist, input_refusal}
use Rattle.listing_rules.specs.declared.Counts.{Counts}
use Rattle.listing_rules.specs.Listing.{listing}
use Rattle.text.specs.Text.{refused_line}
use Rattle.listing_rules.specs.Records.{room}
use Rattle.text.specs.Wrote.{text_in}

-- the first line's numbers: the matrix's, and those that compile reports
abbrev pub counts_of : ℕ → List ℕ → Counts
counts_of s bytes =
    record {
      inputs = columns bytes;
      outputs = rows bytes;
      operations = (compile_accepted s bytes).operations;
      plain = (compile_accepted s bytes).plain;
      divisors = (compile_accepted s bytes).divisors;
      replacements = (compile_accepted s bytes).replacements;
      depth = (compile_accepted s bytes).depth;
    }

-- the netlist's text for samples of s bits, or the refusal's; compile has room for every netlist, so it is one of 20 and 1 to 5
unfoldable pub bank_text : ℕ → List ℕ → List ℕ
bank_text s bytes =
    elim (input_refusal s bytes) [
      | suc r ↦ refused_line (suc r) 0
      | zero ↦ listing (counts_of s bytes) (compiled_netlist s bytes).operations (compiled_netlist s bytes).outputs
    ]

-- bytes that hold the text of every compiled netlist
abbrev pub longest_bank_text : ℕ
longest_bank_text = room max_operations max_rows

-- nothing where the lent text is shorter than the longest text
abbrev pub bank_text_in : ℕ → ℕ → List ℕ → List ℕ
bank_text_in lent s bytes = text_in longest_bank_text lent (bank_text s bytes)
