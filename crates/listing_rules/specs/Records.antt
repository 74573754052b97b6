-- Document 01, "Netlist and board machine": the text of the operations and outputs that stand in a netlist's bytes.
-- Assumes nothing.
use Rattle.std.specs.Prelude.{ℕ, ◌+◌, ◌*◌, List}
use Rattle.layout_rules.specs.Places.{first_operations, first_outputs}
use Rattle.listing_rules.specs.Listing.{listing}
use Rattle.listing_rules.specs.declared.Counts.{Counts}

-- the text of the counts and of a netlist's bytes
abbrev pub listing_of : Counts → List ℕ → List ℕ
listing_of c netlist = listing c (first_operations netlist c.operations) (first_outputs netlist c.operations c.outputs)

-- ---- bytes that hold a line: a number of 2 bytes has at most 5 digits, a place at most 20

abbrev pub longest_counts_line : ℕ
longest_counts_line = 102

abbrev pub longest_operation_line : ℕ
longest_operation_line = 48

abbrev pub longest_output_line : ℕ
longest_output_line = 38

-- bytes that hold the text
abbrev pub room : ℕ → ℕ → ℕ
room operations outputs = longest_counts_line + longest_operation_line * operations + longest_output_line * outputs
