-- Document 01, "Programs": what the program run-bank prints for a netlist and a vector of samples, both given as bytes. Every line ends in
-- a line feed.
-- Assumes nothing.
use Rattle.std.specs.Prelude.{ℕ, zero, suc, ◌*◌, ℤ, pos, negsuc, replicate}
use mathlib.Core.List.{List, ◌++◌, flat_map}
use Rattle.limits.specs.Limits.{max_rows}
use Rattle.netlist_rules.specs.Read.{read_answer}
use Rattle.netlist_rules.specs.Run.{run_answer, run_outputs}
use Rattle.run_text.specs.Samples.{samples_of}
use Rattle.text.specs.Decimal.{number}
use Rattle.text.specs.Text.{ascii, refused_line}
use Rattle.text.specs.Wrote.{text_in}

-- a whole number in decimal; −1 − k is negative, and its distance from 0 is k + 1
abbrev pub signed_number : ℤ → List ℕ
signed_number (pos k) = number k
signed_number (negsuc k) = ascii "-" ++ number (suc k)

abbrev pub value_line : ℤ → List ℕ
value_line z = signed_number z ++ ascii "\n"

-- one output a line, in their order
abbrev pub value_lines : List ℤ → List ℕ
value_lines outputs = flat_map value_line outputs

-- as many outputs are lent as read says that there are rows
abbrev pub rows_read : List ℕ → ℕ
rows_read netlist = (read_answer netlist).m

-- run's outputs, or its refusal
unfoldable pub run_text : List ℕ → List ℕ → List ℕ
run_text netlist samples =
    let xs = samples_of samples in
    let answer = run_answer netlist xs (rows_read netlist) in
    elim answer.refusal [
      | suc r ↦ refused_line (suc r) answer.place
      | zero ↦ value_lines (run_outputs netlist xs (replicate (rows_read netlist) (pos 0)))
    ]

-- the longest line: a sign, 19 digits and a line feed
abbrev pub longest_line : ℕ
longest_line = 21

-- bytes that hold the text: a line for each row
abbrev pub longest_run_text : ℕ
longest_run_text = longest_line * max_rows

-- nothing where the lent text is shorter than the longest text
abbrev pub run_text_in : ℕ → List ℕ → List ℕ → List ℕ
run_text_in lent netlist samples = text_in longest_run_text lent (run_text netlist samples)
