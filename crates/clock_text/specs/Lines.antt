-- Document 01, "Programs": the lines of outputs that clock-bank prints, one a clock. Every line ends in a line feed.
-- Assumes nothing.
use Rattle.std.specs.Prelude.{ℕ, suc, ◌+◌, ◌*◌, Bool, true, false, ◌&&◌, leb, ltb, ℤ, length, take, drop}
use mathlib.Core.List.{List, [], ◌++◌, flat_map}
use Rattle.limits.specs.Limits.{max_rows}
use Rattle.layout_rules.specs.Places.{first_records}
use Rattle.text.specs.Text.{ascii, lines}
use Rattle.text.specs.Wrote.{text_in}
use Rattle.run_text.specs.RunText.{signed_number, longest_line}

-- behind an output: a blank where another follows, else the line's end
abbrev pub separator : Bool → List ℕ
separator true = ascii " "
separator false = ascii "\n"

-- an output and what stands behind it
abbrev pub separated : ℤ → Bool → List ℕ
separated z more = signed_number z ++ separator more

-- the outputs of a clock in their order
abbrev pub clock_line : List ℤ → List ℕ
clock_line outputs = lines (λ i z. separated z (ltb (suc i) (length outputs))) 0 outputs

-- the m outputs of clock t, of outputs that stand one clock after another
abbrev pub outputs_at : ℕ → List ℤ → ℕ → List ℤ
outputs_at m outputs t = take m (drop (t * m) outputs)

-- the lines of so many clocks
abbrev pub clock_lines : ℕ → List ℤ → ℕ → List ℕ
clock_lines m outputs clocks = flat_map clock_line (first_records (outputs_at m outputs) clocks)

-- bytes that hold a line: a sign, 19 digits and what stands behind them, for each row
abbrev pub longest_clock_line : ℕ
longest_clock_line = longest_line * max_rows

-- outputs of so many rows are there for clock t
unfoldable pub line_there : ℕ → ℕ → ℕ → Bool
line_there m outputs t = leb m max_rows && (leb t outputs && leb (t * m + m) outputs)

-- the line of clock t; nothing where its outputs are not there, or the lent text is shorter than the longest line
unfoldable pub line_in : ℕ → ℕ → List ℤ → ℕ → List ℕ
line_in lent m outputs t = elim (line_there m (length outputs) t) [ true ↦ text_in longest_clock_line lent (clock_line (outputs_at m outputs t)) | false ↦ [] ]
