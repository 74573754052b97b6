-- Document 01, "Programs": what the program generate-bank writes for m, n and a seed.
-- Assumes nothing.
use Rattle.std.specs.Prelude.{ℕ, true, false, List, get_or}
use Rattle.limits.specs.Size.{size_outside}
use Rattle.layout_rules.specs.Bytes.{double_word}
use Rattle.layout_rules.specs.Matrix.{longest_record}
use Rattle.generator.specs.Generator.{generated_record}
use Rattle.text.specs.Text.{refused_line}
use Rattle.text.specs.Wrote.{text_in}

-- the record's bytes, or the refusal's line; generate has room for every record, so it is 4
unfoldable pub generate_output : ℕ → ℕ → ℕ → List ℕ
generate_output m n seed = elim (size_outside m n) [ true ↦ refused_line 4 0 | false ↦ generated_record m n seed ]

-- the input: m, n (1 byte each), the seed (4 bytes, little-endian); a byte that is missing counts as 0
abbrev pub input_output : List ℕ → List ℕ
input_output input = generate_output (get_or input 0 0) (get_or input 1 0) (double_word input 2)

-- nothing where fewer bytes are lent than suffice for every record
abbrev pub generate_output_in : ℕ → List ℕ → List ℕ
generate_output_in lent input = text_in longest_record lent (input_output input)
