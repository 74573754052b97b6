-- A vector of samples as bytes: 4 bytes each, little-endian two's complement.
-- Assumes nothing.
use Rattle.std.specs.Prelude.{ℕ, suc, ◌*◌, ◌/◌, ◌%◌, cond, List, eqb, ℤ, length}
use Rattle.limits.specs.Limits.{max_columns}
use Rattle.layout_rules.specs.Bytes.{double_word, signed_of}
use Rattle.layout_rules.specs.Places.{first_records}

-- the sample of an index
abbrev pub sample_at : List ℕ → ℕ → ℤ
sample_at bytes index = signed_of 32 (double_word bytes (4 * index))

-- the first k samples
abbrev pub first_samples : List ℕ → ℕ → List ℤ
first_samples bytes k = first_records (sample_at bytes) k

-- how many there are; bytes that are no whole number of samples count as one sample more than any netlist takes: 15, "samples are not n"
unfoldable pub sample_count : List ℕ → ℕ
sample_count bytes = cond (eqb (length bytes % 4) 0) (length bytes / 4) (suc max_columns)

-- all samples
abbrev pub samples_of : List ℕ → List ℤ
samples_of bytes = first_samples bytes (sample_count bytes)
