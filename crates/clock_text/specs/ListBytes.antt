-- Document 01, "One vector every clock": clock, with the list of samples given as bytes, 4 bytes each, little-endian two's complement.
-- Assumes nothing.
use Rattle.std.specs.Prelude.{ℕ, zero, suc, ◌*◌, ◌/◌, ◌%◌, Bool, true, false, ◌&&◌, List, [], ◌++◌, leb, eqb, ℤ, pos, length, take, drop}
use Rattle.limits.specs.Limits.{max_rows}
use Rattle.arrays.specs.Filled.{filled}
use Rattle.netlist_rules.specs.declared.RunAnswer.{RunAnswer}
use Rattle.netlist_rules.specs.Read.{read_answer}
use Rattle.netlist_rules.specs.Run.{ran}
use Rattle.run_text.specs.Samples.{first_samples}
use Rattle.run_text.specs.RunText.{rows_read}
use Rattle.clock_rules.specs.Answer.{vector_count, clock_answer, clock_outputs}
use Rattle.clock_text.specs.declared.lists.Clocked.{Clocked}

-- ---- limits of the program

-- the samples of the longest list
abbrev pub most_samples : ℕ
most_samples = 32768

-- the registers lent, all 0; a netlist that had more would be refused with 6
abbrev pub store_length : ℕ
store_length = 131072

abbrev pub store_lent : List ℤ
store_lent = filled store_length (pos 0)

-- ---- samples

-- the list: the whole samples
abbrev pub list_of : List ℕ → List ℤ
list_of bytes = first_samples bytes (length bytes / 4)

-- how many vectors they are, by the n that read says: a clock for each
abbrev pub clocks_of : List ℕ → List ℕ → ℕ
clocks_of netlist bytes = vector_count (read_answer netlist).n (length bytes / 4)

-- m outputs for each
abbrev pub outputs_of : List ℕ → List ℕ → ℕ
outputs_of netlist bytes = clocks_of netlist bytes * rows_read netlist

-- ---- answers, where so many outputs are lent

-- 15 behind 7 to 12 and 6, which are those of an empty list: it is refused with nothing else
abbrev pub or_not_whole : RunAnswer → RunAnswer
or_not_whole empty = elim empty.refusal [ suc r ↦ empty | zero ↦ ran 15 0 ]

-- Bytes that are no whole number of samples are no whole vectors: 15. No list of samples stands for them here, as `sample_count` has it for
-- run, since every list is whole vectors where n is 1.
unfoldable pub bytes_answer : List ℕ → List ℕ → ℕ → RunAnswer
bytes_answer netlist bytes outputs =
    elim (eqb (length bytes % 4) 0) [
      | true ↦ clock_answer netlist (list_of bytes) store_length outputs
      | false ↦ or_not_whole (clock_answer netlist [] store_length 0)
    ]

-- the lent outputs afterwards: as they were where a part of a sample is left over
unfoldable pub bytes_outputs : List ℕ → List ℕ → List ℤ → List ℤ
bytes_outputs netlist bytes outputs =
    elim (eqb (length bytes % 4) 0) [ true ↦ clock_outputs netlist (list_of bytes) store_lent outputs | false ↦ outputs ]

-- ---- where m outputs for each vector are lent to clock, and those behind them stay as they were

unfoldable pub clocked_answer : List ℕ → List ℕ → Clocked
clocked_answer netlist bytes =
    let answer = bytes_answer netlist bytes (outputs_of netlist bytes) in
    record { refusal = answer.refusal; place = answer.place; rows = rows_read netlist; clocks = clocks_of netlist bytes }

unfoldable pub outputs_after : List ℕ → List ℕ → List ℤ → List ℤ
outputs_after netlist bytes outputs =
    let count = outputs_of netlist bytes in bytes_outputs netlist bytes (take count outputs) ++ drop count outputs

-- ---- nothing where the list is longer than the longest, or fewer outputs are lent than such a list can have

unfoldable pub fitting : List ℕ → ℕ → Bool
fitting bytes outputs = leb (length bytes) (4 * most_samples) && leb (max_rows * most_samples) outputs

unfoldable pub clocked_in : ℕ → List ℕ → List ℕ → Clocked
clocked_in outputs netlist bytes =
    elim (fitting bytes outputs) [ true ↦ clocked_answer netlist bytes | false ↦ record { refusal = 0; place = 0; rows = 0; clocks = 0 } ]

unfoldable pub outputs_in : List ℕ → List ℕ → List ℤ → List ℤ
outputs_in netlist bytes outputs = elim (fitting bytes (length outputs)) [ true ↦ outputs_after netlist bytes outputs | false ↦ outputs ]
