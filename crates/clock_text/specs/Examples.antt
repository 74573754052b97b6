-- What clock-bank prints, by examples. The outputs are those of a second program.
-- Assumes nothing.
use Rattle.std.specs.Prelude.{ℕ, ◌≡◌, List, [], ◌∷◌}
use Rattle.layout_rules.specs.Records.{netlist_without_rows, netlist_bytes}
use Rattle.text.specs.Text.{ascii}
use Rattle.run_text.specs.Examples.{example_netlist}
use Rattle.clock_text.specs.ClockText.{clock_text}

-- of rows 3 and −1, compiled: 4 times x0 minus x0, and minus x0, which is delayed by a clock
abbrev pub two_rows : List ℕ
two_rows =
    netlist_bytes (record {
      head = record { m = 2; n = 1; operations = 1; width = 16 };
      operations = record { sign = 1; a = 0; sa = 2; b = 0; sb = 0; width = 18 } ∷ [];
      outputs = record { sign = 0; symbol = 1; shift = 0; width = 18 } ∷ record { sign = 1; symbol = 0; shift = 0; width = 17 } ∷ [];
      totals = record { operations = 1; depth = 1 };
    })

pub record ClockExamples : Type 0 where
  -- 5, −7, 32,767, one a clock
  pub two_rows_lem : clock_text two_rows (0x05 ∷ 0x00 ∷ 0x00 ∷ 0x00 ∷ 0xF9 ∷ 0xFF ∷ 0xFF ∷ 0xFF ∷ 0xFF ∷ 0x7F ∷ 0x00 ∷ 0x00 ∷ []) ≡ ascii "0 0\n15 -5\n-21 7\n"
  -- a part of a sample behind 5: every list is whole vectors of 1, and this is none
  pub part_of-one : clock_text two_rows (0x05 ∷ 0x00 ∷ 0x00 ∷ 0x00 ∷ 0xF9 ∷ []) ≡ ascii "refused 15 at 0\n"
  -- document 01's netlist for row 3, −3, which is 2 deep: the steepest vector both ways, and 1, 2
  pub steep : clock_text (example_netlist 16)
      (0xFF ∷ 0x7F ∷ 0x00 ∷ 0x00 ∷ 0x00 ∷ 0x80 ∷ 0xFF ∷ 0xFF ∷ 0x00 ∷ 0x80 ∷ 0xFF ∷ 0xFF ∷ 0xFF ∷ 0x7F ∷ 0x00 ∷ 0x00 ∷ 0x01 ∷ 0x00 ∷ 0x00 ∷ 0x00 ∷ 0x02 ∷ 0x00 ∷ 0x00 ∷ 0x00 ∷ 0x05 ∷ 0x00 ∷ 0x00 ∷ 0x00 ∷ 0x05 ∷ 0x00 ∷ 0x00 ∷ 0x00 ∷ [])
      ≡ ascii "0\n0\n196605\n-196605\n"
  -- 1, 2, then 3 alone; and 3, 32,768, which is no sample of 16 bits
  pub half_a-vector : clock_text (example_netlist 16) (0x01 ∷ 0x00 ∷ 0x00 ∷ 0x00 ∷ 0x02 ∷ 0x00 ∷ 0x00 ∷ 0x00 ∷ 0x03 ∷ 0x00 ∷ 0x00 ∷ 0x00 ∷ []) ≡ ascii "refused 15 at 0\n"
  pub fourth_outside : clock_text (example_netlist 16)
      (0x01 ∷ 0x00 ∷ 0x00 ∷ 0x00 ∷ 0x02 ∷ 0x00 ∷ 0x00 ∷ 0x00 ∷ 0x03 ∷ 0x00 ∷ 0x00 ∷ 0x00 ∷ 0x00 ∷ 0x80 ∷ 0x00 ∷ 0x00 ∷ [])
      ≡ ascii "refused 21 at 3\n"
  -- no samples; and the bank of no rows, with none, with one, and with a part of one
  pub no_samples : clock_text (example_netlist 16) [] ≡ []
  pub no_rows : clock_text (netlist_bytes (netlist_without_rows 16)) [] ≡ []
  pub no_rows-sample : clock_text (netlist_bytes (netlist_without_rows 16)) (0x01 ∷ 0x00 ∷ 0x00 ∷ 0x00 ∷ []) ≡ ascii "refused 15 at 0\n"
  pub no_rows_part : clock_text (netlist_bytes (netlist_without_rows 16)) (0x01 ∷ []) ≡ ascii "refused 15 at 0\n"
  -- no netlist, with a part of a sample too
  pub no_netlist : clock_text [] (0x01 ∷ 0x00 ∷ 0x00 ∷ 0x00 ∷ []) ≡ ascii "refused 7 at 0\n"
  pub no_netlist_part : clock_text [] (0x01 ∷ []) ≡ ascii "refused 7 at 0\n"
