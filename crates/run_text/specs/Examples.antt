-- What run-bank prints, by examples.
-- Assumes nothing.
use Rattle.std.specs.Prelude.{ℕ, ◌+◌, ◌≡◌, List, [], ◌∷◌}
use Rattle.layout_rules.specs.Records.{netlist_without_rows, netlist_bytes}
use Rattle.text.specs.Text.{ascii}
use Rattle.run_text.specs.RunText.{run_text}

-- document 01's netlist for row 3, −3, for samples of s bits: x0 − x1, and from that 4 times it minus it
abbrev pub example_netlist : ℕ → List ℕ
example_netlist s =
    netlist_bytes (record {
      head = record { m = 1; n = 2; operations = 2; width = s };
      operations = record { sign = 1; a = 0; sa = 0; b = 1; sb = 0; width = s + 1 } ∷ record { sign = 1; a = 2; sa = 2; b = 2; sb = 0; width = s + 3 } ∷ [];
      outputs = record { sign = 0; symbol = 3; shift = 0; width = s + 3 } ∷ [];
      totals = record { operations = 2; depth = 2 };
    })

pub record RunExamples : Type 0 where
  -- 32,767 and −32,768, the steepest vector: 3 · 32,767 + 3 · 32,768
  pub steep : run_text (example_netlist 16) (0xFF ∷ 0x7F ∷ 0x00 ∷ 0x00 ∷ 0x00 ∷ 0x80 ∷ 0xFF ∷ 0xFF ∷ []) ≡ ascii "196605\n"
  pub steep_down : run_text (example_netlist 16) (0x00 ∷ 0x80 ∷ 0xFF ∷ 0xFF ∷ 0xFF ∷ 0x7F ∷ 0x00 ∷ 0x00 ∷ []) ≡ ascii "-196605\n"
  -- 2,047 and −2,048, the steepest vector of 12 bits: 3 · 2,047 + 3 · 2,048
  pub steep_at_twelve : run_text (example_netlist 12) (0xFF ∷ 0x07 ∷ 0x00 ∷ 0x00 ∷ 0x00 ∷ 0xF8 ∷ 0xFF ∷ 0xFF ∷ []) ≡ ascii "12285\n"
  -- 0 and 32,768, which is no sample of 16 bits; −32,769 and 32,768, both of which are none
  pub second-outside : run_text (example_netlist 16) (0x00 ∷ 0x00 ∷ 0x00 ∷ 0x00 ∷ 0x00 ∷ 0x80 ∷ 0x00 ∷ 0x00 ∷ []) ≡ ascii "refused 21 at 1\n"
  pub both-outside : run_text (example_netlist 16) (0xFF ∷ 0x7F ∷ 0xFF ∷ 0xFF ∷ 0x00 ∷ 0x80 ∷ 0x00 ∷ 0x00 ∷ []) ≡ ascii "refused 21 at 0\n"
  -- 2,048, which is no sample of 12 bits, alone: there is one sample, and that is tested first
  pub one-sample : run_text (example_netlist 12) (0x00 ∷ 0x08 ∷ 0x00 ∷ 0x00 ∷ []) ≡ ascii "refused 15 at 0\n"
  -- seven bytes are no whole number of samples
  pub not-whole : run_text (example_netlist 16) (0xFF ∷ 0x7F ∷ 0x00 ∷ 0x00 ∷ 0x00 ∷ 0x80 ∷ 0xFF ∷ []) ≡ ascii "refused 15 at 0\n"
  -- a bank of no rows and no inputs: no samples, one sample, no whole number of samples
  pub no_samples : run_text (netlist_bytes (netlist_without_rows 16)) [] ≡ []
  pub one-sample-more : run_text (netlist_bytes (netlist_without_rows 16)) (0xFF ∷ 0x7F ∷ 0x00 ∷ 0x00 ∷ []) ≡ ascii "refused 15 at 0\n"
  pub not-whole-none : run_text (netlist_bytes (netlist_without_rows 16)) (0xFF ∷ []) ≡ ascii "refused 15 at 0\n"
  pub no_netlist : run_text [] (0xFF ∷ 0x7F ∷ 0x00 ∷ 0x00 ∷ []) ≡ ascii "refused 7 at 0\n"
