-- Document 01, "Marked banks": what list-bank prints, by examples.
-- Assumes nothing.
use Rattle.std.specs.Prelude.{◌≡◌, List, [], ◌∷◌}
use Rattle.limits.specs.Limits.{max_rows, max_operations}
use Rattle.layout_rules.specs.declared.Operation.{Operation}
use Rattle.layout_rules.specs.declared.Output.{Output}
use Rattle.text.specs.Text.{ascii, refused_line}
use Rattle.listing_rules.specs.Listing.{operation_line, output_line, listing}
use Rattle.listing_rules.specs.Records.{room}
use Rattle.listing_rules.specs.declared.Counts.{Counts}

-- row 3, −3: the counts
abbrev pub counts : Counts
counts = record { inputs = 2; outputs = 1; operations = 2; plain = 3; divisors = 1; replacements = 2; depth = 2 }

-- row 3, −3: the divisor x0 − x1, and the divisor shifted by 2 minus the divisor
abbrev pub operations : List Operation
operations =
    record { sign = 1; a = 0; sa = 0; b = 1; sb = 0; width = 17 } ∷ record { sign = 1; a = 2; sa = 2; b = 2; sb = 0; width = 19 } ∷ []

-- row 3, −3: the output, plus
abbrev pub outputs : List Output
outputs = record { sign = 0; symbol = 3; shift = 0; width = 19 } ∷ []

pub record MarkedListing : Type 0 where
  -- row 3, −3: the whole text
  pub row_3_minus_3 : listing counts operations outputs
      ≡ ascii "inputs 2 outputs 1 operations 2 plain 3 divisors 1 replacements 2 depth 2\n2 = 0<<0 - 1<<0 width 17\n3 = 2<<2 - 2<<0 width 19\nrow 0 = 3<<0 width 19\n"
  -- an addition has the sign +
  pub addition : operation_line 259 (record { sign = 0; a = 10; sa = 15; b = 8; sb = 0; width = 35 }) ≡ ascii "259 = 10<<15 + 8<<0 width 35\n"
  -- a minus output has the sign -
  pub minus : output_line 7 (record { sign = 1; symbol = 511; shift = 12; width = 40 }) ≡ ascii "row 7 = -511<<12 width 40\n"
  -- a zero output
  pub zero : output_line 0 (record { sign = 2; symbol = 0; shift = 0; width = 1 }) ≡ ascii "row 0 = zero width 1\n"
  -- no bytes on standard input
  pub refused : refused_line 1 0 ≡ ascii "refused 1 at 0\n"
  -- bytes that hold the text of every compiled netlist
  pub longest : room max_operations max_rows ≡ 24598
