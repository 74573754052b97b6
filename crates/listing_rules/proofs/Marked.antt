-- The examples of what list-bank prints hold, by computation.
-- Assumes nothing.
use mathlib.Core.Path.{refl}
use Rattle.text.specs.Decimal.{decimal, number}
use Rattle.text.specs.Text.{lines}
use Rattle.listing_rules.specs.Listing.{counts_line, operation_line, value_text}
use Rattle.listing_rules.specs.Marked.{MarkedListing}

pub marked : MarkedListing
unfolding decimal number counts_line operation_line value_text lines
marked = record { row_3_minus_3 = refl; addition = refl; minus = refl; zero = refl; refused = refl; longest = refl }
