-- `market::write_coefficients` meets its contract. Assumes nothing.
use mathlib.Core.Path.{◌≡◌}
use mathlib.Core.List.{flat_map}
use lib.ListN.{get_or}
use Rattle.layout_rules.specs.Bytes.{little_endian}
use Rattle.layout_rules.specs.Matrix.{coefficient_place}
use Rattle.layout_rules.specs.Places.{first_records}
use Rattle.layout_rules.specs.Written.{written}
use Rattle.market_rules.specs.Market.{entry_index}
use Rattle.market.proofs.write_coefficients.Given as goal

abbrev pub invariant-loop-k : goal.invariant-loop-k
invariant-loop-k l =
    l.buffer ≡ written l.initial.buffer (coefficient_place 0) (flat_map little_endian (first_records (λ i. get_or l.words (entry_index l.m l.n i) 0) l.k))
