-- `board_width::entry_width` meets its contract. Assumes nothing.
use mathlib.Core.Path.{refl, ◌∙◌}
use Rattle.board_rules.specs.Width.{width}
use Rattle.board_rules.proofs.RangeLaws.{small-range_sums}
use Rattle.board_width.proofs.entry_width.Goals as goal

pub sums_of-sums-requires : goal.sums_of-sums-requires
sums_of-sums-requires c = record { symbol_lt_max_symbols = c.requires.symbol_lt_max_symbols; symbol_bound = small-range_sums c.requires.small_range }

pub width_of-requires : goal.width_of-requires
width_of-requires c = record { le_s = c.requires.le_s; q_bound = rw c.sums_of-sums.ensures c.requires.small_range.spread }

pub returns : goal.returns
unfolding width
returns c = c.width_of.ensures ∙ rw c.sums_of-sums.ensures refl
