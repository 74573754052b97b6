-- Document 01, "Row sums": the rows whose output is minus.
-- Assumes nothing.
use Rattle.std.specs.Prelude.{◌≤◌, ◌≡◌, true, length}
use Rattle.elimination_rules.specs.Rows.{Row}
use Rattle.sum_rules.specs.SumDepth.{EachTerm}

-- a row that has terms, all of them negative
abbrev pub AllNegative : Row → Type 0
AllNegative r = (1 ≤ length r) × EachTerm (λ t. t.negative ≡ true) r
