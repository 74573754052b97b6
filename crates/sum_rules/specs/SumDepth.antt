-- Document 01, "Row sums": the depth that a row's sum has.
-- Assumes nothing.
use Rattle.std.specs.Prelude.{ℕ, ◌+◌, ◌^◌, ◌<◌, List, [], ◌∷◌, length, get_or}
use Rattle.term.specs.declared.Term.{Term}
use Rattle.layout_rules.specs.declared.Operation.{Operation}
use Rattle.layout_rules.specs.declared.Output.{Output}
use Rattle.board_rules.specs.Machine.{depths}
use Rattle.elimination_rules.specs.Rows.{Row}
use Rattle.sum_rules.specs.Shallowest.{OperandOrder, term_depth, sum_of}

-- the depth of an output after operations: that of its symbol, which is the last term's
abbrev pub output_depth : List ℕ → List Operation → Output → ℕ
output_depth ds os o = get_or (depths ds os) o.symbol 0

-- the depth that the shallowest order gives a row
abbrev pub sum_depth : OperandOrder → List ℕ → Row → ℕ
sum_depth order ds r = output_depth ds (sum_of order ds r).operations (sum_of order ds r).output

-- the sum of 2^depth over a row's terms: the row's depth is the least D with this sum at most 2^D
unfoldable pub power_sum : List ℕ → Row → ℕ
power_sum ds [] = 0
power_sum ds (t ∷ r) = 2 ^ term_depth ds t + power_sum ds r

-- a term whose symbol has a depth
abbrev pub HasDepth : List ℕ → Term → Type 0
HasDepth ds t = t.symbol < length ds

-- a property of each of a row's terms
abbrev pub EachTerm : (Term → Type 0) → Row → Type 0
EachTerm P [] = Unit {0}
EachTerm P (t ∷ r) = P t × EachTerm P r
