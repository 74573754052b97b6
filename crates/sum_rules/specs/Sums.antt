-- Document 01, "Operations and outputs of a matrix": a row that is summed two terms at a time, in any order. Two terms, either of which may
-- be the first, are joined by one operation into a term with the operation's symbol, exponent 0 and the sign of the first, until one term
-- is left; it is the output. `Shallowest` has document 01's order, which is one of these.
-- Assumes nothing.
use Rattle.std.specs.Prelude.{ℕ, suc, ◌+◌, length}
use mathlib.Core.List.{List, [], ◌∷◌, ◌++◌, Permᴰ}
use Rattle.term.specs.declared.Term.{Term}
use Rattle.layout_rules.specs.declared.Operation.{Operation}
use Rattle.layout_rules.specs.declared.Output.{Output}
use Rattle.elimination_rules.specs.Rows.{Row}
use Rattle.sum_rules.specs.Joins.{joined_term, join_operation, term_output, zero_output}

-- the operations, from a symbol on, and the output of a row
pub data Summed : ℕ → Row → List Operation → Output → Type 0 where
  nothing : {next : ℕ} → Summed next [] [] zero_output
  last : {next : ℕ} (t : Term) → Summed next (t ∷ []) [] (term_output t)
  join : {next : ℕ} {r after : Row} {os : List Operation} {o : Output} (t u : Term) (others : Row)
      → Permᴰ r (t ∷ u ∷ others) → Permᴰ (joined_term next t ∷ others) after → Summed (suc next) after os o
      → Summed next r (join_operation t u ∷ os) o

-- of rows, one after another
pub data SummedRows : ℕ → List Row → List Operation → List Output → Type 0 where
  end : {next : ℕ} → SummedRows next [] [] []
  first-row : {next : ℕ} {r : Row} {rows : List Row} {os others : List Operation} {o : Output} {outputs : List Output}
      → Summed next r os o → SummedRows (next + length os) rows others outputs → SummedRows next (r ∷ rows) (os ++ others) (o ∷ outputs)
