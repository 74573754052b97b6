-- Document 01, "Netlist and board machine", where compiled widths are at most 19 more than the sample width: weights of the symbols,
-- as if no sign were minus.
-- An input has weight 1 in its own column, and a divisor's symbol the weight of its divisor.
-- Assumes nothing.
use Rattle.std.specs.Prelude.{ℕ, suc, ◌+◌, ◌*◌, ◌^◌, ◌<◌, ◌≡◌, List, [], ◌∷◌}
use Rattle.term.specs.declared.Term.{Term}
use Rattle.elimination_rules.specs.declared.Divisor.{Divisor}
use Rattle.elimination_rules.specs.Rows.{Row}

unfoldable pub term_weight : (ℕ → ℕ) → Term → ℕ
term_weight w t = 2 ^ t.exponent * w t.symbol

-- the sum over a row of 2^exponent times the symbol's weight
unfoldable pub row_weight : (ℕ → ℕ) → Row → ℕ
unfolding term_weight
row_weight w [] = 0
row_weight w (t ∷ r) = term_weight w t + row_weight w r

unfoldable pub divisor_weight : (ℕ → ℕ) → Divisor → ℕ
divisor_weight w d = 2 ^ d.ea * w d.a + 2 ^ d.eb * w d.b

-- each divisor's symbol, from the next one on, has its divisor's weight
abbrev pub Weights : (ℕ → ℕ) → ℕ → List Divisor → Type 0
Weights w symbol [] = Unit {0}
Weights w symbol (d ∷ ds) = (w symbol ≡ divisor_weight w d) × Weights w (suc symbol) ds

-- of n inputs, that of one column alone has weight 1
pub record ColumnWeight (n column : ℕ) (w : ℕ → ℕ) : Type 0 where
  pub own : w column ≡ 1
  pub others : (j : ℕ) → j < n → (j ≡ column → ⊥) → w j ≡ 0
