-- Document 01, "One vector every clock": its promise. "For every list of in-range vectors, one a clock, the output at clock t + depth, within
-- the list, is run's for the vector of clock t, and outputs before clock depth are zero."
-- Assumes nothing.
use Rattle.std.specs.Prelude.{ℕ, ◌+◌, ◌<◌, ◌≡◌, List, [], ◌∷◌, ℤ, pos, length, get_or, replicate}
use Rattle.layout_rules.specs.Records.{Netlist}
use Rattle.netlist_rules.specs.Run.{netlist_outputs}
use Rattle.clock_rules.specs.Delays.{netlist_depth}
use Rattle.clock_rules.specs.Clocked.{clocked_outputs}

-- each vector has n samples
abbrev pub Vectors : ℕ → List (List ℤ) → Type 0
Vectors n [] = Unit {0}
Vectors n (xs ∷ vectors) = (length xs ≡ n) × Vectors n vectors

-- of a netlist's clocked form, over a lent store: outputs that run gives are `netlist_outputs`
pub record Pipelined (net : Netlist) (store : List ℤ) (vectors : List (List ℤ)) : Type 0 where
  pub one-a_clock : length (clocked_outputs net store vectors) ≡ length vectors
  pub later : (t : ℕ) → t + netlist_depth net < length vectors
      → get_or (clocked_outputs net store vectors) (t + netlist_depth net) [] ≡ netlist_outputs net (get_or vectors t [])
  pub before : (t : ℕ) → t < netlist_depth net → t < length vectors
      → get_or (clocked_outputs net store vectors) t [] ≡ replicate (length net.outputs) (pos 0)
