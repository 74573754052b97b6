-- The table of the longest delays holds them, and no delay is longer than the netlist is deep, which bounds the registers.
-- Assumes nothing.
use Prim.Native.Nat.{ℕ, zero, suc, ◌+◌, ◌*◌, ◌≤◌, ◌<◌, max}
use mathlib.Core.Path.{◌≡◌, refl, sym, ◌∙◌}
use mathlib.Core.Bool.{Bool, true, false}
use mathlib.Core.List.{List, [], ◌∷◌, ◌++◌}
use native.Mathlib.Nat.{suc-mul, mul-le-mul}
use native.Mathlib.Omega.{arith}
use lib.Dec.{eqb}
use lib.ListN.{length, get_or, set, replicate, length-set, length-replicate, get_or-replicate}
use lib.Seq.{get_or-set_same, get_or-set_other}
use borrow.Author.Tests.{eqb-true, eqb-false}
use Rattle.layout_rules.specs.declared.Operation.{Operation}
use Rattle.layout_rules.specs.declared.Output.{Output}
use Rattle.layout_rules.specs.Records.{Netlist}
use Rattle.board_rules.proofs.DepthLaws.{depth_at_most}
use Rattle.clock_rules.specs.declared.Delay.{Delay}
use Rattle.clock_rules.specs.Delays.{symbols, netlist_depth, output_delay, delay_by, unless_zero, operand_delays, output_delays, longest_of, longest_delay, delays_below, registers}
use Rattle.clock_rules.specs.Tables.{entered}
use Rattle.clock_rules.proofs.Depths.{depth-most}
use Rattle.clock_rules.proofs.DelayLaws.{Covered}

-- ---- the table

module _ (table : List ℕ) (d : Delay) (symbol longest : ℕ) (h : symbol < length table) where
  abbrev next : List ℕ
  next = set table d.symbol (max (get_or table d.symbol 0) d.clocks)

  one-entered : (b : Bool) → eqb d.symbol symbol ≡ b
      → max (get_or next symbol 0) longest ≡ max (get_or table symbol 0) (elim b [ true ↦ max d.clocks longest | false ↦ longest ])
  one-entered true e =
      let same : d.symbol ≡ symbol = eqb-true d.symbol symbol e in
      let here : get_or next symbol 0 ≡ max (get_or table symbol 0) d.clocks =
      rw same (get_or-set_same table symbol (max (get_or table symbol 0) d.clocks) 0 h) in
      omega (arith, here)
  one-entered false e =
      let other : get_or next symbol 0 ≡ get_or table symbol 0 =
      get_or-set_other table d.symbol symbol (max (get_or table d.symbol 0) d.clocks) 0 (λ q. eqb-false d.symbol symbol e (sym q)) in
      rw other refl

pub entered_at : (ds : List Delay) (table : List ℕ) (symbol : ℕ) → symbol < length table
    → get_or (entered table ds) symbol 0 ≡ max (get_or table symbol 0) (longest_of symbol ds)
unfolding entered longest_of
entered_at [] table symbol h = omega arith
entered_at (d ∷ ds) table symbol h =
    entered_at ds (next table d symbol (longest_of symbol ds) h) symbol (omega (arith, length-set table d.symbol (max (get_or table d.symbol 0) d.clocks)))
    ∙ one-entered table d symbol (longest_of symbol ds) h (eqb d.symbol symbol) refl

-- all delays entered into an empty table
pub longest-entered : (net : Netlist) (count symbol : ℕ) → symbol < count
    → get_or (entered (replicate count 0) (operand_delays net net.head.n net.operations ++ output_delays net net.outputs)) symbol 0 ≡ longest_delay net symbol
unfolding longest_delay
longest-entered net count symbol h =
    entered_at (operand_delays net net.head.n net.operations ++ output_delays net net.outputs) (replicate count 0) symbol
    (omega (arith, length-replicate {A = ℕ} count 0))
    ∙ omega (arith, get_or-replicate {A = ℕ} count symbol 0 0 h)

-- ---- bounds

longest-within : (bound symbol : ℕ) (ds : List Delay) → Covered (λ s. bound) ds → longest_of symbol ds ≤ bound
unfolding longest_of
longest-within bound symbol [] c = omega arith
longest-within bound symbol (d ∷ ds) c = go (eqb d.symbol symbol) (longest-within bound symbol ds c.1)
  where
    go : (b : Bool) → longest_of symbol ds ≤ bound → elim b [ true ↦ max d.clocks (longest_of symbol ds) | false ↦ longest_of symbol ds ] ≤ bound
    go true h = omega (arith, c.0)
    go false h = h

covered_join : (bound : ℕ → ℕ) (ds es : List Delay) → Covered bound ds → Covered bound es → Covered bound (ds ++ es)
covered_join bound [] es c e = e
covered_join bound (d ∷ ds) es c e = (c.0, covered_join bound ds es c.1 e)

module _ (net : Netlist) where
  operands_within : (symbol : ℕ) (os : List Operation) → Covered (λ s. netlist_depth net) (operand_delays net symbol os)
  unfolding operand_delays
  operands_within symbol [] = tt
  operands_within symbol (o ∷ os) =
      (omega (arith, depth-most net symbol), (omega (arith, depth-most net symbol), operands_within (suc symbol) os))

  outputs-within : (os : List Output) → Covered (λ s. netlist_depth net) (output_delays net os)
  unfolding output_delays
  outputs-within [] = tt
  outputs-within (o ∷ os) = go o.sign (outputs-within os)
    where
      go : (sign : ℕ) → Covered (λ s. netlist_depth net) (output_delays net os)
          → Covered (λ s. netlist_depth net) (unless_zero sign (delay_by o.symbol (output_delay net o.symbol)) ++ output_delays net os)
      go zero c = (omega arith, c)
      go (suc zero) c = (omega arith, c)
      go (suc (suc _)) c = c

  -- no delay is longer than the netlist is deep
  pub longest-most : (symbol : ℕ) → longest_delay net symbol ≤ netlist_depth net
  unfolding longest_delay
  longest-most symbol =
      let ds = operand_delays net net.head.n net.operations in
      let es = output_delays net net.outputs in
      longest-within (netlist_depth net) symbol (ds ++ es)
      (covered_join (λ s. netlist_depth net) ds es (operands_within net.head.n net.operations) (outputs-within net.outputs))

  delays-most : (symbol : ℕ) → delays_below net symbol ≤ symbol * netlist_depth net
  unfolding delays_below
  delays-most zero = omega arith
  delays-most (suc symbol) = omega (arith, delays-most symbol, longest-most symbol, suc-mul symbol (netlist_depth net))

  pub registers-most : registers net ≤ length net.operations + symbols net * netlist_depth net
  registers-most = omega (arith, delays-most (symbols net))

  -- where there are at most so many operations and symbols
  pub registers-few : (operations count : ℕ) → length net.operations ≤ operations → symbols net ≤ count → registers net ≤ operations + count * operations
  unfolding netlist_depth
  registers-few operations count h l =
      let deep : netlist_depth net ≤ operations = omega (arith, depth_at_most net.head.n net.operations) in
      omega (arith, registers-most, mul-le-mul l deep)
