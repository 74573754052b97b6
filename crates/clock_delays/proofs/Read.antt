-- What a netlist that is read says of its depth.
-- Assumes nothing.
use Prim.Native.Nat.{ℕ, zero, suc}
use mathlib.Core.Path.{◌≡◌, refl}
use mathlib.Core.Bool.{Bool, true, false}
use mathlib.Core.List.{List}
use native.Mathlib.Omega.{arith}
use Rattle.layout_rules.specs.Records.{totals_kind, totals_length}
use Rattle.layout_rules.specs.Places.{head_at, operations_in, totals_at, totals_place_in, netlist_in}
use Rattle.netlist_rules.specs.Read.{record_refusal, totals_right, totals_refusal}
use Rattle.netlist_rules.proofs.Conditions.{totals_says}
use Rattle.netlist_read.specs.Tables.{NetlistRead}
use Rattle.clock_rules.specs.Delays.{netlist_depth}

-- the recorded depth is the netlist's
pub depth-read : (b : List ℕ) → NetlistRead b → (netlist_in b).totals.depth ≡ netlist_depth (netlist_in b)
unfolding totals_refusal netlist_depth
depth-read b N =
    let place : ℕ = totals_place_in b in
    ((totals_says (head_at b) (operations_in b) (totals_at b place)).0
    (passed (record_refusal b place totals_kind totals_length) (totals_right (head_at b) (operations_in b) (totals_at b place)) N.totals-due)).deepest
  where
    number : ℕ → Bool → ℕ
    number r t = elim r [ suc q ↦ suc q | zero ↦ elim t [ true ↦ 0 | false ↦ 11 ] ]

    passed : (r : ℕ) (t : Bool) → number r t ≡ 0 → t ≡ true
    passed zero true e = refl
    passed zero false e = absurd (omega arith)
    passed (suc r) t e = absurd (omega arith)
