-- Document 01, "Row sums": an output record of a netlist is minus exactly if its remaining row has terms and all of them are negative.
-- Assumes nothing.
use Prim.Native.Nat.{ℕ}
use mathlib.Core.Path.{◌≡◌, refl, sym, ◌∙◌}
use mathlib.Core.Logic.{◌↔◌}
use mathlib.Core.List.{[]}
use lib.ListN.{get_or}
use Rattle.elimination_rules.specs.Elimination.{Eliminated}
use Rattle.sum_rules.specs.Joins.{zero_output}
use Rattle.sum_rules.specs.Signs.{AllNegative}
use Rattle.sum_rules.proofs.Signs.{sums_minus}
use Rattle.compile_rules.specs.Compile.{divisor_depths, operations_of, outputs_of, netlist_of}
use Rattle.compile_rules.proofs.Widths.{output_keeps}

pub netlist-minus : (s m n : ℕ) (e : Eliminated) (i : ℕ)
    → ((get_or (netlist_of s m n e).outputs i zero_output).sign ≡ 1) ↔ AllNegative (get_or e.remaining_rows i [])
unfolding netlist_of outputs_of
netlist-minus s m n e i =
    let as_summed = sums_minus (divisor_depths n e) e.remaining_rows i in
    let kept = output_keeps (λ o. o.sign) s n (operations_of n e) (λ o. refl) (outputs_of n e) i in
    ((λ h. as_summed.0 (sym kept ∙ h)), (λ h. kept ∙ as_summed.1 h))
