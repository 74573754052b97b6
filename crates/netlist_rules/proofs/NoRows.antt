-- Document 01, "Records" and "Check": there is one netlist without rows for each sample width, and check passes these against no bytes,
-- and nothing else.
-- Assumes nothing.
use Prim.Native.Nat.{ℕ}
use mathlib.Core.Path.{◌≡◌, refl, sym, ◌∙◌, ap, ap₂}
use mathlib.Core.Logic.{◌↔◌, inl}
use mathlib.Core.List.{List, [], ◌∷◌, ◌++◌}
use native.Mathlib.Omega.{arith}
use lib.ListN.{length, length-append}
use Rattle.limits.specs.Size.{SampleWidth}
use Rattle.limits.proofs.Size.{bank_size}
use Rattle.layout_rules.specs.Matrix.{matrix_refusal, matrix, rows_from}
use Rattle.layout_rules.specs.Records.{Netlist, netlist_without_rows, netlist_bytes}
use Rattle.layout_rules.proofs.LittleEndian.{AreBytes}
use Rattle.board_rules.specs.Machine.{depth}
use Rattle.board_rules.specs.Netlist.{Limits, IsNetlist}
use Rattle.netlist_rules.specs.Check.{checked, check_answer}
use Rattle.netlist_rules.specs.Exact.{read_limits, IsNetlistOf}
use Rattle.netlist_rules.proofs.CheckAccepts.{netlist-checked, check_accepts}

nothing_in : {A : Type 0} (xs : List A) → length xs ≡ 0 → xs ≡ []
nothing_in [] e = refl
nothing_in (x ∷ xs) e = absurd (omega (arith, e))

nothing_at : {A B : Type 0} (before after : List A) (x : A) → [] ≡ before ++ (x ∷ after) → B
nothing_at before after x e = absurd (omega (arith, ap length e, length-append before (x ∷ after)))

no_depth : depth 0 [] ≡ 0
unfolding depth
no_depth = refl

-- whatever the limits
pub without_rows-is : (l : Limits) → SampleWidth l.sample → IsNetlist l (netlist_without_rows l.sample)
without_rows-is l w = record {
  head = record { limits = (bank_size 0 0).1 (inl (refl, refl)); few = omega arith; none = λ e. refl; width = w; samples = refl };
  count = refl;
  one_per_row = refl;
  operation = λ before after o e. nothing_at before after o e;
  output = λ before after o e. nothing_at before after o e;
  totals = record { count = refl; deepest = sym no_depth };
}

pub one_without_rows : {l : Limits} {net : Netlist} → IsNetlist l net → net.head.m ≡ 0 → net ≡ netlist_without_rows net.head.width
one_without_rows {l} {net} is no_rows =
    let no_inputs : net.head.n ≡ 0 = is.head.limits.together.0 no_rows in
    let no_operations : net.head.operations ≡ 0 = is.head.none no_rows in
    let operations : net.operations ≡ [] = nothing_in net.operations (is.count ∙ no_operations) in
    let outputs : net.outputs ≡ [] = nothing_in net.outputs (is.one_per_row ∙ no_rows) in
    let count : net.totals.operations ≡ 0 = is.totals.count ∙ no_operations in
    let deep : net.totals.depth ≡ 0 = is.totals.deepest ∙ ap₂ depth no_inputs operations ∙ no_depth in
    λ i. record {
      head = record { m = no_rows i; n = no_inputs i; operations = no_operations i; width = net.head.width };
      operations = operations i;
      outputs = outputs i;
      totals = record { operations = count i; depth = deep i };
    }

-- "Of a bank of no rows it needs no matrix bytes": what check passes against none
pub check_without_bytes : (nb : List ℕ) → AreBytes nb → (check_answer [] nb ≡ checked 0 0) ↔ ((s : ℕ) × SampleWidth s × (nb ≡ netlist_bytes (netlist_without_rows s)))
unfolding matrix_refusal matrix rows_from
check_without_bytes nb all = (λ e. there ((check_accepts [] nb all).0 e), λ x. netlist-checked [] nb (netlist_without_rows x.0) (back x.0 x.1 x.2))
  where
    there : (net : Netlist) × IsNetlistOf [] nb net → (s : ℕ) × SampleWidth s × (nb ≡ netlist_bytes (netlist_without_rows s))
    there x = (
      x.0.head.width,
      x.1.netlist.netlist.head.width,
      x.1.netlist.bytes ∙ ap netlist_bytes (one_without_rows x.1.netlist.netlist (sym x.1.size.same_rows)),
    )

    back : (s : ℕ) → SampleWidth s → nb ≡ netlist_bytes (netlist_without_rows s) → IsNetlistOf [] nb (netlist_without_rows s)
    back s w e = record {
      within-limits = refl;
      netlist = record { netlist = without_rows-is (read_limits s) w; bytes = e };
      size = record { same_rows = refl; same-columns = refl };
      computes = λ xs h. refl;
    }
