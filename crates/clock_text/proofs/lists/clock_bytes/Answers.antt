-- `clock_text::lists::clock_bytes` meets its contract. Assumes nothing.
use Prim.Native.Nat.{ℕ, ◌*◌, ◌≤◌}
use mathlib.Core.Path.{◌≡◌, refl, sym, ◌∙◌}
use mathlib.Core.Bool.{true, false}
use mathlib.Core.List.{List}
use lib.Dec.{leb}
use lib.IntN.{ℤ}
use lib.ListN.{length}
use borrow.Author.Tests.{not-true, not-false}
use Rattle.limits.specs.Limits.{max_rows}
use Rattle.netlist_rules.proofs.Conditions.{and_says, at_most_says}
use Rattle.clock_text.specs.declared.lists.Clocked.{Clocked}
use Rattle.clock_text.specs.ListBytes.{most_samples, clocked_answer, outputs_after, fitting, clocked_in, outputs_in}
use Rattle.clock_text.proofs.lists.clock_bytes.Goals as goal
use Rattle.clock_text.proofs.lists.clock_bytes.Lts
use Rattle.clock_text.proofs.lists.clock_bytes.Reads
use Rattle.clock_text.proofs.lists.clock_bytes.Tie

module _ (netlist bytes : List ℕ) (outputs : List ℤ) where
  abbrev nothing : Clocked
  nothing = record { refusal = 0; place = 0; rows = 0; clocks = 0 }

  not-fitting : fitting bytes (length outputs) ≡ false → (nothing ≡ clocked_in (length outputs) netlist bytes) × (outputs ≡ outputs_in netlist bytes outputs)
  unfolding clocked_in outputs_in
  not-fitting e = (rw (e, clocked_in) refl, rw (e, outputs_in) refl)

  fits : fitting bytes (length outputs) ≡ true
      → (clocked_answer netlist bytes ≡ clocked_in (length outputs) netlist bytes) × (outputs_after netlist bytes outputs ≡ outputs_in netlist bytes outputs)
  unfolding clocked_in outputs_in
  fits e = (rw (e, clocked_in) refl, rw (e, outputs_in) refl)

  bounds : fitting bytes (length outputs) ≡ true → (length bytes ≤ 4 * most_samples) × (max_rows * most_samples ≤ length outputs)
  unfolding fitting
  bounds =
      (and_says (leb (length bytes) (4 * most_samples)) (leb (max_rows * most_samples) (length outputs)) (at_most_says (length bytes) (4 * most_samples))
      (at_most_says (max_rows * most_samples) (length outputs))).0

pub returns-then-not-list_fits : goal.returns-then-not-list_fits
returns-then-not-list_fits c = let r = c in let a = r.args in
    let p = not-fitting a.netlist.now a.bytes.now a.outputs.now (sym r.list_fits.ensures ∙ not-true _ c.if-not-list_fits.true-raw) in record { value = p.0; outputs_after = p.1 }

there : (c : Lts.Else1 Tie.the-claims Reads.Pre Reads.Post Tie.handed_clauses) → let a = c.args in fitting a.bytes.now (length a.outputs.now) ≡ true
there c = sym c.list_fits.ensures ∙ not-false _ c.if-not-list_fits.false-raw

pub clock_fitting-requires : goal.clock_fitting-requires
clock_fitting-requires c = let a = c.args in
    bounds a.netlist.now a.bytes.now a.outputs.now (there c.before.before)

pub returns : goal.returns
returns c = let f = c.clock_fitting.ensures in let a = c.args in
    let whole = fits a.netlist.now a.bytes.now a.outputs.now (there c.before.before.before.before) in
    record { value = f.value ∙ whole.0; outputs_after = f.outputs_after ∙ whole.1 }
