-- Document 01, "Netlist and board machine": how many operations, outputs and bytes a netlist has, after any sequence of steps.
-- Assumes nothing.
use Prim.Native.Nat.{ℕ, suc, ◌+◌, ◌≤◌}
use mathlib.Core.Path.{◌≡◌, refl, ap, ◌∙◌}
use mathlib.Core.Bool.{Bool}
use mathlib.Core.List.{List, [], ◌∷◌, map}
use native.Mathlib.Omega.{arith}
use lib.Dec.{eqb}
use lib.ListN.{length, length-append, length-map}
use Rattle.layout_rules.specs.declared.Operation.{Operation}
use Rattle.layout_rules.specs.declared.Output.{Output}
use Rattle.layout_rules.specs.Records.{head_length_of, netlist_bytes}
use Rattle.layout_rules.specs.Places.{netlist_length}
use Rattle.layout_rules.proofs.Lengths.{length-netlist}
use Rattle.elimination_rules.specs.declared.Divisor.{Divisor}
use Rattle.elimination_rules.specs.Rows.{Row, plain_count}
use Rattle.elimination_rules.specs.Elimination.{Eliminated}
use Rattle.elimination_rules.specs.Steps.{Steps, end, step}
use Rattle.elimination_rules.proofs.Tests.{by_bool, same_choice}
use Rattle.elimination_rules.proofs.Order.{length-rows-after}
use Rattle.elimination_rules.proofs.Counts.{steps_operations, steps_twice}
use Rattle.sum_rules.specs.Joins.{divisor_operation}
use Rattle.compile_rules.specs.Compile.{row_operations, operations_of, outputs_of, with_widths, output_with_width, netlist_of, negated_outputs}
use Rattle.sum_rules.proofs.Sums.{summed_rows-length, summed_rows-outputs}
use Rattle.compile_rules.proofs.Remaining.{remaining_summed}

-- e is what some sequence of steps from the rows gives, with the inputs as the symbols below n
abbrev pub Stepped : ℕ → List Row → Eliminated → Type 0
Stepped n rows e = Steps n rows e.divisors e.replacements e.remaining_rows

-- ---- operations: one for each divisor, and (terms − 1) for each remaining row

pub length-operations : (n : ℕ) (e : Eliminated) → length (operations_of n e) ≡ length e.divisors + plain_count e.remaining_rows
unfolding operations_of
length-operations n e =
    let ds : List Operation = map divisor_operation e.divisors in
    let next : ℕ = n + length e.divisors in
    omega (arith, length-append ds (row_operations n e), length-map e.divisors divisor_operation, summed_rows-length (remaining_summed n e))

-- operations = plain + divisors − replacements
pub operations-count : (n : ℕ) (rows : List Row) (e : Eliminated) → Stepped n rows e
    → length (operations_of n e) + e.replacements ≡ plain_count rows + length e.divisors
operations-count n rows e s = omega (arith, length-operations n e, steps_operations s)

-- each step replaces at least two pairs, so operations ≤ plain − divisors
pub operations-fewer : (n : ℕ) (rows : List Row) (e : Eliminated) → Stepped n rows e → length (operations_of n e) + length e.divisors ≤ plain_count rows
operations-fewer n rows e s = omega (arith, operations-count n rows e s, steps_twice s)

-- a bank of no rows has no operations
pub no_operations : (n : ℕ) (rows : List Row) (e : Eliminated) → Stepped n rows e → length rows ≡ 0 → length (operations_of n e) ≡ 0
unfolding plain_count
no_operations n [] e s h = omega (arith, operations-fewer n [] e s)
no_operations n (r ∷ rows) e s h = absurd (omega (arith, h))

-- ---- outputs: one for each row

pub steps_rows : {symbol : ℕ} {rows : List Row} {ds : List Divisor} {k : ℕ} {after : List Row} → Steps symbol rows ds k after → length after ≡ length rows
steps_rows end = refl
steps_rows {symbol} {rows} (step d h more) = steps_rows more ∙ length-rows-after symbol d rows

pub length-outputs : (n : ℕ) (rows : List Row) (e : Eliminated) → Stepped n rows e → length (outputs_of n e) ≡ length rows
length-outputs n rows e s = summed_rows-outputs (remaining_summed n e) ∙ steps_rows s

-- ---- negated outputs: at most one for each output, and widths leave signs as they are

pub negated-most : (outputs : List Output) → negated_outputs outputs ≤ length outputs
unfolding negated_outputs
negated-most [] = omega arith
negated-most (o ∷ outputs) = by_bool (eqb o.sign 1) (λ e. rw (e, negated_outputs) (omega (arith, negated-most outputs))) (λ e. rw (e, negated_outputs) (omega (arith, negated-most outputs)))

pub negated_with_widths : (s n : ℕ) (os : List Operation) (outputs : List Output) → negated_outputs (map (output_with_width s n os) outputs) ≡ negated_outputs outputs
unfolding negated_outputs
negated_with_widths s n os [] = refl
negated_with_widths s n os (o ∷ outputs) =
    let minus : Bool = eqb o.sign 1 in
    let rest = negated_with_widths s n os outputs in
    same_choice (λ (k : ℕ). k) minus minus (suc (negated_outputs outputs)) (negated_outputs outputs) _ _ refl (ap suc rest) rest

-- ---- the netlist: widths add nothing

pub length_with_widths : (s n : ℕ) (all : List Operation) (symbol : ℕ) (os : List Operation) → length (with_widths s n all symbol os) ≡ length os
unfolding with_widths
length_with_widths s n all symbol [] = refl
length_with_widths s n all symbol (o ∷ os) = ap suc (length_with_widths s n all (suc symbol) os)

pub netlist-operations : (s m n : ℕ) (e : Eliminated) → length (netlist_of s m n e).operations ≡ length (operations_of n e)
unfolding netlist_of
netlist-operations s m n e = length_with_widths s n (operations_of n e) n (operations_of n e)

pub netlist-outputs : (s m n : ℕ) (rows : List Row) (e : Eliminated) → Stepped n rows e → length (netlist_of s m n e).outputs ≡ length rows
unfolding netlist_of
netlist-outputs s m n rows e h = length-map (outputs_of n e) (output_with_width s n (operations_of n e)) ∙ length-outputs n rows e h

pub netlist-length : (s m n : ℕ) (rows : List Row) (e : Eliminated) → Stepped n rows e
    → length (netlist_bytes (netlist_of s m n e)) ≡ netlist_length (head_length_of s) (length (operations_of n e)) (length rows)
unfolding netlist_of
netlist-length s m n rows e h =
    omega (arith, length-netlist (netlist_of s m n e), netlist-operations s m n e, netlist-outputs s m n rows e h)
