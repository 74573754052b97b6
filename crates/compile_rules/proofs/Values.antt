-- Document 01, "Netlist and board machine": the board machine's outputs on the operations of a matrix are each row times the samples,
-- after any sequence of steps.
-- Assumes nothing.
use Prim.Native.Nat.{ℕ, suc, ◌+◌, ◌^◌, ◌≤◌, ◌<◌}
use mathlib.Core.Path.{◌≡◌, refl, sym, ap, ap₂, ◌∙◌, subst}
use mathlib.Core.List.{List, [], ◌∷◌, map}
use native.Mathlib.Omega.{arith}
use lib.IntN.{ℤ, pos, ◌+ℤ◌, ◌*ℤ◌, *ℤ_comm}
use lib.ListN.{length, length-map}
use Rattle.layout_rules.specs.declared.Operation.{Operation}
use Rattle.board_rules.specs.Machine.{entry_at, shifted, machine, output_value, times}
use Rattle.board_rules.proofs.MachineLaws.{Follows, machine_follows, machine_keeps}
use Rattle.elimination_rules.specs.declared.Divisor.{Divisor}
use Rattle.elimination_rules.specs.Rows.{Row, WellFormed, EachRow, signed, row_value, matrix_rows}
use Rattle.elimination_rules.specs.Divisors.{divisor_value}
use Rattle.elimination_rules.specs.Elimination.{Eliminated}
use Rattle.elimination_rules.proofs.Order.{matrix_well_formed}
use Rattle.elimination_rules.proofs.Value.{Values, steps_value}
use Rattle.elimination_rules.proofs.Matrix.{coefficients_times, row-value}
use Rattle.sum_rules.specs.Joins.{divisor_operation}
use Rattle.compile_rules.specs.Compile.{row_operations, operations_of, outputs_of}
use Rattle.compile_rules.specs.Limits.{RowsWithin}
use Rattle.sum_rules.proofs.Values.{output_of, joined_is, next_symbol, follows_left, follows_right, summed_rows-value}
use Rattle.compile_rules.proofs.Remaining.{remaining_summed}
use Rattle.compile_rules.proofs.Counts.{Stepped}
use Rattle.compile_rules.proofs.Limits.{rows-columns, coefficients_enough}
use Rattle.compile_rules.proofs.Operands.{operations_earlier}

module _ (v : ℕ → ℤ) where
  -- ---- divisors

  divisors_follow : (s : ℕ) (ds : List Divisor) → Follows v s (map divisor_operation ds) → Values v s ds
  unfolding divisor_value
  divisors_follow s [] h = tt
  divisors_follow s (d ∷ ds) h = (
    h.0 ∙ joined_is d.minus (shifted (v d.a) d.ea) (v d.b) d.eb
        ∙ ap (λ z. z +ℤ signed d.minus (pos (2 ^ d.eb) *ℤ v d.b)) (*ℤ_comm (v d.a) (pos (2 ^ d.ea))),
    divisors_follow (suc s) ds h.1,
  )

  -- ---- a netlist: where each entry is what its operation makes of its operands, outputs are the values of the first rows

  pub divisors-value : (n : ℕ) (e : Eliminated) → Follows v n (operations_of n e) → Values v n e.divisors
  unfolding operations_of
  divisors-value n e h =
      divisors_follow n e.divisors (follows_left v n (map divisor_operation e.divisors) (row_operations n e) h)

  pub rows_follow : (n : ℕ) (e : Eliminated) → Follows v n (operations_of n e) → Follows v (n + length e.divisors) (row_operations n e)
  unfolding operations_of
  rows_follow n e h =
      let next : ℕ = n + length e.divisors in
      let made : List Operation = map divisor_operation e.divisors in
      subst (λ (k : ℕ). Follows v (n + k) (row_operations n e)) (length-map e.divisors divisor_operation)
      (follows_right v n made (row_operations n e) h)

  pub outputs-remaining : (n : ℕ) (e : Eliminated) → Follows v n (operations_of n e) → map (output_of v) (outputs_of n e) ≡ map (row_value v) e.remaining_rows
  outputs-remaining n e h = summed_rows-value v (remaining_summed n e) (rows_follow n e h)

  pub outputs-value : (n : ℕ) (rows : List Row) (e : Eliminated) → Stepped n rows e → Follows v n (operations_of n e) → map (output_of v) (outputs_of n e) ≡ map (row_value v) rows
  outputs-value n rows e s h = outputs-remaining n e h ∙ steps_value v s (divisors-value n e h)

-- ---- the machine

-- the entries of samples follow the operations
pub entries_follow : (positions n : ℕ) (rows : List Row) (e : Eliminated) → 1 ≤ positions → EachRow (WellFormed positions n) rows → Stepped n rows e
    → (xs : List ℤ) → length xs ≡ n → Follows (entry_at (machine xs (operations_of n e))) n (operations_of n e)
entries_follow positions n rows e some w s xs l =
    let os : List Operation = operations_of n e in
    subst (λ (k : ℕ). Follows (entry_at (machine xs os)) k os) l
    (machine_follows xs os (rw l (operations_earlier positions n rows e some w s)))

-- the outputs are each row's value
pub machine-rows : (positions n : ℕ) (rows : List Row) (e : Eliminated) → 1 ≤ positions → EachRow (WellFormed positions n) rows → Stepped n rows e
    → (xs : List ℤ) → length xs ≡ n
    → map (output_value (machine xs (operations_of n e))) (outputs_of n e) ≡ map (row_value (entry_at (machine xs (operations_of n e)))) rows
machine-rows positions n rows e some w s xs l =
    outputs-value (entry_at (machine xs (operations_of n e))) n rows e s (entries_follow positions n rows e some w s xs l)

-- ---- and that is row times vector

coefficients-times : (v : ℕ → ℤ) (column : ℕ) (row xs : List ℤ) → length row ≡ length xs → ((i : ℕ) → i < length xs → v (column + i) ≡ entry_at xs i)
    → coefficients_times v column row ≡ times row xs
unfolding coefficients_times times
coefficients-times v column [] xs l h = refl
coefficients-times v column (z ∷ row) [] l h = absurd (omega arith)
coefficients-times v column (z ∷ row) (x ∷ xs) l h =
    let here : column ≡ column + 0 = omega arith in
    ap₂ ◌+ℤ◌ (ap (λ y. z *ℤ y) (ap v here ∙ h 0 (omega arith)))
    (coefficients-times v (suc column) row xs (omega arith) (λ i k. ap v (next_symbol column i) ∙ h (suc i) (omega arith)))

rows-times : (v : ℕ → ℤ) (positions n : ℕ) (m : List (List ℤ)) (xs : List ℤ) → 1 ≤ positions → RowsWithin positions n m → length xs ≡ n
    → ((i : ℕ) → i < length xs → v i ≡ entry_at xs i) → map (row_value v) (matrix_rows positions m) ≡ map (λ row. times row xs) m
unfolding matrix_rows
rows-times v positions n [] xs some w l h = refl
rows-times v positions n (row ∷ m) xs some w l h =
    ap₂ ◌∷◌
    (row-value v positions 0 row (coefficients_enough positions row some w.0.1)
    ∙ coefficients-times v 0 row xs (w.0.0 ∙ sym l) (λ i k. let same : 0 + i ≡ i = omega arith in ap v same ∙ h i k))
    (rows-times v positions n m xs some w.1 l h)

pub machine-times : (positions n : ℕ) (m : List (List ℤ)) (e : Eliminated) → 1 ≤ positions → RowsWithin positions n m → Stepped n (matrix_rows positions m) e
    → (xs : List ℤ) → length xs ≡ n → map (output_value (machine xs (operations_of n e))) (outputs_of n e) ≡ map (λ row. times row xs) m
machine-times positions n m e some w s xs l =
    let os : List Operation = operations_of n e in
    machine-rows positions n (matrix_rows positions m) e some (matrix_well_formed positions n m (rows-columns positions n m w)) s xs l
    ∙ rows-times (entry_at (machine xs os)) positions n m xs some w l (λ i h. machine_keeps xs os i h)
