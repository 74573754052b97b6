-- Document 01, "compiled ones at most 19 more than the sample width": a compiled width is at most the number of
-- positions, the sample width and the bits that the number of columns needs, added up, after any sequence of steps.
-- Assumes nothing.
use Prim.Native.Nat.{ℕ, suc, ◌+◌, ◌*◌, ◌-◌, ◌^◌, ◌≤◌, ◌<◌}
use mathlib.Core.Path.{◌≡◌, sym, ap, ◌∙◌}
use mathlib.Core.List.{List, [], ◌∷◌}
use native.Mathlib.Omega.{arith}
use native.Mathlib.Nat.{mul-le-mul_left, mul-le-mul_right, pow-succ'}
use lib.IntN.{ℤ, pos, nat_abs}
use lib.ListN.{length, get_or}
use lib.Pow.{pow-add, pow_pos}
use Rattle.layout_rules.specs.declared.Operation.{Operation}
use Rattle.layout_rules.specs.declared.Output.{Output}
use Rattle.board_rules.specs.Machine.{entry_at, machine, unit, output_value, entry_form, output_form}
use Rattle.board_rules.specs.Width.{positives, negatives, width}
use Rattle.board_rules.specs.Table.{each_column}
use Rattle.board_rules.proofs.FormLaws.{entry_columns, output-columns, columns_at, length-columns}
use Rattle.board_rules.proofs.RangeLaws.{sums_of_sizes, width-of_sums}
use Rattle.elimination_rules.specs.Rows.{matrix_rows}
use Rattle.elimination_rules.specs.Elimination.{Eliminated}
use Rattle.elimination_rules.proofs.Order.{Columns}
use Rattle.compile_rules.specs.Compile.{operations_of, outputs_of}
use Rattle.compile_rules.proofs.Counts.{Stepped}
use Rattle.compile_rules.proofs.Operands.{EachOutput}
use Rattle.compile_rules.proofs.Netlist.{Narrow}
use Rattle.compile_rules.proofs.Weights.{weight_bound, entry_coefficient, output-coefficients}

-- C coefficients of size at most a third of X, over samples of size A
third : (A C B T X Y : ℕ) → T ≤ C * B → 3 * B ≤ X → A * C * X ≡ 2 * Y → 1 ≤ Y → A * T < Y
third A C B T X Y t b y some =
    let sums : A * T ≤ A * (C * B) = mul-le-mul_left A t in
    let thrice : A * C * (3 * B) ≤ A * C * X = mul-le-mul_left (A * C) b in
    omega arith

-- a form of at most 2^c such coefficients
narrow_form : (s positions c : ℕ) (cs : List ℤ) → 1 ≤ s → length cs ≤ 2 ^ c → ((j : ℕ) → j < length cs → nat_abs (get_or cs j (pos 0)) ≤ weight_bound positions)
    → width s cs ≤ positions + s + c
narrow_form s positions c cs some few small =
    let B : ℕ = weight_bound positions in
    let T : ℕ = positives cs + negatives cs in
    let top : ℕ = positions + s + c - 1 in
    let sums : T ≤ 2 ^ c * B = omega (arith, sums_of_sizes B cs small, mul-le-mul_right B few) in
    let powers : 2 ^ (s - 1) * 2 ^ c * 2 ^ suc positions ≡ 2 * 2 ^ top =
    ap (λ (x : ℕ). x * 2 ^ suc positions) (sym (pow-add 2 (s - 1) c)) ∙ sym (pow-add 2 (s - 1 + c) (suc positions)) ∙ ap (λ (x : ℕ). 2 ^ x) (omega arith) ∙ pow-succ' 2 top in
    width-of_sums s (positions + s + c) cs (omega arith) (third (2 ^ (s - 1)) (2 ^ c) B T (2 ^ suc positions) (2 ^ top) sums (omega arith) powers (pow_pos top))

-- a form by its columns
narrow-columns : (s positions c n : ℕ) (f : ℕ → ℤ) → 1 ≤ s → n ≤ 2 ^ c → ((j : ℕ) → j < n → nat_abs (f j) ≤ weight_bound positions) → width s (each_column n f) ≤ positions + s + c
narrow-columns s positions c n f some few small =
    let counted : length (each_column n f) ≡ n = length-columns 0 n f in
    narrow_form s positions c (each_column n f) some (omega arith)
    (λ j l.
    let inside : j < n = omega arith in
    let first : 0 + j ≡ j = omega arith in
    omega (arith, small j inside, ap nat_abs (columns_at 0 n f j inside ∙ ap f first)))

-- a property of each output, for each of a number of columns
each-column : (P : ℕ → Output → Type 0) (n : ℕ) (os : List Output) → ((j : ℕ) → j < n → EachOutput (P j) os) → EachOutput (λ o. (j : ℕ) → j < n → P j o) os
each-column P n [] h = tt
each-column P n (o ∷ os) h = ((λ j l. (h j l).0), each-column P n os (λ j l. (h j l).1))

each-output : (P Q : Output → Type 0) → ((o : Output) → P o → Q o) → (os : List Output) → EachOutput P os → EachOutput Q os
each-output P Q f [] h = tt
each-output P Q f (o ∷ os) h = (f o h.0, each-output P Q f os h.1)

module _ (positions n : ℕ) (m : List (List ℤ)) (e : Eliminated) (some : 1 ≤ positions) (limited : Columns n m) (steps : Stepped n (matrix_rows positions m) e)
    (s c : ℕ) (bits : 1 ≤ s) (few : n ≤ 2 ^ c) where
  os : List Operation
  os = operations_of n e

  entry_narrow : (symbol : ℕ) → symbol < n + length os → width s (entry_form n os symbol) ≤ positions + s + c
  unfolding os
  entry_narrow symbol h = rw (entry_columns n os symbol)
      (narrow-columns s positions c n (λ j. entry_at (machine (unit n j) os) symbol) bits few (λ j l. entry_coefficient positions n m e some limited steps j l symbol h))

  output-narrow : (o : Output) → ((j : ℕ) → j < n → nat_abs (output_value (machine (unit n j) os) o) ≤ weight_bound positions) → width s (output_form n os o) ≤ positions + s + c
  output-narrow o small = rw (output-columns n os o) (narrow-columns s positions c n (λ j. output_value (machine (unit n j) os) o) bits few small)

  pub narrow : Narrow s (positions + s + c) n e
  unfolding os
  narrow = record {
    entries = entry_narrow;
    outputs = each-output (λ o. (j : ℕ) → j < n → nat_abs (output_value (machine (unit n j) os) o) ≤ weight_bound positions) (λ o. width s (output_form n os o) ≤ positions + s + c)
        output-narrow (outputs_of n e)
        (each-column (λ j o. nat_abs (output_value (machine (unit n j) os) o) ≤ weight_bound positions) n (outputs_of n e)
        (λ j l. output-coefficients positions n m e some limited steps j l));
  }
