-- Document 01, "Netlist and board machine", the bound behind "compiled ones at most 19 more than the sample width": every coefficient
-- of every entry and output is at most the weight of a row of the matrix in its column, which is at most a third of the power of two
-- above the digits (43,690 for 16 positions), after any sequence of steps.
-- Assumes nothing.
use Prim.Native.Nat.{ℕ, suc, ◌+◌, ◌*◌, ◌/◌, ◌^◌, ◌≤◌, ◌<◌}
use mathlib.Core.Path.{◌≡◌, refl, sym, ap, ap₂, ◌∙◌, subst}
use mathlib.Core.Bool.{Bool, true, false, xor}
use mathlib.Core.List.{List, [], ◌∷◌, ◌++◌, map}
use native.Mathlib.Omega.{arith}
use native.Mathlib.Decide.{dec_lt}
use native.Mathlib.Nat.{mul-le-mul_left, pow-succ', le_refl}
use lib.IntN.{ℤ, pos, nat_abs, neg_ℤ}
use lib.ListN.{length, get_or, length-append, length-map, get_or-append, get_or-map}
use lib.Pow.{pow_mono}
use lib.Seq.{get_or_at}
use lib.Dec.{eqb}
use borrow.Author.Tests.{eqb-true, eqb-false}
use Rattle.integers.proofs.Size.{abs-+, abs_neg, abs-*}
use Rattle.term.specs.declared.Term.{Term}
use Rattle.layout_rules.specs.declared.Operation.{Operation}
use Rattle.layout_rules.specs.declared.Output.{Output}
use Rattle.board_rules.specs.Machine.{entry_at, shifted, joined, machine, unit, output_value}
use Rattle.board_rules.proofs.MachineLaws.{Follows, machine_keeps}
use Rattle.board_rules.proofs.FormLaws.{length-unit, unit-same, unit_other}
use Rattle.elimination_rules.specs.declared.Divisor.{Divisor}
use Rattle.elimination_rules.specs.Rows.{Row, WellFormed, EachRow, row_value, matrix_rows}
use Rattle.elimination_rules.specs.Elimination.{Eliminated}
use Rattle.elimination_rules.specs.Weights.{term_weight, row_weight, divisor_weight, Weights, ColumnWeight}
use Rattle.elimination_rules.proofs.Tests.{by_bool}
use Rattle.elimination_rules.proofs.Order.{Columns, DivisorsWithin, matrix_well_formed, steps_well_formed, steps_divisors-within}
use Rattle.elimination_rules.proofs.Weights.{WeightsWithin, steps_weights_within, steps_rows-within}
use Rattle.elimination_rules.proofs.Matrix.{matrix_weights, row_within, values-within}
use Rattle.sum_rules.specs.Joins.{sign_field, joined_term}
use Rattle.compile_rules.specs.Compile.{operations_of, outputs_of}
use Rattle.sum_rules.specs.Sums.{Summed, nothing, last, join, SummedRows, end, first-row}
use Rattle.sum_rules.specs.SumDepth.{EachTerm}
use Rattle.sum_rules.proofs.Sums.{each_member, weight_permuted, summed_rows-length}
use Rattle.sum_rules.proofs.Values.{output_of, follows_left, follows_right}
use Rattle.compile_rules.proofs.Remaining.{remaining_summed}
use Rattle.compile_rules.proofs.Counts.{Stepped, length-operations}
use Rattle.compile_rules.proofs.Operands.{EachOutput}
use Rattle.compile_rules.proofs.Values.{divisors-value, rows_follow, outputs-remaining, entries_follow}

-- ---- the weights of the symbols: those of the inputs, and then one for each divisor

abbrev weight_at : List ℕ → ℕ → ℕ
weight_at ws symbol = get_or ws symbol 0

unfoldable weights_after : List ℕ → List Divisor → List ℕ
weights_after ws [] = ws
weights_after ws (d ∷ ds) = weights_after (ws ++ (divisor_weight (weight_at ws) d ∷ [])) ds

weights_keep : (ws : List ℕ) (ds : List Divisor) (symbol : ℕ) → symbol < length ws → weight_at (weights_after ws ds) symbol ≡ weight_at ws symbol
unfolding weights_after
weights_keep ws [] symbol h = refl
weights_keep ws (d ∷ ds) symbol h =
    let x : List ℕ = divisor_weight (weight_at ws) d ∷ [] in
    weights_keep (ws ++ x) ds symbol (omega (arith, length-append ws x)) ∙ get_or-append ws x 0 symbol h

weights_follow : (positions : ℕ) (ws : List ℕ) (ds : List Divisor) → DivisorsWithin positions (length ws) ds → Weights (weight_at (weights_after ws ds)) (length ws) ds
unfolding weights_after divisor_weight
weights_follow positions ws [] h = tt
weights_follow positions ws (d ∷ ds) h =
    let x : ℕ = divisor_weight (weight_at ws) d in
    let l : length (ws ++ (x ∷ [])) ≡ suc (length ws) = length-append ws (x ∷ []) ∙ one_more (length ws) in (
      weights_keep (ws ++ (x ∷ [])) ds (length ws) (omega arith) ∙ get_or_at ws x [] 0 (length ws) refl
          ∙ ap₂ (λ (y z : ℕ). 2 ^ d.ea * y + 2 ^ d.eb * z) (sym (weights_keep ws (d ∷ ds) d.a h.0.a)) (sym (weights_keep ws (d ∷ ds) d.b h.0.b)),
      subst (λ (s : ℕ). Weights (weight_at (weights_after (ws ++ (x ∷ [])) ds)) s ds) l
          (weights_follow positions (ws ++ (x ∷ [])) ds (subst (λ (s : ℕ). DivisorsWithin positions s ds) (sym l) h.1)),
    )
  where
    one_more : (n : ℕ) → n + 1 ≡ suc n
    one_more n = omega arith

by_order : {A : Type 0} (k m : ℕ) → (k < m → A) → (m ≤ k → A) → A
by_order {A} k m f g = go (dec_lt k m)
  where
    go : Dec (k < m) → A
    go (yes h) = f h
    go (no h) = g (omega arith)

-- a property of the numbers from a first one on
first_or_later : (P : ℕ → Type 0) (first k : ℕ) → first ≤ k → P first → (suc first ≤ k → P k) → P k
first_or_later P first k l here later = by_order first k later (λ h. subst P (omega arith) here)

-- the weights of the divisors' symbols, one by one
weight_within : (w : ℕ → ℕ) (bound symbol : ℕ) (ds : List Divisor) → WeightsWithin w bound symbol ds → (k : ℕ) → symbol ≤ k → k < symbol + length ds → w k ≤ bound
weight_within w bound symbol [] h k l m = absurd (omega arith)
weight_within w bound symbol (d ∷ ds) h k l m =
    first_or_later (λ (j : ℕ). w j ≤ bound) symbol k l h.0 (λ g. weight_within w bound (suc symbol) ds h.1 k g (omega arith))

-- ---- sums: each is part of a row

abbrev EachSmall : ℕ → List ℤ → Type 0
EachSmall bound [] = Unit {0}
EachSmall bound (z ∷ zs) = (nat_abs z ≤ bound) × EachSmall bound zs

-- a weight for each symbol at most another
lighter : (x w : ℕ → ℕ) (r : Row) → EachTerm (λ t. x t.symbol ≤ w t.symbol) r → row_weight x r ≤ row_weight w r
unfolding row_weight term_weight
lighter x w [] h = omega arith
lighter x w (t ∷ r) h = omega (arith, mul-le-mul_left (2 ^ t.exponent) h.0, lighter x w r h.1)

module _ (v : ℕ → ℤ) where
  -- the size of each value as its weight
  abbrev size : ℕ → ℕ
  size symbol = nat_abs (v symbol)

  shifted-size : (t : Term) → nat_abs (shifted (v t.symbol) t.exponent) ≡ term_weight size t
  unfolding term_weight
  shifted-size t = omega (arith, abs-* (v t.symbol) (pos (2 ^ t.exponent)))

  joined_small : (b : Bool) (x y : ℤ) → nat_abs (joined (sign_field b) x y) ≤ nat_abs x + nat_abs y
  unfolding sign_field
  joined_small false x y = abs-+ x y
  joined_small true x y = omega (arith, abs-+ x (neg_ℤ y), abs_neg y)

  join-small : (next : ℕ) (t u : Term) → v next ≡ joined (sign_field (xor t.negative u.negative)) (shifted (v t.symbol) t.exponent) (shifted (v u.symbol) u.exponent)
      → term_weight size (joined_term next t) ≤ term_weight size t + term_weight size u
  unfolding term_weight
  join-small next t u e =
      let x : ℤ = shifted (v t.symbol) t.exponent in
      let y : ℤ = shifted (v u.symbol) u.exponent in
      omega (arith, ap nat_abs e, joined_small (xor t.negative u.negative) x y, shifted-size t, shifted-size u)

  summed_small : (bound : ℕ) {next : ℕ} {r : Row} {os : List Operation} {o : Output} → Summed next r os o → Follows v next os → row_weight size r ≤ bound
      → (k : ℕ) → next ≤ k → k < next + length os → nat_abs (v k) ≤ bound
  unfolding row_weight term_weight
  summed_small bound nothing f h k l m = absurd (omega arith)
  summed_small bound (last t) f h k l m = absurd (omega arith)
  summed_small bound {next} (join {after = after} t u others p q s) f h k l m =
      let lower : row_weight size (joined_term next t ∷ others) ≤ bound = omega (arith, weight_permuted size p, join-small next t u f.0) in
      first_or_later (λ (j : ℕ). nat_abs (v j) ≤ bound) next k l (omega arith)
      (λ g. summed_small bound s f.1 (omega (arith, weight_permuted size q)) k g (omega arith))

  summed_rows-small : (bound : ℕ) {next : ℕ} {rows : List Row} {os : List Operation} {outputs : List Output} → SummedRows next rows os outputs → Follows v next os
      → EachRow (λ r. row_weight size r ≤ bound) rows → (k : ℕ) → next ≤ k → k < next + length os → nat_abs (v k) ≤ bound
  summed_rows-small bound end f h k l m = absurd (omega arith)
  summed_rows-small bound {next} (first-row {os = os} {others = others} s more) f h k l m =
      let both : length (os ++ others) ≡ length os + length others = length-append os others in
      by_order k (next + length os)
      (λ g. summed_small bound s (follows_left v next os others f) h.0 k l g)
      (λ g. summed_rows-small bound more (follows_right v next os others f) h.1 k g (omega arith))

  -- the values of rows, and so of outputs

  rows-small : (bound : ℕ) (rows : List Row) → EachRow (λ r. row_weight size r ≤ bound) rows → EachSmall bound (map (row_value v) rows)
  rows-small bound [] h = tt
  rows-small bound (r ∷ rows) h = (omega (arith, row_within v size r (λ t m. le_refl (size t.symbol)), h.0), rows-small bound rows h.1)

  outputs-small : (bound : ℕ) (os : List Output) → EachSmall bound (map (output_of v) os) → EachOutput (λ o. nat_abs (output_of v o) ≤ bound) os
  outputs-small bound [] h = tt
  outputs-small bound (o ∷ os) h = (h.0, outputs-small bound os h.1)

  sizes_within : (w : ℕ → ℕ) (bound positions limit : ℕ) (rows : List Row) → EachRow (WellFormed positions limit) rows → ((k : ℕ) → k < limit → nat_abs (v k) ≤ w k)
      → EachRow (λ r. row_weight w r ≤ bound) rows → EachRow (λ r. row_weight size r ≤ bound) rows
  sizes_within w bound positions limit [] f h b = tt
  sizes_within w bound positions limit (r ∷ rows) f h b = (
    omega (arith, b.0, lighter size w r (each_member (λ t. size t.symbol ≤ w t.symbol) r (λ t m. h t.symbol (f.0.symbols t m)))),
    sizes_within w bound positions limit rows f.1 h b.1,
  )

-- ---- the coefficients of every entry and every output

-- the largest weight of a column: 43,690 for 16 positions
abbrev pub weight_bound : ℕ → ℕ
weight_bound positions = 2 ^ suc positions / 3

module _ (positions n : ℕ) (m : List (List ℤ)) (e : Eliminated) (some : 1 ≤ positions) (c : Columns n m) (steps : Stepped n (matrix_rows positions m) e)
    (column : ℕ) (inside : column < n) where
  abbrev bound : ℕ
  bound = weight_bound positions

  -- the values of the symbols on the column's unit vector, and their weights
  v : ℕ → ℤ
  v = entry_at (machine (unit n column) (operations_of n e))

  input_weights : List ℕ
  input_weights = map nat_abs (unit n column)

  w : ℕ → ℕ
  w = weight_at (weights_after input_weights e.divisors)

  well_formed : EachRow (WellFormed positions n) (matrix_rows positions m)
  well_formed = matrix_well_formed positions n m c

  follow : Follows v n (operations_of n e)
  unfolding v
  follow = entries_follow positions n (matrix_rows positions m) e some well_formed steps (unit n column) (length-unit n column)

  length-inputs : length input_weights ≡ n
  unfolding input_weights
  length-inputs = length-map (unit n column) nat_abs ∙ length-unit n column

  limited : DivisorsWithin positions n e.divisors
  limited = steps_divisors-within positions steps well_formed

  weights : Weights w n e.divisors
  unfolding w
  weights = subst (λ (s : ℕ). Weights (weight_at (weights_after input_weights e.divisors)) s e.divisors) length-inputs
      (weights_follow positions input_weights e.divisors (subst (λ (s : ℕ). DivisorsWithin positions s e.divisors) (sym length-inputs) limited))

  input_weight : (k : ℕ) → k < n → w k ≡ nat_abs (entry_at (unit n column) k)
  unfolding w input_weights
  input_weight k h = weights_keep input_weights e.divisors k (omega (arith, length-inputs)) ∙ get_or-map nat_abs (unit n column) k (pos 0)

  column_weight : ColumnWeight n column w
  column_weight = record {
    own = input_weight column inside ∙ ap nat_abs (unit-same n column inside);
    others = λ k h d. input_weight k h ∙ ap nat_abs (unit_other n column k (λ f. d (sym f)));
  }

  input-small : (k : ℕ) → k < n → w k ≤ bound
  input-small k h = by_bool (eqb k column)
      (λ f. let own : w k ≡ 1 = ap w (eqb-true k column f) ∙ column_weight.own in
      omega (arith, pow-succ' 2 positions, pow_mono {i = 1} {j = positions} some))
      (λ f. omega (arith, column_weight.others k h (eqb-false k column f)))

  values-small : (k : ℕ) → k < n + length e.divisors → nat_abs (v k) ≤ w k
  values-small = values-within v w positions n e.divisors limited (divisors-value v n e follow) weights
      (λ k h. omega (arith, input_weight k h, kept k h))
    where
      kept : (k : ℕ) → k < n → nat_abs (v k) ≡ nat_abs (entry_at (unit n column) k)
      kept k h = unfold v in ap nat_abs (machine_keeps (unit n column) (operations_of n e) k (omega (arith, length-unit n column)))

  first_rows : EachRow (λ r. row_weight w r ≤ bound) (matrix_rows positions m)
  first_rows = matrix_weights w positions n column bound m c column_weight (omega arith)

  remaining-rows : EachRow (λ r. row_weight (size v) r ≤ bound) e.remaining_rows
  remaining-rows = sizes_within v w bound positions (n + length e.divisors) e.remaining_rows (steps_well_formed positions steps well_formed) values-small
      (steps_rows-within w bound steps weights first_rows)

  entries-small : (k : ℕ) → k < n + length (operations_of n e) → nat_abs (v k) ≤ bound
  entries-small k h =
      let next : ℕ = n + length e.divisors in
      by_order k n
      (λ l. omega (arith, values-small k (omega arith), input-small k l))
      (λ l. by_order k next
      (λ g. omega (arith, values-small k g, weight_within w bound n e.divisors (steps_weights_within w bound steps weights first_rows) k l g))
      (λ g. summed_rows-small v bound (remaining_summed n e) (rows_follow v n e follow) remaining-rows k g
      (omega (arith, length-operations n e, summed_rows-length (remaining_summed n e)))))

  pub entry_coefficient : (k : ℕ) → k < n + length (operations_of n e) → nat_abs (entry_at (machine (unit n column) (operations_of n e)) k) ≤ weight_bound positions
  unfolding v
  entry_coefficient k h = entries-small k h

  pub output-coefficients : EachOutput (λ o. nat_abs (output_value (machine (unit n column) (operations_of n e)) o) ≤ weight_bound positions) (outputs_of n e)
  unfolding v
  output-coefficients = outputs-small v bound (outputs_of n e)
      (subst (EachSmall bound) (sym (outputs-remaining v n e follow)) (rows-small v bound e.remaining_rows remaining-rows))
