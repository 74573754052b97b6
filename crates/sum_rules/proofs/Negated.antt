-- Document 01, "Row sums": operations that sum rows, in any order and with either operand first, also sum the negated rows, with the
-- outputs negated. So negated rows have the same depth in the shallowest order, whichever operand is first.
-- Assumes nothing.
use Prim.Native.Nat.{ℕ, zero, suc}
use mathlib.Core.Path.{◌≡◌, refl, ap₂, subst}
use mathlib.Core.Bool.{Bool, true, false, not, xor, not-not}
use mathlib.Core.List.Permᴰ
use mathlib.Core.List.{List, [], ◌∷◌, map}
use native.Mathlib.Omega.{arith}
use lib.ListN.{length}
use Rattle.term.specs.declared.Term.{Term}
use Rattle.layout_rules.specs.declared.Operation.{Operation}
use Rattle.layout_rules.specs.declared.Output.{Output}
use Rattle.board_rules.specs.Machine.{depths, largest}
use Rattle.elimination_rules.specs.Rows.{Row, EachRow}
use Rattle.elimination_rules.specs.Divisors.{negated}
use Rattle.elimination_rules.specs.Negated.{negated_row, negated_rows}
use Rattle.sum_rules.specs.Joins.{sign_field, join_operation, term_output}
use Rattle.sum_rules.specs.Sums.{Summed, nothing, last, join, SummedRows, end, first-row}
use Rattle.sum_rules.specs.Shallowest.{OperandOrder, sum_operations, sum_outputs}
use Rattle.sum_rules.specs.SumDepth.{HasDepth, EachTerm}
use Rattle.sum_rules.proofs.RowSums.{sums_summed}
use Rattle.sum_rules.proofs.RowsDepth.{rows-largest}

-- ---- outputs: plus and minus change places, zero stays

abbrev negated_sign : ℕ → ℕ
negated_sign zero = 1
negated_sign (suc zero) = 0
negated_sign (suc (suc s)) = suc (suc s)

abbrev negated_output : Output → Output
negated_output o = record { sign = negated_sign o.sign; symbol = o.symbol; shift = o.shift; width = o.width }

sign-negated : (b : Bool) → sign_field (not b) ≡ negated_sign (sign_field b)
unfolding sign_field
sign-negated true = refl
sign-negated false = refl

output-negated : (t : Term) → term_output (negated t) ≡ negated_output (term_output t)
output-negated t = λ i. record { sign = sign-negated t.negative i; symbol = t.symbol; shift = t.exponent; width = 0 }

-- ---- operations: signs agree where they agreed

signs-differ : (a b : Bool) → xor (not a) (not b) ≡ xor a b
unfolding xor
signs-differ true true = refl
signs-differ true false = refl
signs-differ false true = refl
signs-differ false false = refl

join-negated : (t u : Term) → join_operation (negated t) (negated u) ≡ join_operation t u
join-negated t u = λ i. record {
  sign = sign_field (signs-differ t.negative u.negative i);
  a = t.symbol;
  sa = t.exponent;
  b = u.symbol;
  sb = u.exponent;
  width = 0;
}

-- ---- rows, joined in any order

summed_negated : {next : ℕ} {r : Row} {os : List Operation} {o : Output} → Summed next r os o → Summed next (negated_row r) os (negated_output o)
summed_negated nothing = nothing
summed_negated {next} (last t) = subst (Summed next (negated t ∷ []) []) (output-negated t) (last (negated t))
summed_negated {next} {r} {o = o} (join {os = os} t u others p q s) =
    subst (λ (first : Operation). Summed next (negated_row r) (first ∷ os) (negated_output o)) (join-negated t u)
    (join (negated t) (negated u) (negated_row others) (Permᴰ.map negated p) (Permᴰ.map negated q) (summed_negated s))

summed_rows-negated : {next : ℕ} {rows : List Row} {os : List Operation} {outputs : List Output}
    → SummedRows next rows os outputs → SummedRows next (negated_rows rows) os (map negated_output outputs)
summed_rows-negated end = end
summed_rows-negated (first-row s more) = first-row (summed_negated s) (summed_rows-negated more)

-- ---- negated twice

row_twice : (r : Row) → negated_row (negated_row r) ≡ r
row_twice [] = refl
row_twice (t ∷ r) = ap₂ ◌∷◌ (λ i. record { symbol = t.symbol; exponent = t.exponent; negative = not-not t.negative i }) (row_twice r)

rows_twice : (rows : List Row) → negated_rows (negated_rows rows) ≡ rows
rows_twice [] = refl
rows_twice (r ∷ rows) = ap₂ ◌∷◌ (row_twice r) (rows_twice rows)

-- ---- the largest depth

known_row : (ds : List ℕ) (r : Row) → EachTerm (HasDepth ds) r → EachTerm (HasDepth ds) (negated_row r)
known_row ds [] h = tt
known_row ds (t ∷ r) h = (h.0, known_row ds r h.1)

known_negated : (ds : List ℕ) (rows : List Row) → EachRow (EachTerm (HasDepth ds)) rows → EachRow (EachTerm (HasDepth ds)) (negated_rows rows)
known_negated ds [] h = tt
known_negated ds (r ∷ rows) h = (known_row ds r h.0, known_negated ds rows h.1)

pub largest-negated : (x y : OperandOrder) (ds : List ℕ) (rows : List Row) → EachRow (EachTerm (HasDepth ds)) rows
    → largest (depths ds (sum_operations x ds (negated_rows rows))) ≡ largest (depths ds (sum_operations y ds rows))
largest-negated x y ds rows h =
    let os : List Operation = sum_operations x ds (negated_rows rows) in
    let outputs : List Output = map negated_output (sum_outputs x ds (negated_rows rows)) in
    let back : SummedRows (length ds) rows os outputs =
    subst (λ (others : List Row). SummedRows (length ds) others os outputs) (rows_twice rows) (summed_rows-negated (sums_summed x ds (negated_rows rows))) in
    omega (
      arith,
      rows-largest x ds (negated_rows rows) (known_negated ds rows h) (summed_rows-negated (sums_summed y ds rows)),
      rows-largest y ds rows h back,
    )
