-- Document 01, "Row sums": whatever the order in which a row's terms are joined, its output has the row's value.
-- Assumes nothing.
use Prim.Native.Nat.{ℕ, suc, ◌+◌, ◌^◌}
use mathlib.Core.Path.{◌≡◌, refl, sym, ap, ap₂, ◌∙◌, subst}
use mathlib.Core.Bool.{Bool, true, false, xor}
use mathlib.Core.List.{List, [], ◌∷◌, ◌++◌, map}
use native.Mathlib.Omega.{arith}
use lib.IntN.{ℤ, pos, neg_ℤ, ◌+ℤ◌, ◌*ℤ◌, *ℤ_comm, +ℤ_assoc, +ℤ_idr, neg_ℤ-+ℤ, neg_ℤ-neg_ℤ}
use lib.ListN.{length}
use Rattle.integers.proofs.Expression.{at, nat, ◌⊗◌, equal}
use Rattle.term.specs.declared.Term.{Term}
use Rattle.layout_rules.specs.declared.Operation.{Operation}
use Rattle.layout_rules.specs.declared.Output.{Output}
use Rattle.board_rules.specs.Machine.{shifted, joined, with_sign}
use Rattle.board_rules.proofs.MachineLaws.{Follows}
use Rattle.elimination_rules.specs.Rows.{Row, signed, term_value, row_sum, row_value}
use Rattle.sum_rules.specs.Joins.{sign_field, joined_term}
use Rattle.sum_rules.specs.Sums.{Summed, nothing, last, join, SummedRows, end, first-row}
use Rattle.sum_rules.proofs.Sums.{sum_permuted}

-- what an output gives for values v of the symbols
abbrev pub output_of : (ℕ → ℤ) → Output → ℤ
output_of v o = with_sign o.sign (shifted (v o.symbol) o.shift)

-- ---- signs and shifts, as the machine and as a row have them

pub joined_is : (b : Bool) (x y : ℤ) (s : ℕ) → joined (sign_field b) x (shifted y s) ≡ x +ℤ signed b (pos (2 ^ s) *ℤ y)
unfolding sign_field
joined_is false x y s = ap (λ z. x +ℤ z) (*ℤ_comm y (pos (2 ^ s)))
joined_is true x y s = ap (λ z. x +ℤ neg_ℤ z) (*ℤ_comm y (pos (2 ^ s)))

signed_is : (b : Bool) (y : ℤ) (s : ℕ) → with_sign (sign_field b) (shifted y s) ≡ signed b (pos (2 ^ s) *ℤ y)
unfolding sign_field
signed_is false y s = *ℤ_comm y (pos (2 ^ s))
signed_is true y s = ap neg_ℤ (*ℤ_comm y (pos (2 ^ s)))

one-times : (z : ℤ) → pos 1 *ℤ z ≡ z
one-times z = equal (nat 1 ⊗ at z) (at z) (omega arith)

signed_plus : (b : Bool) (x y : ℤ) → signed b (x +ℤ y) ≡ signed b x +ℤ signed b y
signed_plus false x y = refl
signed_plus true x y = neg_ℤ-+ℤ x y

turned_back : (turned b : Bool) (z : ℤ) → signed turned (signed (xor turned b) z) ≡ signed b z
unfolding xor
turned_back false false z = refl
turned_back false true z = refl
turned_back true false z = neg_ℤ-neg_ℤ z
turned_back true true z = refl

-- ---- what follows an operation list in two parts

pub follows_left : (v : ℕ → ℤ) (s : ℕ) (os ps : List Operation) → Follows v s (os ++ ps) → Follows v s os
follows_left v s [] ps h = tt
follows_left v s (o ∷ os) ps h = (h.0, follows_left v (suc s) os ps h.1)

pub next_symbol : (s n : ℕ) → suc s + n ≡ s + suc n
next_symbol s n = omega arith

pub follows_right : (v : ℕ → ℤ) (s : ℕ) (os ps : List Operation) → Follows v s (os ++ ps) → Follows v (s + length os) ps
follows_right v s [] ps h = subst (λ (k : ℕ). Follows v k ps) (omega arith) h
follows_right v s (o ∷ os) ps h = subst (λ (k : ℕ). Follows v k ps) (next_symbol s (length os)) (follows_right v (suc s) os ps h.1)

module _ (v : ℕ → ℤ) where
  -- a join has the value of its two terms
  join-value : (next : ℕ) (t u : Term) → v next ≡ joined (sign_field (xor t.negative u.negative)) (shifted (v t.symbol) t.exponent) (shifted (v u.symbol) u.exponent)
      → term_value v (joined_term next t) ≡ term_value v t +ℤ term_value v u
  unfolding term_value
  join-value next t u e =
      ap (signed t.negative) (one-times (v next) ∙ e
      ∙ joined_is (xor t.negative u.negative) (shifted (v t.symbol) t.exponent) (v u.symbol) u.exponent)
      ∙ signed_plus t.negative (shifted (v t.symbol) t.exponent) (signed (xor t.negative u.negative) (pos (2 ^ u.exponent) *ℤ v u.symbol))
      ∙ ap₂ ◌+ℤ◌ (ap (signed t.negative) (*ℤ_comm (v t.symbol) (pos (2 ^ t.exponent)))) (turned_back t.negative u.negative (pos (2 ^ u.exponent) *ℤ v u.symbol))

  -- the output of a row's sum is the row's value
  pub summed_value : {next : ℕ} {r : Row} {os : List Operation} {o : Output} → Summed next r os o → Follows v next os → output_of v o ≡ row_value v r
  unfolding row_value row_sum term_value
  summed_value nothing f = refl
  summed_value (last t) f = signed_is t.negative (v t.symbol) t.exponent ∙ sym (+ℤ_idr (term_value v t))
  summed_value {next} (join t u others p q s) f =
      summed_value s f.1
      ∙ sym (sum_permuted (term_value v) q)
      ∙ ap (λ z. z +ℤ row_sum (term_value v) others) (join-value next t u f.0)
      ∙ +ℤ_assoc (term_value v t) (term_value v u) (row_sum (term_value v) others)
      ∙ sym (sum_permuted (term_value v) p)

  pub summed_rows-value : {next : ℕ} {rows : List Row} {os : List Operation} {outputs : List Output} → SummedRows next rows os outputs → Follows v next os
      → map (output_of v) outputs ≡ map (row_value v) rows
  summed_rows-value end f = refl
  summed_rows-value {next} (first-row {os = os} {others = others} s more) f =
      ap₂ ◌∷◌ (summed_value s (follows_left v next os others f)) (summed_rows-value more (follows_right v next os others f))
