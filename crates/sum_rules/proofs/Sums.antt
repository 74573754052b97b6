-- Document 01, "Netlist and board machine": rows summed two terms at a time, in any order: how many operations and outputs that takes,
-- that the terms' order does not matter, and what each term keeps.
-- Assumes nothing.
use Prim.Native.Nat.{ℕ, suc, ◌+◌, ◌<◌, pred}
use mathlib.Core.Path.{◌≡◌, refl, ap, ap₂, ◌∙◌, subst}
use mathlib.Core.List.{List, [], ◌∷◌, Permᴰ, Memᴰ}
use native.Mathlib.Omega.{arith}
use lib.IntN.{ℤ, ◌+ℤ◌}
use lib.ListN.{length, length-append}
use Rattle.integers.proofs.Ring.{+-left_comm}
use Rattle.term.specs.declared.Term.{Term}
use Rattle.layout_rules.specs.declared.Operation.{Operation}
use Rattle.layout_rules.specs.declared.Output.{Output}
use Rattle.elimination_rules.specs.Rows.{Row, WellFormed, EachRow, row_sum, plain_count}
use Rattle.elimination_rules.specs.Weights.{term_weight, row_weight}
use Rattle.sum_rules.specs.SumDepth.{EachTerm}
use Rattle.sum_rules.specs.Sums.{Summed, nothing, last, join, SummedRows, end, first-row}

-- ---- the terms of a row in another order

pub length_permuted : {q r : Row} → Permᴰ q r → length q ≡ length r
length_permuted Permᴰ.nil = refl
length_permuted (Permᴰ.cons e p) = ap suc (length_permuted p)
length_permuted (Permᴰ.swap e f) = refl
length_permuted (Permᴰ.trans p q) = length_permuted p ∙ length_permuted q

pub sum_permuted : (f : Term → ℤ) {q r : Row} → Permᴰ q r → row_sum f q ≡ row_sum f r
unfolding row_sum
sum_permuted f Permᴰ.nil = refl
sum_permuted f (Permᴰ.cons e p) = ap₂ ◌+ℤ◌ (ap f e) (sum_permuted f p)
sum_permuted f (Permᴰ.swap {a = a} {b = b} {l = l} d e) =
    +-left_comm (f a) (f b) (row_sum f l) ∙ ap₂ ◌+ℤ◌ (ap f e) (ap (λ x. x +ℤ row_sum f l) (ap f d))
sum_permuted f (Permᴰ.trans p q) = sum_permuted f p ∙ sum_permuted f q

pub weight_permuted : (w : ℕ → ℕ) {q r : Row} → Permᴰ q r → row_weight w q ≡ row_weight w r
unfolding row_weight
weight_permuted w Permᴰ.nil = refl
weight_permuted w (Permᴰ.cons e p) = ap₂ ◌+◌ (ap (term_weight w) e) (weight_permuted w p)
weight_permuted w (Permᴰ.swap d e) = omega (arith, ap (term_weight w) d, ap (term_weight w) e)
weight_permuted w (Permᴰ.trans p q) = weight_permuted w p ∙ weight_permuted w q

pub each_permuted : (P : Term → Type 0) {q r : Row} → Permᴰ q r → EachTerm P q → EachTerm P r
each_permuted P Permᴰ.nil h = tt
each_permuted P (Permᴰ.cons e p) h = (subst P e h.0, each_permuted P p h.1)
each_permuted P (Permᴰ.swap d e) h = (subst P e h.1.0, (subst P d h.0, h.1.1))
each_permuted P (Permᴰ.trans p q) h = each_permuted P q (each_permuted P p h)

pub each_term : (P Q : Term → Type 0) → ((t : Term) → P t → Q t) → (r : Row) → EachTerm P r → EachTerm Q r
each_term P Q f [] h = tt
each_term P Q f (t ∷ r) h = (f t h.0, each_term P Q f r h.1)

pub each_member : (P : Term → Type 0) (r : Row) → ((t : Term) → Memᴰ t r → P t) → EachTerm P r
each_member P [] h = tt
each_member P (t ∷ r) h = (h t (Memᴰ.head refl), each_member P r (λ u m. h u (Memᴰ.tail m)))

-- the symbols of well-formed rows
pub symbols-below : (positions limit : ℕ) (rows : List Row) → EachRow (WellFormed positions limit) rows → EachRow (EachTerm (λ t. t.symbol < limit)) rows
symbols-below positions limit [] w = tt
symbols-below positions limit (r ∷ rows) w = (each_member (λ t. t.symbol < limit) r w.0.symbols, symbols-below positions limit rows w.1)

-- ---- counts: (terms − 1) operations for each row, and one output

pub summed_length : {next : ℕ} {r : Row} {os : List Operation} {o : Output} → Summed next r os o → length os ≡ pred (length r)
summed_length nothing = refl
summed_length (last t) = refl
summed_length (join t u others p q s) = omega (arith, length_permuted p, length_permuted q, summed_length s)

pub summed_rows-length : {next : ℕ} {rows : List Row} {os : List Operation} {outputs : List Output} → SummedRows next rows os outputs → length os ≡ plain_count rows
unfolding plain_count
summed_rows-length end = refl
summed_rows-length (first-row {os = os} {others = others} s more) = omega (arith, length-append os others, summed_length s, summed_rows-length more)

pub summed_rows-outputs : {next : ℕ} {rows : List Row} {os : List Operation} {outputs : List Output} → SummedRows next rows os outputs → length outputs ≡ length rows
summed_rows-outputs end = refl
summed_rows-outputs (first-row s more) = ap suc (summed_rows-outputs more)
