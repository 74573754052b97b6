-- Coefficients: two rows of the same length that agree on every vector of samples are the same, so comparing an output's coefficients with
-- a row's decides whether the output is row times vector.
-- Assumes nothing.
use Prim.Native.Nat.{ℕ, zero, suc, ◌-◌, ◌^◌, ◌<◌, ◌≤◌}
use mathlib.Core.Path.{◌≡◌, refl, sym, ◌∙◌, ap, ap₂}
use mathlib.Core.Bool.{true, true≢false}
use mathlib.Core.Logic.Iff
use mathlib.Core.Logic.{◌↔◌}
use mathlib.Core.List.{List, [], ◌∷◌}
use native.Mathlib.Omega.{arith}
use native.Mathlib.Decide.{ℕ_discrete}
use lib.IntN.{ℤ, pos, negsuc}
use lib.ListN.{length, get_or, replicate}
use lib.Pow.{pow_mono}
use lib.Seq.{ext_get_or}
use Rattle.integers.proofs.Expression.{at, nat, minus, ◌⊕◌, ◌⊝◌, ◌⊗◌, equal, at_most}
use Rattle.layout_rules.specs.declared.Operation.{Operation}
use Rattle.layout_rules.specs.declared.Output.{Output}
use Rattle.board_rules.specs.Machine.{machine, output_value, times, unit, output_form}
use Rattle.board_rules.specs.Width.{Within, Samples}
use Rattle.board_rules.proofs.FormLaws.{length-unit, unit-same, unit_other, output-times, length-output_form}
use Rattle.netlist_rules.specs.Check.{same_integer, same_row}
use Rattle.netlist_rules.proofs.Conditions.{and_says, same_says}

-- ---- comparing rows

same-integer_says : (c d : ℤ) → (same_integer c d ≡ true) ↔ (c ≡ d)
same-integer_says (pos a) (pos b) = (λ e. ap pos ((same_says a b).0 e), λ e. (same_says a b).1 (cc))
same-integer_says (pos a) (negsuc b) = (λ e. absurd (true≢false (sym e)), λ e. absurd (let z : ◌≡◌ {A = ℕ} 0 1 = cc in omega arith))
same-integer_says (negsuc a) (pos b) = (λ e. absurd (true≢false (sym e)), λ e. absurd (let z : ◌≡◌ {A = ℕ} 0 1 = cc in omega arith))
same-integer_says (negsuc a) (negsuc b) = (λ e. ap negsuc ((same_says a b).0 e), λ e. (same_says a b).1 (cc))

same-row_says : (cs ds : List ℤ) → (same_row cs ds ≡ true) ↔ (cs ≡ ds)
unfolding same_row
same-row_says [] [] = (λ e. refl, λ e. refl)
same-row_says [] (d ∷ ds) = (λ e. absurd (true≢false (sym e)), λ e. absurd (omega (arith, ap length e)))
same-row_says (c ∷ cs) [] = (λ e. absurd (true≢false (sym e)), λ e. absurd (omega (arith, ap length e)))
same-row_says (c ∷ cs) (d ∷ ds) =
    let both = and_says (same_integer c d) (same_row cs ds) (same-integer_says c d) (same-row_says cs ds) in
    (λ e. let p = both.0 e in ap₂ ◌∷◌ p.0 p.1, λ e. both.1 (cc, cc))

-- ---- unit vectors are samples, and give the coefficients

times-nothing : (cs : List ℤ) (n : ℕ) → times cs (replicate n (pos 0)) ≡ pos 0
unfolding times
times-nothing [] n = refl
times-nothing (c ∷ cs) zero = refl
times-nothing (c ∷ cs) (suc n) = rw (times-nothing cs n) (equal (at c ⊗ nat 0 ⊕ nat 0) (nat 0) (omega arith))

times-unit : (cs : List ℤ) (n j : ℕ) → length cs ≡ n → times cs (unit n j) ≡ get_or cs j (pos 0)
unfolding times unit
times-unit [] n j h = refl
times-unit (c ∷ cs) zero j h = absurd (omega arith)
times-unit (c ∷ cs) (suc n) zero h = rw (times-nothing cs n) (equal (at c ⊗ nat 1 ⊕ nat 0) (at c) (omega arith))
times-unit (c ∷ cs) (suc n) (suc j) h =
    let t : ℤ = times cs (unit n j) in
    equal (at c ⊗ nat 0 ⊕ at t) (at t) (omega arith) ∙ times-unit cs n j (omega arith)

module _ (s : ℕ) (enough : 2 ≤ s) where
  room : 2 ≤ 2 ^ (s - 1)
  room = pow_mono {i = 1} {j = s - 1} (omega arith)

  small-within : (x : ℕ) → x ≤ 1 → Within s (pos x)
  small-within x h =
      let P : ℕ = 2 ^ (s - 1) in
      record { low = at_most (minus (nat P)) (nat x) (omega arith); high = at_most (nat x) (nat P ⊝ nat 1) (omega (arith, room)) }

  unit-samples : (n j : ℕ) → Samples s n (unit n j)
  unit-samples n j = record { count = length-unit n j; within = λ i h. each i h (ℕ_discrete j i) }
    where
      each : (i : ℕ) → i < n → Dec (j ≡ i) → Within s (get_or (unit n j) i (pos 0))
      each i h (yes e) = rw (e, unit-same n i h) (small-within 1 (omega arith))
      each i h (no e) = rw (unit_other n j i e) (small-within 0 (omega arith))

  -- coefficients that agree on every vector of samples are the same
  pub same-coefficients : (n : ℕ) (cs ds : List ℤ) → length cs ≡ n → length ds ≡ n
      → ((xs : List ℤ) → Samples s n xs → times cs xs ≡ times ds xs) → cs ≡ ds
  same-coefficients n cs ds k l agree =
      ext_get_or (pos 0) cs ds (k ∙ sym l)
      (λ j h. sym (times-unit cs n j k) ∙ agree (unit n j) (unit-samples n j) ∙ times-unit ds n j l)

-- ---- comparing an output's coefficients with a row's

module _ (s n : ℕ) (enough : 2 ≤ s) (os : List Operation) (o : Output) (row : List ℤ) (l : length row ≡ n) where
  -- an output's coefficients are a row's if and only if the output is row times vector for every vector of samples
  pub coefficients_say : (output_form n os o ≡ row) ↔ ((xs : List ℤ) → Samples s n xs → output_value (machine xs os) o ≡ times row xs)
  coefficients_say = (
    λ e xs x. output-times n os o xs x.count ∙ ap (λ cs. times cs xs) e,
    λ agree. same-coefficients s enough n (output_form n os o) row (length-output_form n os o) l (λ xs x. sym (output-times n os o xs x.count) ∙ agree xs x),
  )

  pub row_says : (same_row (output_form n os o) row ≡ true) ↔ ((xs : List ℤ) → Samples s n xs → output_value (machine xs os) o ≡ times row xs)
  row_says = Iff.trans (same-row_says (output_form n os o) row) coefficients_say
