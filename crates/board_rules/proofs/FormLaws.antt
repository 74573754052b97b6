-- Linear forms: every entry and every output is row times vector, its coefficients being its values on the unit vectors.
-- Assumes nothing.
use Prim.Native.Nat.{ℕ, zero, suc, ◌+◌, ◌^◌, ◌<◌}
use mathlib.Core.Path.{◌≡◌, refl, sym, ap, ap₂, ◌∙◌}
use mathlib.Core.List.{List, [], ◌∷◌, ◌++◌, map}
use native.Mathlib.Omega.{arith}
use native.Mathlib.Decide.{dec_lt}
use lib.IntN.{ℤ, pos, neg_ℤ, ◌+ℤ◌, ◌*ℤ◌}
use lib.ListN.{length, get_or, replicate, length-replicate, length-append, get_or-append, get_or-eq_default}
use lib.Seq.{get_or_at}
use Rattle.layout_rules.specs.declared.Operation.{Operation}
use Rattle.layout_rules.specs.declared.Output.{Output}
use Rattle.integers.proofs.Expression.{at, nat, minus, ◌⊕◌, ◌⊗◌, equal}
use Rattle.board_rules.specs.Machine.{entry_at, shifted, joined, operation_value, machine, with_sign, output_value, times, unit, units_from, units, entry_form, output_form}
use Rattle.board_rules.specs.Table.{each_column_from, each_column}
use Rattle.board_rules.proofs.MachineLaws.{machine_keeps_after}

-- ---- unit vectors

pub length-unit : (n j : ℕ) → length (unit n j) ≡ n
unfolding unit
length-unit zero j = refl
length-unit (suc n) zero = ap suc (length-replicate n (pos 0))
length-unit (suc n) (suc j) = ap suc (length-unit n j)

nothing_in : (n i : ℕ) → get_or (replicate n (pos 0)) i (pos 0) ≡ pos 0
nothing_in zero i = refl
nothing_in (suc n) zero = refl
nothing_in (suc n) (suc i) = nothing_in n i

pub unit-same : (n j : ℕ) → j < n → get_or (unit n j) j (pos 0) ≡ pos 1
unfolding unit
unit-same zero j h = absurd (omega arith)
unit-same (suc n) zero h = refl
unit-same (suc n) (suc j) h = unit-same n j (omega arith)

pub unit_other : (n i j : ℕ) → (i ≡ j → ⊥) → get_or (unit n i) j (pos 0) ≡ pos 0
unfolding unit
unit_other zero i j h = refl
unit_other (suc n) zero zero h = absurd (h refl)
unit_other (suc n) zero (suc j) h = nothing_in n j
unit_other (suc n) (suc i) zero h = refl
unit_other (suc n) (suc i) (suc j) h = unit_other n i j (λ e. h (ap suc e))

-- ---- what is linear: a function of n samples that is row times vector, with its values on the unit vectors as coefficients

pub record Linear (n : ℕ) (f : List ℤ → ℤ) : Type 0 where
  pub is : (xs : List ℤ) → length xs ≡ n → f xs ≡ times (map f (units n)) xs

times_zero : (us : List (List ℤ)) (xs : List ℤ) → times (map (λ u. pos 0) us) xs ≡ pos 0
unfolding times
times_zero [] xs = refl
times_zero (u ∷ us) [] = refl
times_zero (u ∷ us) (x ∷ xs) = rw (times_zero us xs) (equal (nat 0 ⊗ at x ⊕ nat 0) (nat 0) (omega arith))

times_plus : (f g : List ℤ → ℤ) (us : List (List ℤ)) (xs : List ℤ) → times (map (λ u. f u +ℤ g u) us) xs ≡ times (map f us) xs +ℤ times (map g us) xs
unfolding times
times_plus f g [] xs = refl
times_plus f g (u ∷ us) [] = refl
times_plus f g (u ∷ us) (x ∷ xs) =
    let s : ℤ = times (map f us) xs in
    let t : ℤ = times (map g us) xs in
    rw (times_plus f g us xs) (equal ((at (f u) ⊕ at (g u)) ⊗ at x ⊕ (at s ⊕ at t)) ((at (f u) ⊗ at x ⊕ at s) ⊕ (at (g u) ⊗ at x ⊕ at t)) (omega arith))

times_scaled : (f : List ℤ → ℤ) (k : ℤ) (us : List (List ℤ)) (xs : List ℤ) → times (map (λ u. f u *ℤ k) us) xs ≡ times (map f us) xs *ℤ k
unfolding times
times_scaled f k [] xs = equal (nat 0) (nat 0 ⊗ at k) (omega arith)
times_scaled f k (u ∷ us) [] = equal (nat 0) (nat 0 ⊗ at k) (omega arith)
times_scaled f k (u ∷ us) (x ∷ xs) =
    let s : ℤ = times (map f us) xs in
    rw (times_scaled f k us xs) (equal (at (f u) ⊗ at k ⊗ at x ⊕ at s ⊗ at k) ((at (f u) ⊗ at x ⊕ at s) ⊗ at k) (omega arith))

times_neg : (f : List ℤ → ℤ) (us : List (List ℤ)) (xs : List ℤ) → times (map (λ u. neg_ℤ (f u)) us) xs ≡ neg_ℤ (times (map f us) xs)
unfolding times
times_neg f [] xs = refl
times_neg f (u ∷ us) [] = refl
times_neg f (u ∷ us) (x ∷ xs) =
    let s : ℤ = times (map f us) xs in
    rw (times_neg f us xs) (equal (minus (at (f u)) ⊗ at x ⊕ minus (at s)) (minus (at (f u) ⊗ at x ⊕ at s)) (omega arith))

linear_zero : (n : ℕ) → Linear n (λ xs. pos 0)
linear_zero n = record { is = λ xs h. sym (times_zero (units n) xs) }

linear_plus : (n : ℕ) (f g : List ℤ → ℤ) → Linear n f → Linear n g → Linear n (λ xs. f xs +ℤ g xs)
linear_plus n f g p q = record { is = λ xs h. ap₂ ◌+ℤ◌ (p.is xs h) (q.is xs h) ∙ sym (times_plus f g (units n) xs) }

linear_neg : (n : ℕ) (f : List ℤ → ℤ) → Linear n f → Linear n (λ xs. neg_ℤ (f xs))
linear_neg n f p = record { is = λ xs h. ap neg_ℤ (p.is xs h) ∙ sym (times_neg f (units n) xs) }

linear_shifted : (n : ℕ) (f : List ℤ → ℤ) (s : ℕ) → Linear n f → Linear n (λ xs. shifted (f xs) s)
linear_shifted n f s p = record { is = λ xs h. ap (λ z. shifted z s) (p.is xs h) ∙ sym (times_scaled f (pos (2 ^ s)) (units n) xs) }

linear_joined : (n : ℕ) (f g : List ℤ → ℤ) (sign : ℕ) → Linear n f → Linear n g → Linear n (λ xs. joined sign (f xs) (g xs))
linear_joined n f g zero p q = linear_plus n f g p q
linear_joined n f g (suc sign) p q = linear_plus n f (λ xs. neg_ℤ (g xs)) p (linear_neg n g q)

linear_signed : (n : ℕ) (f : List ℤ → ℤ) (sign : ℕ) → Linear n f → Linear n (λ xs. with_sign sign (f xs))
linear_signed n f zero p = p
linear_signed n f (suc zero) p = linear_neg n f p
linear_signed n f (suc (suc sign)) p = linear_zero n

-- functions that agree on n samples
map-units : (f g : List ℤ → ℤ) (n j k : ℕ) → ((xs : List ℤ) → length xs ≡ n → f xs ≡ g xs) → map f (units_from n j k) ≡ map g (units_from n j k)
unfolding units_from
map-units f g n j zero e = refl
map-units f g n j (suc k) e = ap₂ ◌∷◌ (e (unit n j) (length-unit n j)) (map-units f g n (suc j) k e)

linear_same : (n : ℕ) (f g : List ℤ → ℤ) → ((xs : List ℤ) → length xs ≡ n → f xs ≡ g xs) → Linear n f → Linear n g
unfolding units
linear_same n f g e p = record { is = λ xs h. sym (e xs h) ∙ p.is xs h ∙ ap (λ cs. times cs xs) (map-units f g n 0 n e) }

-- ---- a sample is linear

units-below : (f : List ℤ → ℤ) (n j k : ℕ) → map f (units_from (suc n) (suc j) k) ≡ map (λ u. f (pos 0 ∷ u)) (units_from n j k)
unfolding units_from unit
units-below f n j zero = refl
units-below f n j (suc k) = ap (λ r. f (pos 0 ∷ unit n j) ∷ r) (units-below f n (suc j) k)

sample : (n symbol : ℕ) (xs : List ℤ) → length xs ≡ n → entry_at xs symbol ≡ times (map (λ u. entry_at u symbol) (units n)) xs
unfolding units units_from unit times
sample zero symbol [] h = refl
sample zero symbol (x ∷ xs) h = absurd (omega arith)
sample (suc n) symbol [] h = absurd (omega arith)
sample (suc n) zero (x ∷ xs) h =
    rw (units-below (λ u. entry_at u 0) n 0 n, times_zero (units_from n 0 n) xs) (equal (at x) (nat 1 ⊗ at x ⊕ nat 0) (omega arith))
sample (suc n) (suc symbol) (x ∷ xs) h =
    let t : ℤ = times (map (λ u. entry_at u symbol) (units_from n 0 n)) xs in
    sample n symbol xs (omega arith)
    ∙ rw (units-below (λ u. entry_at u (suc symbol)) n 0 n, nothing_in n symbol) (equal (at t) (nat 0 ⊗ at x ⊕ at t) (omega arith))

-- ---- every entry is linear

-- entries that are linear functions of the samples, e of them, stay so when an operation appends one
record Forms (n e : ℕ) (E : List ℤ → List ℤ) : Type 0 where
  count : (xs : List ℤ) → length xs ≡ n → length (E xs) ≡ e
  linear : (symbol : ℕ) → Linear n (λ xs. entry_at (E xs) symbol)

module _ (n e : ℕ) (E : List ℤ → List ℤ) (F : Forms n e E) (o : Operation) where
  abbrev more : List ℤ → List ℤ
  more xs = E xs ++ (operation_value (E xs) o ∷ [])

  linear_operation : Linear n (λ xs. operation_value (E xs) o)
  linear_operation = linear_joined n (λ xs. shifted (entry_at (E xs) o.a) o.sa) (λ xs. shifted (entry_at (E xs) o.b) o.sb) o.sign
      (linear_shifted n (λ xs. entry_at (E xs) o.a) o.sa (F.linear o.a))
      (linear_shifted n (λ xs. entry_at (E xs) o.b) o.sb (F.linear o.b))

  linear_more : (symbol : ℕ) → Linear n (λ xs. entry_at (more xs) symbol)
  linear_more symbol = go (dec_lt symbol e) (dec_lt e symbol)
    where
      go : Dec (symbol < e) → Dec (e < symbol) → Linear n (λ xs. entry_at (more xs) symbol)
      go (yes l) g = linear_same n (λ xs. entry_at (E xs) symbol) (λ xs. entry_at (more xs) symbol)
          (λ xs h. sym (get_or-append (E xs) (operation_value (E xs) o ∷ []) (pos 0) symbol (omega (arith, F.count xs h)))) (F.linear symbol)
      go (no l) (yes g) = linear_same n (λ xs. pos 0) (λ xs. entry_at (more xs) symbol)
          (λ xs h. sym (get_or-eq_default (more xs) (pos 0) (omega (arith, F.count xs h, length-append (E xs) (operation_value (E xs) o ∷ []))))) (linear_zero n)
      go (no l) (no g) = linear_same n (λ xs. operation_value (E xs) o) (λ xs. entry_at (more xs) symbol)
          (λ xs h. sym (get_or_at (E xs) (operation_value (E xs) o) [] (pos 0) symbol (omega (arith, F.count xs h)))) linear_operation

  forms-more : Forms n (suc e) more
  forms-more = record {
    count = λ xs h. omega (arith, F.count xs h, length-append (E xs) (operation_value (E xs) o ∷ []));
    linear = linear_more;
  }

forms-machine : (n e : ℕ) (E : List ℤ → List ℤ) (os : List Operation) → Forms n e E → Forms n (e + length os) (λ xs. machine (E xs) os)
unfolding machine
forms-machine n e E [] F = record { count = λ xs h. omega (arith, F.count xs h); linear = F.linear }
forms-machine n e E (o ∷ os) F =
    let G = forms-machine n (suc e) (more n e E F o) os (forms-more n e E F o) in
    record { count = λ xs h. omega (arith, G.count xs h); linear = G.linear }

pub linear_entry : (n : ℕ) (os : List Operation) (symbol : ℕ) → Linear n (λ xs. entry_at (machine xs os) symbol)
linear_entry n os symbol =
    (forms-machine n n (λ xs. xs) os (record { count = λ xs h. h; linear = λ j. record { is = λ xs h. sample n j xs h } })).linear symbol

pub linear_output : (n : ℕ) (os : List Operation) (o : Output) → Linear n (λ xs. output_value (machine xs os) o)
linear_output n os o = linear_signed n (λ xs. shifted (entry_at (machine xs os) o.symbol) o.shift) o.sign
    (linear_shifted n (λ xs. entry_at (machine xs os) o.symbol) o.shift (linear_entry n os o.symbol))

-- an entry's value, and an output's, is its form times the samples
pub entry_times : (n : ℕ) (os : List Operation) (symbol : ℕ) (xs : List ℤ) → length xs ≡ n
    → entry_at (machine xs os) symbol ≡ times (entry_form n os symbol) xs
unfolding entry_form
entry_times n os symbol xs h = (linear_entry n os symbol).is xs h

pub output-times : (n : ℕ) (os : List Operation) (o : Output) (xs : List ℤ) → length xs ≡ n
    → output_value (machine xs os) o ≡ times (output_form n os o) xs
unfolding output_form
output-times n os o xs h = (linear_output n os o).is xs h

-- ---- forms by columns

map-columns : (f : List ℤ → ℤ) (n j k : ℕ) → map f (units_from n j k) ≡ each_column_from j k (λ i. f (unit n i))
unfolding units_from each_column_from
map-columns f n j zero = refl
map-columns f n j (suc k) = ap (λ r. f (unit n j) ∷ r) (map-columns f n (suc j) k)

pub entry_columns : (n : ℕ) (os : List Operation) (symbol : ℕ) → entry_form n os symbol ≡ each_column n (λ j. entry_at (machine (unit n j) os) symbol)
unfolding entry_form units
entry_columns n os symbol = map-columns (λ xs. entry_at (machine xs os) symbol) n 0 n

pub output-columns : (n : ℕ) (os : List Operation) (o : Output) → output_form n os o ≡ each_column n (λ j. output_value (machine (unit n j) os) o)
unfolding output_form units
output-columns n os o = map-columns (λ xs. output_value (machine xs os) o) n 0 n

pub length-columns : (j k : ℕ) (f : ℕ → ℤ) → length (each_column_from j k f) ≡ k
unfolding each_column_from
length-columns j zero f = refl
length-columns j (suc k) f = ap suc (length-columns (suc j) k f)

pub columns_at : (j k : ℕ) (f : ℕ → ℤ) (i : ℕ) → i < k → get_or (each_column_from j k f) i (pos 0) ≡ f (j + i)
unfolding each_column_from
columns_at j zero f i h = absurd (omega arith)
columns_at j (suc k) f zero h = ap f (omega arith)
columns_at j (suc k) f (suc i) h = columns_at (suc j) k f i (omega arith) ∙ ap f (omega arith)

pub columns-same : (j k : ℕ) (f g : ℕ → ℤ) → ((i : ℕ) → i < j + k → f i ≡ g i) → each_column_from j k f ≡ each_column_from j k g
unfolding each_column_from
columns-same j zero f g e = refl
columns-same j (suc k) f g e = ap₂ ◌∷◌ (e j (omega arith)) (columns-same (suc j) k f g (λ i h. e i (omega arith)))

pub length_entry_form : (n : ℕ) (os : List Operation) (symbol : ℕ) → length (entry_form n os symbol) ≡ n
length_entry_form n os symbol = rw (entry_columns n os symbol) (length-columns 0 n (λ j. entry_at (machine (unit n j) os) symbol))

pub length-output_form : (n : ℕ) (os : List Operation) (o : Output) → length (output_form n os o) ≡ n
length-output_form n os o = rw (output-columns n os o) (length-columns 0 n (λ j. output_value (machine (unit n j) os) o))

-- a later operation leaves the form of an earlier entry
pub entry_form_keeps : (n : ℕ) (os ps : List Operation) (symbol : ℕ) → symbol < n + length os → entry_form n (os ++ ps) symbol ≡ entry_form n os symbol
entry_form_keeps n os ps symbol h =
    entry_columns n (os ++ ps) symbol
    ∙ columns-same 0 n (λ j. entry_at (machine (unit n j) (os ++ ps)) symbol) (λ j. entry_at (machine (unit n j) os) symbol)
    (λ j l. machine_keeps_after (unit n j) os ps symbol (rw (length-unit n j) h))
    ∙ sym (entry_columns n os symbol)
