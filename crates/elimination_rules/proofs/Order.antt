-- Rows keep their order, hold no two terms of one symbol and exponent, exponents below the number of positions, and symbols below
-- the next one: the matrix's rows, and the rows after any number of steps.
-- Assumes nothing.
use Prim.Native.Nat.{ℕ, zero, suc, ◌+◌, ◌≤◌, ◌<◌}
use mathlib.Core.Path.{◌≡◌, refl, sym, ◌∙◌, ap, subst}
use mathlib.Core.Logic.{inl, inr, ⊎_elim}
use mathlib.Core.Bool.{true}
use mathlib.Core.List.Memᴰ
use mathlib.Core.List.{List, [], ◌∷◌, ◌++◌, Memᴰ}
use native.Mathlib.Omega.{arith}
use lib.IntN.{ℤ, pos, negsuc}
use lib.ListN.{length}
use Rattle.term.specs.declared.Term.{Term}
use Rattle.digits.specs.Digits.{digits}
use Rattle.digits.proofs.Canonic.{digits-length}
use Rattle.elimination_rules.specs.declared.Divisor.{Divisor}
use Rattle.elimination_rules.specs.Rows.{Row, Precedes, Ascending, NoneTwice, WellFormed, EachRow, column_terms, row_from, matrix_rows}
use Rattle.elimination_rules.specs.Divisors.{Pair, co_divisor, overlap, taken, score}
use Rattle.elimination_rules.specs.Elimination.{same_term, drop_term, without_pairs, new_terms, row_after, rows_after}
use Rattle.elimination_rules.specs.Steps.{Steps, end, step}
use Rattle.elimination_rules.proofs.Tests.{by_test, clash}
use Rattle.elimination_rules.proofs.RowOrder.{Placed, Occurrence, occurrence_placed, pairs_member, CoDivisorsRise}
use Rattle.elimination_rules.proofs.Taken.{NoOverlap, first-first, sharing, taken-apart, taken_occurrence, taken_rise}
use Rattle.elimination_rules.proofs.Replaced.{drop_member, both_out}

-- ---- ascending order

pub ascending-none_twice : (r : Row) → Ascending r → NoneTwice r
ascending-none_twice [] a = tt
ascending-none_twice (t ∷ r) a = ((λ u m e. ⊎_elim (λ h. omega arith) (λ h. omega arith) (a.0 u m)), ascending-none_twice r a.1)

ascending-append : (q r : Row) → Ascending q → Ascending r → ((t u : Term) → Memᴰ t q → Memᴰ u r → Precedes t u) → Ascending (q ++ r)
ascending-append [] r a b c = b
ascending-append (t ∷ q) r a b c = (
  (λ u m. ⊎_elim (λ k. a.0 u k) (λ k. c t u (Memᴰ.head refl) k) (Memᴰ.append_cases q m)),
  ascending-append q r a.1 b (λ x y m n. c x y (Memᴰ.tail m) n),
)

well_formed : (positions symbol : ℕ) (r : Row) → Ascending r → ((t : Term) → Memᴰ t r → (t.exponent < positions) × (t.symbol < symbol)) → WellFormed positions symbol r
well_formed positions symbol r a h = record {
  ascending = a;
  none_twice = ascending-none_twice r a;
  exponents = λ t m. (h t m).0;
  symbols = λ t m. (h t m).1;
}

-- ---- the matrix's rows

-- the terms of a column have its symbol, and their positions as exponents
column_term : (column position : ℕ) (ds : List ℤ) (t : Term) → Memᴰ t (column_terms column position ds)
    → (t.symbol ≡ column) × (position ≤ t.exponent) × (t.exponent < position + length ds)
unfolding column_terms
column_term column position [] t m = absurd (Memᴰ.not-nil m)
column_term column position (pos zero ∷ ds) t m = let h = column_term column (suc position) ds t m in (h.0, omega (arith, h.1), omega (arith, h.2))
column_term column position (pos (suc d) ∷ ds) t m = ⊎_elim
    (λ e. (ap (λ z. z.symbol) e, omega (arith, ap (λ z. z.exponent) e), omega (arith, ap (λ z. z.exponent) e)))
    (λ k. let h = column_term column (suc position) ds t k in (h.0, omega (arith, h.1), omega (arith, h.2)))
    (Memᴰ.cases_cons m)
column_term column position (negsuc d ∷ ds) t m = ⊎_elim
    (λ e. (ap (λ z. z.symbol) e, omega (arith, ap (λ z. z.exponent) e), omega (arith, ap (λ z. z.exponent) e)))
    (λ k. let h = column_term column (suc position) ds t k in (h.0, omega (arith, h.1), omega (arith, h.2)))
    (Memᴰ.cases_cons m)

column-ascending : (column position : ℕ) (ds : List ℤ) → Ascending (column_terms column position ds)
unfolding column_terms
column-ascending column position [] = tt
column-ascending column position (pos zero ∷ ds) = column-ascending column (suc position) ds
column-ascending column position (pos (suc d) ∷ ds) =
    ((λ u m. let h = column_term column (suc position) ds u m in inr (sym h.0, h.1)), column-ascending column (suc position) ds)
column-ascending column position (negsuc d ∷ ds) =
    ((λ u m. let h = column_term column (suc position) ds u m in inr (sym h.0, h.1)), column-ascending column (suc position) ds)

row_term : (positions column : ℕ) (zs : List ℤ) (t : Term) → Memᴰ t (row_from positions column zs)
    → (column ≤ t.symbol) × (t.exponent < positions) × (t.symbol < column + length zs)
unfolding row_from
row_term positions column [] t m = absurd (Memᴰ.not-nil m)
row_term positions column (z ∷ zs) t m = ⊎_elim
    (λ k. let h = column_term column 0 (digits positions z) t k in (omega (arith, h.0), omega (arith, h.2, digits-length positions z), omega (arith, h.0)))
    (λ k. let h = row_term positions (suc column) zs t k in (omega (arith, h.0), h.1, omega (arith, h.2)))
    (Memᴰ.append_cases (column_terms column 0 (digits positions z)) m)

row-ascending : (positions column : ℕ) (zs : List ℤ) → Ascending (row_from positions column zs)
unfolding row_from
row-ascending positions column [] = tt
row-ascending positions column (z ∷ zs) =
    ascending-append (column_terms column 0 (digits positions z)) (row_from positions (suc column) zs) (column-ascending column 0 (digits positions z)) (row-ascending positions (suc column) zs)
    (λ t u m n. inl (omega (arith, (column_term column 0 (digits positions z) t m).0, (row_term positions (suc column) zs u n).0)))

-- a matrix of n columns
abbrev pub Columns : ℕ → List (List ℤ) → Type 0
Columns n [] = Unit {0}
Columns n (zs ∷ m) = (length zs ≡ n) × Columns n m

pub matrix_well_formed : (positions n : ℕ) (m : List (List ℤ)) → Columns n m → EachRow (WellFormed positions n) (matrix_rows positions m)
unfolding matrix_rows
matrix_well_formed positions n [] c = tt
matrix_well_formed positions n (zs ∷ m) c = (
  well_formed positions n (row_from positions 0 zs) (row-ascending positions 0 zs)
      (λ t k. let h = row_term positions 0 zs t k in (h.1, omega (arith, h.2, c.0))),
  matrix_well_formed positions n m c.1,
)

-- ---- a step: what is left of a row

drop-ascending : (t : Term) (r : Row) → Ascending r → Ascending (drop_term t r)
unfolding drop_term
drop-ascending t [] a = tt
drop-ascending t (u ∷ r) a = by_test (same_term u t) r (u ∷ drop_term t r) Ascending
    (λ e. a.1)
    (λ e. ((λ x m. a.0 x (drop_member t r x m)), drop-ascending t r a.1))

without_ascending : (ps : List Pair) (r : Row) → Ascending r → Ascending (without_pairs ps r)
unfolding without_pairs
without_ascending [] r a = a
without_ascending (p ∷ ps) r a = without_ascending ps (both_out p r) (drop-ascending p.second (drop_term p.first r) (drop-ascending p.first r a))

without_member : (ps : List Pair) (r : Row) (x : Term) → Memᴰ x (without_pairs ps r) → Memᴰ x r
unfolding without_pairs
without_member [] r x m = m
without_member (p ∷ ps) r x m = drop_member p.first r x (drop_member p.second (drop_term p.first r) x (without_member ps (both_out p r) x m))

-- ---- and what is added

new_member : (symbol : ℕ) (ps : List Pair) (t : Term) → Memᴰ t (new_terms symbol ps) → (t.symbol ≡ symbol) × ((p : Pair) × Memᴰ p ps × (t.exponent ≡ co_divisor p))
unfolding new_terms
new_member symbol [] t m = absurd (Memᴰ.not-nil m)
new_member symbol (p ∷ ps) t m = ⊎_elim
    (λ e. (ap (λ z. z.symbol) e, (p, Memᴰ.head refl, ap (λ z. z.exponent) e)))
    (λ k. let h = new_member symbol ps t k in (h.0, (h.1.0, Memᴰ.tail h.1.1, h.1.2)))
    (Memᴰ.cases_cons m)

-- occurrences of one divisor with one co-divisor overlap
one_co_divisor : (d : Divisor) (p x : Pair) → Placed d p → Placed d x → co_divisor x ≡ co_divisor p → overlap x p ≡ true
one_co_divisor d p x f g e = sharing x p (first-first (g.first-symbol ∙ sym f.first-symbol, g.first-exponent ∙ ap (λ (n : ℕ). d.ea + n) e ∙ sym f.first-exponent))

new_ascending : (symbol : ℕ) (d : Divisor) (ps : List Pair) → CoDivisorsRise ps → NoOverlap ps → ((x : Pair) → Memᴰ x ps → Placed d x) → Ascending (new_terms symbol ps)
unfolding new_terms
new_ascending symbol d [] c a o = tt
new_ascending symbol d (p ∷ ps) c a o = (
  (λ u m.
      let h = new_member symbol ps u m in
      let x : Pair = h.1.0 in
      let differs : co_divisor x ≡ co_divisor p → ⊥ =
      λ e. clash (one_co_divisor d p x (o p (Memᴰ.head refl)) (o x (Memᴰ.tail h.1.1)) e) (a.0 x h.1.1) in
      inr (sym h.0, above h.1.2 (c.0 x h.1.1) differs)),
  new_ascending symbol d ps c.1 a.1 (λ x m. o x (Memᴰ.tail m)),
)
  where
    above : {e k j : ℕ} → e ≡ k → j ≤ k → (k ≡ j → ⊥) → j < e
    above h l n = omega arith

pub well_formed_after : (positions symbol : ℕ) (d : Divisor) (r : Row) → WellFormed positions symbol r → WellFormed positions (suc symbol) (row_after symbol d r)
unfolding row_after
well_formed_after positions symbol d r w =
    let ps : List Pair = taken d r in
    let within : (t : Term) → Memᴰ t (without_pairs ps r) → (t.exponent < positions) × (t.symbol < symbol) =
    λ t m. let k = without_member ps r t m in (w.exponents t k, w.symbols t k) in
    let new : (t : Term) → Memᴰ t (new_terms symbol ps) → (t.exponent < positions) × (t.symbol ≡ symbol) =
    λ t m.
    let h = new_member symbol ps t m in
    let p : Pair = h.1.0 in
    let f : p.first.exponent < positions = w.exponents p.first (pairs_member r p (taken_occurrence d r p h.1.1).pair).0 in
    (omega (arith, h.1.2), h.0) in
    well_formed positions (suc symbol) (without_pairs ps r ++ new_terms symbol ps)
    (ascending-append (without_pairs ps r) (new_terms symbol ps) (without_ascending ps r w.ascending)
    (new_ascending symbol d ps (taken_rise d r) (taken-apart d r) (λ x m. occurrence_placed d r w.ascending x (taken_occurrence d r x m)))
    (λ t u m n. inl (omega (arith, (within t m).1, (new u n).1))))
    (λ t m. ⊎_elim
    (λ k. ((within t k).0, omega (arith, (within t k).1)))
    (λ k. ((new t k).0, omega (arith, (new t k).1)))
    (Memᴰ.append_cases (without_pairs ps r) m))

pub rows_well_formed_after : (positions symbol : ℕ) (d : Divisor) (rows : List Row)
    → EachRow (WellFormed positions symbol) rows → EachRow (WellFormed positions (suc symbol)) (rows_after symbol d rows)
unfolding rows_after
rows_well_formed_after positions symbol d [] w = tt
rows_well_formed_after positions symbol d (r ∷ rows) w = (well_formed_after positions symbol d r w.0, rows_well_formed_after positions symbol d rows w.1)

-- a row after a step is one of the rows, after the step; and there are as many
pub rows-after_member : (symbol : ℕ) (d : Divisor) (rows : List Row) (after : Row) → Memᴰ after (rows_after symbol d rows) → (r : Row) × Memᴰ r rows × (after ≡ row_after symbol d r)
unfolding rows_after
rows-after_member symbol d [] after m = absurd (Memᴰ.not-nil m)
rows-after_member symbol d (r ∷ rows) after m = ⊎_elim
    (λ e. (r, Memᴰ.head refl, e))
    (λ k. let h = rows-after_member symbol d rows after k in (h.0, Memᴰ.tail h.1, h.2))
    (Memᴰ.cases_cons m)

pub length-rows-after : (symbol : ℕ) (d : Divisor) (rows : List Row) → length (rows_after symbol d rows) ≡ length rows
unfolding rows_after
length-rows-after symbol d [] = refl
length-rows-after symbol d (r ∷ rows) = ap suc (length-rows-after symbol d rows)

-- ---- after any steps, symbols are below the first one plus the number of divisors

next_symbol : (symbol n : ℕ) → suc symbol + n ≡ symbol + suc n
next_symbol symbol n = omega arith

pub steps_well_formed : (positions : ℕ) {symbol : ℕ} {rows : List Row} {ds : List Divisor} {k : ℕ} {after : List Row}
    → Steps symbol rows ds k after → EachRow (WellFormed positions symbol) rows → EachRow (WellFormed positions (symbol + length ds)) after
steps_well_formed positions {symbol} {rows} end w = subst (λ (s : ℕ). EachRow (WellFormed positions s) rows) (omega arith) w
steps_well_formed positions {symbol} {rows} {after} (step {ds = ds} d s more) w =
    subst (λ (s : ℕ). EachRow (WellFormed positions s) after) (next_symbol symbol (length ds))
    (steps_well_formed positions more (rows_well_formed_after positions symbol d rows w))

-- ---- a divisor that is taken has an occurrence, so its symbols are below the next one and its exponents below the positions

-- an occurrence of d in one of the rows
abbrev pub Occurs : Divisor → List Row → Type 0
Occurs d rows = (r : Row) × Memᴰ r rows × ((p : Pair) × Occurrence d r p)

here_or_later : (d : Divisor) (r : Row) (rows : List Row) (ps : List Pair) → taken d r ≡ ps → (1 ≤ score d rows → Occurs d rows) → 1 ≤ length ps + score d rows → Occurs d (r ∷ rows)
here_or_later d r rows [] e later h = let x = later (omega arith) in (x.0, Memᴰ.tail x.1, x.2)
here_or_later d r rows (p ∷ ps) e later h = (r, Memᴰ.head refl, (p, taken_occurrence d r p (rw e (Memᴰ.head refl))))

pub score_occurs : (d : Divisor) (rows : List Row) → 1 ≤ score d rows → Occurs d rows
unfolding score
score_occurs d [] h = absurd (omega arith)
score_occurs d (r ∷ rows) h = here_or_later d r rows (taken d r) refl (score_occurs d rows) h

pub each_row : (P : Row → Type 0) (rows : List Row) → EachRow P rows → (r : Row) → Memᴰ r rows → P r
each_row P [] e r m = absurd (Memᴰ.not-nil m)
each_row P (q ∷ rows) e r m = ⊎_elim (λ w. subst P (sym w) e.0) (λ k. each_row P rows e.1 r k) (Memᴰ.cases_cons m)

pub record DivisorWithin (positions symbol : ℕ) (d : Divisor) : Type 0 where
  pub a : d.a < symbol
  pub b : d.b < symbol
  pub ea : d.ea < positions
  pub eb : d.eb < positions
  pub rising : d.a ≡ d.b → d.ea < d.eb

pub divisor-within : (positions symbol : ℕ) (d : Divisor) (rows : List Row) → EachRow (WellFormed positions symbol) rows → 1 ≤ score d rows → DivisorWithin positions symbol d
divisor-within positions symbol d rows w h =
    let x = score_occurs d rows h in
    let r : Row = x.0 in
    let p : Pair = x.2.0 in
    let f : WellFormed positions symbol r = each_row (WellFormed positions symbol) rows w r x.1 in
    let g : Placed d p = occurrence_placed d r f.ascending p x.2.1 in
    let m = pairs_member r p x.2.1.pair in
    record {
      a = omega (arith, f.symbols p.first m.0, g.first-symbol);
      b = omega (arith, f.symbols p.second m.1, g.second-symbol);
      ea = omega (arith, f.exponents p.first m.0, g.first-exponent);
      eb = omega (arith, f.exponents p.second m.1, g.second-exponent);
      rising = g.rising;
    }

-- each divisor, when its turn comes
abbrev pub DivisorsWithin : ℕ → ℕ → List Divisor → Type 0
DivisorsWithin positions symbol [] = Unit {0}
DivisorsWithin positions symbol (d ∷ ds) = DivisorWithin positions symbol d × DivisorsWithin positions (suc symbol) ds

pub steps_divisors-within : (positions : ℕ) {symbol : ℕ} {rows : List Row} {ds : List Divisor} {k : ℕ} {after : List Row}
    → Steps symbol rows ds k after → EachRow (WellFormed positions symbol) rows → DivisorsWithin positions symbol ds
steps_divisors-within positions end w = tt
steps_divisors-within positions {symbol} {rows} (step d s more) w = (
  divisor-within positions symbol d rows w (omega arith),
  steps_divisors-within positions more (rows_well_formed_after positions symbol d rows w),
)
