-- The pair that is added, and which pairs are left to visit.
-- Assumes nothing.
use Prim.Native.Nat.{ℕ, zero, suc, ◌+◌, ◌-◌, ◌^◌, ◌≤◌, ◌<◌, min}
use mathlib.Core.Path.{◌≡◌, refl, sym, ap, ap₂, ◌∙◌}
use mathlib.Core.Bool.{Bool, ◌&&◌}
use mathlib.Core.List.{List, [], ◌∷◌, ◌++◌, map-append}
use native.Mathlib.Numerals.{add-one}
use native.Mathlib.Omega.{arith}
use borrow.Author.Tests.{le-leb, lt-leb}
use lib.Bits.{bit_and}
use lib.Dec.{leb, eqb}
use lib.ListN.{length, get_or, take, drop, set, length-set}
use lib.Seq.{take-suc, get_or-take, get_or-set_same, get_or-set_other, length-take-le}
use Rattle.limits.specs.Limits.{max_rows, positions, term_symbols}
use Rattle.term.specs.declared.Term.{Term}
use Rattle.elimination_rules.specs.declared.Divisor.{Divisor}
use Rattle.elimination_rules.specs.Rows.{Row, Precedes, WellFormed}
use Rattle.elimination_rules.specs.Divisors.{Pair, divisor_of}
use Rattle.elimination_rules.specs.Visit.{InRow, all_in_row}
use Rattle.elimination_rules.proofs.Tests.{by_test, clash}
use Rattle.elimination_rules.proofs.RowOrder.{divisor_in_order}
use Rattle.elimination_rules.proofs.Smaller.{by_order}
use Rattle.kept_rules.specs.Kept.{pairs_before, new_pairs, new_pairs_from}
use Rattle.elimination_masks.specs.Masks.{occurrences_in, none_among_from, earlier_mask}
use Rattle.elimination_masks.proofs.ColumnLaws.{earlier_before, earlier_in, earlier_behind}
use Rattle.elimination_rows.specs.State.{no_term}
use Rattle.elimination_rows.proofs.Members.{member_at, ascending_at, left_next, left_none}
use Rattle.elimination_kept.specs.Table.{Fits}
use Rattle.elimination_gained.specs.Gained.{Earlier, TermFits, OrderedTo}

-- ---- what comes before a co-divisor of a row

module _ (row : ℕ) (masks : List ℕ) (so : Earlier row 0 masks) (inside : row < max_rows) where
  -- all of a row comes before the next one
  pub earlier_next : Earlier (row + 1) 0 (set masks row (2 ^ positions - 1))
  earlier_next = record {
    count = length-set masks row (2 ^ positions - 1) ∙ so.count;
    each = λ i h. by_order i row
        (λ e. get_or-set_other masks row i (2 ^ positions - 1) 0 (omega arith) ∙ so.each i h ∙ earlier_before row 0 i e ∙ sym (earlier_before (row + 1) 0 i (omega arith)))
        (λ e. ap (λ (j : ℕ). get_or (set masks row (2 ^ positions - 1)) j 0) e ∙ get_or-set_same masks row (2 ^ positions - 1) 0 (omega (arith, so.count)) ∙ sym (earlier_before (row + 1) 0 i (omega arith)))
        (λ e. get_or-set_other masks row i (2 ^ positions - 1) 0 (omega arith) ∙ so.each i h ∙ earlier_behind row 0 i e ∙ sym (not-before i e));
  }
    where
      not-before : (i : ℕ) → row < i → earlier_mask (row + 1) 0 i ≡ 0
      not-before i e = by_order i (row + 1) (λ l. absurd (omega arith)) (λ s. earlier_in (row + 1) 0 i s) (λ l. earlier_behind (row + 1) 0 i l)

-- ---- whether the pair is the first occurrence

among_same : (d : Divisor) (x y : List ℕ) (asked others : ℕ → ℕ) (i k : ℕ) → ((j : ℕ) → j < i + k → asked j ≡ others j) → none_among_from d x y asked i k ≡ none_among_from d x y others i k
unfolding none_among_from
among_same d x y asked others i zero same = refl
among_same d x y asked others i (suc k) same =
    ap₂ (λ (n : ℕ) (b : Bool). eqb (bit_and (occurrences_in d x y i) n) 0 && b) (same i (omega arith)) (among_same d x y asked others (suc i) k (λ j h. same j (omega arith)))

pub none_earlier : (d : Divisor) (x y : List ℕ) (row c : ℕ) (masks : List ℕ) → Earlier row c masks
    → none_among_from d x y (λ i. get_or masks i 0) 0 max_rows ≡ none_among_from d x y (earlier_mask row c) 0 max_rows
none_earlier d x y row c masks so = among_same d x y (λ i. get_or masks i 0) (earlier_mask row c) 0 max_rows (λ j h. so.each j (omega arith))

-- ---- the divisor of the pair

pub divisor-fits : (t u : Term) → Precedes t u → TermFits t → TermFits u → Fits (divisor_of (record { first = t; second = u }))
divisor-fits t u p ft fu =
    let low : ℕ = min t.exponent u.exponent in
    let ea : t.exponent - low < positions = omega (arith, ft.1) in
    let eb : u.exponent - low < positions = omega (arith, fu.1) in
    rw (divisor_in_order (record { first = t; second = u }) p) (ft.0, fu.0, ea, eb)

-- ---- the pairs that are left

pairs_cons : (t : Term) (r : Row) (u : Term) → pairs_before (t ∷ r) u ≡ record { first = t; second = u } ∷ pairs_before r u
unfolding pairs_before
pairs_cons t r u = refl

pairs_none : (u : Term) → pairs_before [] u ≡ []
unfolding pairs_before
pairs_none u = refl

module _ (i j : ℕ) (r : Row) (u : Term) where
  -- those of the terms from h on
  abbrev pub pairs_left : ℕ → List InRow
  pairs_left h = all_in_row i (pairs_before (drop h (take j r)) u)

  module _ (d : Term) (all : j ≤ length r) where
    pub pairs_next : (h : ℕ) → h < j → pairs_left h ≡ (record { row = i; pair = record { first = get_or r h d; second = u } } ∷ []) ++ pairs_left (h + 1)
    pairs_next h l =
        ap (λ (ts : Row). all_in_row i (pairs_before ts u)) (left_next (take j r) h d (omega (arith, length-take-le j r all)) ∙ ap (λ (t : Term). t ∷ drop (h + 1) (take j r)) (get_or-take j r h d l))
        ∙ ap (all_in_row i) (pairs_cons (get_or r h d) (drop (h + 1) (take j r)) u)

    pub pairs_end : (h : ℕ) → j ≤ h → pairs_left h ≡ []
    pairs_end h l = ap (λ (ts : Row). all_in_row i (pairs_before ts u)) (left_none (take j r) h (omega (arith, length-take-le j r all))) ∙ ap (all_in_row i) (pairs_none u)

-- a row in order
pub ordered-to : (j : ℕ) (r : Row) → WellFormed positions term_symbols r → j < length r → OrderedTo j r
ordered-to j r formed l = record {
  inside = l;
  precede = λ h k. ascending_at r formed.ascending h j no_term k l;
  fit = λ h k. let there = member_at r h no_term (omega arith) in (formed.symbols _ there, formed.exponents _ there);
}

module _ (symbol : ℕ) (front : Row) (u : Term) (rest : Row) where
  new_more : symbol ≤ u.symbol → new_pairs symbol front (u ∷ rest) ≡ pairs_before front u ++ new_pairs symbol (front ++ (u ∷ [])) rest
  unfolding new_pairs
  new_more h =
      let more : List Pair = pairs_before front u ++ new_pairs symbol (front ++ (u ∷ [])) rest in
      by_test (leb symbol u.symbol) more (new_pairs symbol (front ++ (u ∷ [])) rest) (λ (ps : List Pair). ps ≡ more) (λ _. refl) (λ f. clash (le-leb symbol u.symbol h) f)

  new_same : u.symbol < symbol → new_pairs symbol front (u ∷ rest) ≡ new_pairs symbol (front ++ (u ∷ [])) rest
  unfolding new_pairs
  new_same h =
      let same : List Pair = new_pairs symbol (front ++ (u ∷ [])) rest in
      by_test (leb symbol u.symbol) (pairs_before front u ++ same) same (λ (ps : List Pair). ps ≡ same) (λ f. clash f (lt-leb symbol u.symbol h)) (λ _. refl)

new_none : (symbol : ℕ) (front : Row) → new_pairs symbol front [] ≡ []
unfolding new_pairs
new_none symbol front = refl

module _ (symbol i : ℕ) (r : Row) where
  -- those of the terms from j on with each before them
  abbrev pub new_left : ℕ → List InRow
  new_left j = all_in_row i (new_pairs symbol (take j r) (drop j r))

  module _ (j : ℕ) (d : Term) (h : j < length r) where
    abbrev u : Term
    u = get_or r j d

    open_next : new_pairs symbol (take j r) (drop j r) ≡ new_pairs symbol (take j r) (u ∷ drop (j + 1) r)
    open_next = ap (new_pairs symbol (take j r)) (left_next r j d h)

    front_next : take j r ++ (u ∷ []) ≡ take (j + 1) r
    front_next = sym (rw (add-one j) (take-suc r j d h))

    pub new_next : symbol ≤ u.symbol → new_left j ≡ all_in_row i (pairs_before (take j r) u) ++ new_left (j + 1)
    new_next s =
        ap (all_in_row i) (open_next ∙ new_more symbol (take j r) u (drop (j + 1) r) s
        ∙ ap (λ (front : Row). pairs_before (take j r) u ++ new_pairs symbol front (drop (j + 1) r)) front_next)
        ∙ map-append _ (pairs_before (take j r) u) (new_pairs symbol (take (j + 1) r) (drop (j + 1) r))

    pub new_skips : u.symbol < symbol → new_left j ≡ new_left (j + 1)
    new_skips s =
        ap (all_in_row i) (open_next ∙ new_same symbol (take j r) u (drop (j + 1) r) s ∙ ap (λ (front : Row). new_pairs symbol front (drop (j + 1) r)) front_next)

  pub new_end : (j : ℕ) → length r ≤ j → new_left j ≡ []
  new_end j h = ap (all_in_row i) (ap (new_pairs symbol (take j r)) (left_none r j h) ∙ new_none symbol (take j r))

module _ (symbol : ℕ) (rows : List Row) where
  -- those of the rows from row i on
  abbrev pub rows_left : ℕ → List InRow
  rows_left i = new_pairs_from symbol i (drop i rows)

  pub rows_next_lem : (i : ℕ) → i < length rows → rows_left i ≡ new_left symbol i (get_or rows i []) 0 ++ rows_left (i + 1)
  unfolding new_pairs_from
  rows_next_lem i h =
      ap (new_pairs_from symbol i) (left_next rows i [] h)
      ∙ ap (λ (j : ℕ). new_left symbol i (get_or rows i []) 0 ++ new_pairs_from symbol j (drop (i + 1) rows)) (omega arith)

  pub rows_end : (i : ℕ) → length rows ≤ i → rows_left i ≡ []
  unfolding new_pairs_from
  rows_end i h = ap (new_pairs_from symbol i) (left_none rows i h)
