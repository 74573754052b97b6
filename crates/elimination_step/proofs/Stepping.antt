-- The terms that a step keeps and the new ones, as the loops work them out, and the rows after it.
-- Assumes nothing.
use Prim.Native.Nat.{ℕ, ◌+◌, ◌-◌, ◌≤◌, ◌<◌}
use mathlib.Core.Path.{◌≡◌, refl, sym, ap, ap₂, ◌∙◌}
use mathlib.Core.Bool.{Bool, true, false}
use mathlib.Core.List.{List, [], ◌∷◌, ◌++◌, append-nil, append_assoc}
use native.Mathlib.Omega.{arith}
use native.Mathlib.Numerals.{add-one}
use borrow.Author.Tests.{eq-eqb, le-leb}
use lib.Dec.{eqb, leb}
use lib.ListN.{length, get_or, take, drop, set, replicate, length-append, length-drop, length-replicate, get_or-replicate}
use lib.Seq.{append_snoc, ext_get_or, set_at, take-suc, take_all, length-take-le}
use Rattle.limits.specs.Limits.{positions}
use Rattle.term.specs.declared.Term.{Term}
use Rattle.bits.specs.Bits.{bit_at, bits_of}
use Rattle.bits.proofs.BitLaws.{bits-length, bit_of_list, zero_bit}
use Rattle.elimination_rules.specs.declared.Divisor.{Divisor}
use Rattle.elimination_rules.specs.Rows.{Row, WellFormed}
use Rattle.elimination_rules.specs.Lookup.{Proper, Signs, sign_at, taken_flags, part_as, part_of_taken, kept_terms, lookup_term, lookup_terms_from, lookup_row_after}
use Rattle.elimination_rules.specs.Elimination.{row_after, rows_after}
use Rattle.elimination_rules.proofs.Tests.{and_no_right, or_neither}
use Rattle.elimination_rules.proofs.Order.{length-rows-after}
use Rattle.elimination_rules.proofs.Replaced.{length-after}
use Rattle.elimination_rules.proofs.LookupAfter.{row-after_looked_up}
use Rattle.elimination_rules.proofs.LookupFlags.{padded_kept, padded_new}
use Rattle.elimination_rows.proofs.Members.{left_next, left_none}

-- ---- whether a term is part of a taken occurrence

pub exponent_flag : (symbol exponent : ℕ) (flags : List Bool) (t : Term) → t.symbol ≡ symbol → exponent ≤ t.exponent → get_or flags (t.exponent - exponent) false ≡ part_as symbol exponent flags t
exponent_flag symbol exponent flags t h k = rw (eq-eqb t.symbol symbol h, le-leb exponent t.exponent k)

-- ---- the terms that are kept, one more at a time

module _ (d : Divisor) (flags : List Bool) (r : Row) (i : ℕ) (none : Term) (h : i < length r) (kept whole : Row) (so_far : kept ++ kept_terms d flags (drop i r) ≡ whole) where
  pub kept_drops : part_of_taken d flags (get_or r i none) ≡ true → kept ++ kept_terms d flags (drop (i + 1) r) ≡ whole
  unfolding kept_terms
  kept_drops k = sym (ap (λ (l : Row). kept ++ l) (ap (kept_terms d flags) (left_next r i none h) ∙ rw (k, kept_terms))) ∙ so_far

  pub kept_keeps : part_of_taken d flags (get_or r i none) ≡ false → (kept ++ get_or r i none ∷ []) ++ kept_terms d flags (drop (i + 1) r) ≡ whole
  unfolding kept_terms
  kept_keeps k =
      append_assoc kept (get_or r i none ∷ []) (kept_terms d flags (drop (i + 1) r))
      ∙ sym (ap (λ (l : Row). kept ++ l) (ap (kept_terms d flags) (left_next r i none h) ∙ rw (k, kept_terms)))
      ∙ so_far

pub kept-end : (d : Divisor) (flags : List Bool) (r : Row) (i : ℕ) (done : Row) → length r ≤ i → done ++ kept_terms d flags (drop i r) ≡ done
unfolding kept_terms
kept-end d flags r i done h = ap (λ (l : Row). done ++ kept_terms d flags l) (left_none r i h) ∙ append-nil done

-- ---- the new terms: those so far, and those of the co-divisors that are left

module _ (symbol : ℕ) (signs : Signs) (d : Divisor) (taken c : ℕ) (inside : c < positions) (out whole : Row)
    (so_far : out ++ lookup_terms_from symbol signs d c (drop c (bits_of taken positions)) ≡ whole) where
  abbrev left : Row
  left = lookup_terms_from symbol signs d (c + 1) (drop (c + 1) (bits_of taken positions))

  next_flag : (flag : Bool) → bit_at taken c ≡ flag → drop c (bits_of taken positions) ≡ flag ∷ drop (c + 1) (bits_of taken positions)
  next_flag flag e =
      left_next (bits_of taken positions) c false (omega (arith, bits-length taken positions))
      ∙ ap (λ (x : Bool). x ∷ drop (c + 1) (bits_of taken positions)) (bit_of_list taken positions c inside ∙ e)

  pub new_passes : bit_at taken c ≡ false → out ++ left ≡ whole
  unfolding lookup_terms_from
  new_passes e =
      ap (λ (l : Row). out ++ l) (sym (ap (lookup_terms_from symbol signs d c) (next_flag false e) ∙ rw (lookup_terms_from, add-one c))) ∙ so_far

  module _ (e : bit_at taken c ≡ true) where
    new_here : out ++ lookup_term symbol signs d c ∷ left ≡ whole
    unfolding lookup_terms_from
    new_here = ap (λ (l : Row). out ++ l) (sym (ap (lookup_terms_from symbol signs d c) (next_flag true e) ∙ rw (lookup_terms_from, add-one c))) ∙ so_far

    -- where one more follows there is room for it
    pub new_room : (most : ℕ) → length whole ≤ most → length out < most
    new_room most h = omega (arith, ap (length {A = Term}) new_here, length-append out (lookup_term symbol signs d c ∷ left))

    pub new_more : (out ++ lookup_term symbol signs d c ∷ []) ++ left ≡ whole
    new_more = append_assoc out (lookup_term symbol signs d c ∷ []) left ∙ new_here

pub new_end : (symbol : ℕ) (signs : Signs) (d : Divisor) (taken c : ℕ) → positions ≤ c → (done : Row) → done ++ lookup_terms_from symbol signs d c (drop c (bits_of taken positions)) ≡ done
unfolding lookup_terms_from
new_end symbol signs d taken c h done =
    ap (λ (l : List Bool). done ++ lookup_terms_from symbol signs d c l) (left_none (bits_of taken positions) c (omega (arith, bits-length taken positions))) ∙ append-nil done

-- ---- what no flags say

no_bits : (n : ℕ) → bits_of 0 n ≡ replicate n false
no_bits n =
    ext_get_or false (bits_of 0 n) (replicate n false) (bits-length 0 n ∙ sym (length-replicate n false)) (λ i h.
    let inside : i < n = omega (arith, bits-length 0 n) in
    bit_of_list 0 n i inside ∙ zero_bit i ∙ sym (get_or-replicate n i false false inside))

all-kept : (d : Divisor) (r : Row) → kept_terms d [] r ≡ r
unfolding kept_terms
all-kept d [] = refl
all-kept d (t ∷ r) =
    let no : (symbol exponent : ℕ) → part_as symbol exponent [] t ≡ false =
    λ symbol exponent. and_no_right (eqb t.symbol symbol) _ (and_no_right (leb exponent t.exponent) false refl) in
    rw (or_neither _ _ (no d.a d.ea) (no d.b d.eb), kept_terms) (ap (λ (l : Row). t ∷ l) (all-kept d r))

none_made : (symbol : ℕ) (signs : Signs) (d : Divisor) → lookup_terms_from symbol signs d 0 [] ≡ []
unfolding lookup_terms_from
none_made symbol signs d = refl

-- ---- the row after a step: the terms kept, and behind them the terms made

module _ (symbol : ℕ) (d : Divisor) (proper : Proper d) (r : Row) (w : WellFormed positions symbol r) (taken : ℕ)
    (flags : bits_of taken positions ≡ taken_flags (sign_at r) d positions) where
  row-after-flags : kept_terms d (bits_of taken positions) r ++ lookup_terms_from symbol (sign_at r) d 0 (bits_of taken positions) ≡ row_after symbol d r
  unfolding lookup_row_after
  row-after-flags = rw flags (row-after_looked_up positions symbol d proper r w.ascending w.exponents)

  pub row-after_parts : (kept : Row) → kept ≡ kept_terms d (bits_of taken positions) r
      → kept ++ lookup_terms_from symbol (sign_at r) d 0 (bits_of taken positions) ≡ row_after symbol d r
  row-after_parts kept k = ap (λ (l : Row). l ++ lookup_terms_from symbol (sign_at r) d 0 (bits_of taken positions)) k ∙ row-after-flags

  -- where nothing is taken it stays as it is
  pub row-after-none : taken ≡ 0 → row_after symbol d r ≡ r
  row-after-none none =
      sym row-after-flags
      ∙ ap (λ (l : List Bool). kept_terms d l r ++ lookup_terms_from symbol (sign_at r) d 0 l) (ap (λ (mask : ℕ). bits_of mask positions) none ∙ no_bits positions)
      ∙ ap₂ ◌++◌ (padded_kept d [] positions r ∙ all-kept d r) (padded_new symbol (sign_at r) d 0 [] positions ∙ none_made symbol (sign_at r) d)
      ∙ append-nil r

pub row-after-short : (symbol : ℕ) (d : Divisor) (r : Row) (most : ℕ) → length r ≤ most → length (row_after symbol d r) ≤ most
row-after-short symbol d r most h = omega (arith, (length-after symbol d r).0)

-- ---- the rows after a step, which take the places of those before one by one

rows-after-append : (symbol : ℕ) (d : Divisor) (rows others : List Row) → rows_after symbol d (rows ++ others) ≡ rows_after symbol d rows ++ rows_after symbol d others
unfolding rows_after
rows-after-append symbol d [] others = refl
rows-after-append symbol d (r ∷ rs) others = ap (λ (l : List Row). row_after symbol d r ∷ l) (rows-after-append symbol d rs others)

unfoldable pub partly_after : ℕ → Divisor → List Row → ℕ → List Row
unfolding rows_after
partly_after symbol d rows i = rows_after symbol d (take i rows) ++ drop i rows

module _ (symbol : ℕ) (d : Divisor) (rows : List Row) where
  pub partly_start : rows ≡ partly_after symbol d rows 0
  unfolding partly_after
  partly_start = refl

  module _ (i : ℕ) (h : i < length rows) where
    abbrev row : Row
    row = get_or rows i []

    abbrev done : List Row
    done = rows_after symbol d (take i rows)

    partly_here : partly_after symbol d rows i ≡ done ++ row ∷ drop (i + 1) rows
    unfolding partly_after
    partly_here = ap (λ (l : List Row). done ++ l) (left_next rows i [] h)

    done_next : rows_after symbol d (take (i + 1) rows) ≡ done ++ (row_after symbol d row ∷ [])
    unfolding rows_after
    done_next = rw (add-one i, take-suc rows i [] h) (rows-after-append symbol d (take i rows) (row ∷ []))

    partly_further : partly_after symbol d rows (i + 1) ≡ done ++ row_after symbol d row ∷ drop (i + 1) rows
    unfolding partly_after
    partly_further = rw done_next (append_snoc done (row_after symbol d row) (drop (i + 1) rows))

    front : length done ≡ i
    front = length-rows-after symbol d (take i rows) ∙ length-take-le i rows (omega arith)

    pub partly_put : set (partly_after symbol d rows i) i (row_after symbol d row) ≡ partly_after symbol d rows (i + 1)
    partly_put =
        ap (λ (l : List Row). set l i (row_after symbol d row)) partly_here ∙ set_at done row (drop (i + 1) rows) (row_after symbol d row) i front ∙ sym partly_further

    pub partly_same : row_after symbol d row ≡ row → partly_after symbol d rows i ≡ partly_after symbol d rows (i + 1)
    partly_same e = partly_here ∙ ap (λ (r : Row). done ++ r ∷ drop (i + 1) rows) (sym e) ∙ sym partly_further

    pub partly-length : length (partly_after symbol d rows i) ≡ length rows
    partly-length = omega (arith, ap (length {A = Row}) partly_here, length-append done (row ∷ drop (i + 1) rows), front, length-drop (i + 1) rows)

  pub partly_end : (i : ℕ) → length rows ≤ i → partly_after symbol d rows i ≡ rows_after symbol d rows
  unfolding partly_after
  partly_end i h = rw (left_none rows i h, take_all i rows h) (append-nil (rows_after symbol d rows))
