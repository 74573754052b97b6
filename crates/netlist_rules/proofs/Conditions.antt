-- What each computed condition on a record's fields says.
-- Assumes nothing.
use Prim.Native.Nat.{ℕ, zero, ◌+◌, ◌<◌, ◌≤◌}
use mathlib.Core.Path.{◌≡◌, refl, sym, ◌∙◌, ap, subst}
use mathlib.Core.Bool.{Bool, true, false, not, ◌&&◌, ◌||◌, true≢false}
use mathlib.Core.Logic.{◌↔◌, ◌⊎◌, inl, inr, ⊎_elim}
use mathlib.Core.List.{List, [], ◌∷◌, ◌++◌}
use native.Mathlib.Omega.{arith}
use lib.Dec.{leb, ltb, eqb}
use lib.IntN.{ℤ}
use lib.ListN.{length}
use borrow.Author.Tests.{ltb-true, ltb-false, leb-true, eqb-true, lt-ltb, le-leb, eq-eqb, not-true}
use Rattle.limits.specs.Limits.{positions, max_shift, unstated_width, max_operations, max_width}
use Rattle.limits.specs.Size.{SizeLimits, size_outside, SampleWidth, sample_width_outside}
use Rattle.limits.proofs.Size.{size-within, size-inside, bank_size, sample-width-within, sample-width-inside}
use Rattle.layout_rules.specs.declared.Head.{Head}
use Rattle.layout_rules.specs.declared.Operation.{Operation}
use Rattle.layout_rules.specs.declared.Output.{Output}
use Rattle.layout_rules.specs.declared.Totals.{Totals}
use Rattle.board_rules.specs.Machine.{machine, entry_at, operation_value, output_value, depth}
use Rattle.board_rules.specs.Netlist.{HeadLimits, OperationLimits, OutputLimits, WidthRight, TotalsRight}
use Rattle.board_rules.specs.Width.{IsWidth, width}
use Rattle.board_rules.proofs.MachineLaws.{machine-last}
use Rattle.board_rules.proofs.WidthLaws.{width_unique, width_same, entry_width-is, output-width-is}
use Rattle.layout_rules.specs.Bytes.{word}
use Rattle.layout_rules.specs.Places.{head_at}
use Rattle.layout_rules.specs.Records.{width_head_kind}
use Rattle.netlist_rules.specs.Tests.{HeadRight}
use Rattle.netlist_rules.specs.Read.{head_in_range, width_in_range, operation_in_range, output_in_range, width_right, operation_width, output_width, totals_right}
use Rattle.netlist_rules.specs.Exact.{read_limits}

-- ---- comparisons

pub and_says : {P Q : Type 0} (t u : Bool) → (t ≡ true) ↔ P → (u ≡ true) ↔ Q → ((t && u) ≡ true) ↔ (P × Q)
and_says true u p q = (λ e. (p.0 refl, q.0 e), λ h. q.1 h.1)
and_says false u p q = (λ e. absurd (true≢false (sym e)), λ h. p.1 h.0)

or_says : {P Q : Type 0} (t u : Bool) → (t ≡ true) ↔ P → (u ≡ true) ↔ Q → ((t || u) ≡ true) ↔ (P ⊎ Q)
or_says true u p q = (λ e. inl (p.0 refl), λ h. refl)
or_says false u p q = (λ e. inr (q.0 e), λ h. ⊎_elim (λ x. absurd (true≢false (sym (p.1 x)))) (λ y. q.1 y) h)

pub at_most_says : (a b : ℕ) → (leb a b ≡ true) ↔ (a ≤ b)
at_most_says a b = (leb-true a b, le-leb a b)

pub below_says : (a b : ℕ) → (ltb a b ≡ true) ↔ (a < b)
below_says a b = (ltb-true a b, lt-ltb a b)

pub same_says : (a b : ℕ) → (eqb a b ≡ true) ↔ (a ≡ b)
same_says a b = (eqb-true a b, eq-eqb a b)

-- "Shifts are 0 to 15"
shift_says : (s : ℕ) → (leb s max_shift ≡ true) ↔ (s < positions)
shift_says s = (λ e. omega (arith, leb-true s max_shift e), λ h. le-leb s max_shift (omega arith))

inside_says : (m n : ℕ) → (not (size_outside m n) ≡ true) ↔ SizeLimits m n
inside_says m n = (λ e. size-within m n (not-true (size_outside m n) e), λ l. rw (size-inside m n l))

-- ---- fields in range

-- m, n and operations 0, or m and n of a matrix record and operations up to the most
abbrev pub HeadCases : Head → Type 0
HeadCases h = (((h.m ≡ 0) × (h.n ≡ 0)) × (h.operations ≡ 0)) ⊎ (SizeLimits h.m h.n × (h.operations ≤ max_operations))

head_cases : (h : Head) → (HeadCases h × SampleWidth h.width) ↔ HeadLimits (read_limits h.width) h
head_cases h = (λ c. there c.0 c.1, λ l. (back l ((bank_size h.m h.n).0 l.limits), l.width))
  where
    there : HeadCases h → SampleWidth h.width → HeadLimits (read_limits h.width) h
    there (inl e) w = record { limits = (bank_size h.m h.n).1 (inl e.0); few = omega (arith, e.1); none = λ z. e.1; width = w; samples = refl }
    there (inr s) w = record {
      limits = (bank_size h.m h.n).1 (inr s.0);
      few = s.1;
      none = λ z. absurd (omega (arith, z, s.0.rows-least));
      width = w;
      samples = refl;
    }

    back : HeadLimits (read_limits h.width) h → ((h.m ≡ 0) × (h.n ≡ 0)) ⊎ SizeLimits h.m h.n → HeadCases h
    back l (inl e) = inl (e, l.none e.0)
    back l (inr s) = inr (s, l.few)

pub size_says : (h : Head) → (head_in_range h ≡ true) ↔ HeadCases h
size_says h =
    let none = and_says (eqb h.m 0 && eqb h.n 0) (eqb h.operations 0)
    (and_says (eqb h.m 0) (eqb h.n 0) (same_says h.m 0) (same_says h.n 0)) (same_says h.operations 0) in
    let some = and_says (not (size_outside h.m h.n)) (leb h.operations max_operations) (inside_says h.m h.n) (at_most_says h.operations max_operations) in
    let all = or_says (eqb h.m 0 && eqb h.n 0 && eqb h.operations 0) (not (size_outside h.m h.n) && leb h.operations max_operations) none some in
    all

width-stated_says : (s : ℕ) → (not (sample_width_outside s) ≡ true) ↔ SampleWidth s
width-stated_says s = (λ e. sample-width-within s (not-true (sample_width_outside s) e), λ w. rw (sample-width-inside s w))

-- not both
neither_says : (k s : ℕ) → (not (eqb k width_head_kind && eqb s unstated_width) ≡ true) ↔ (k ≡ width_head_kind → s ≡ unstated_width → ⊥)
neither_says k s =
    let both = and_says (eqb k width_head_kind) (eqb s unstated_width) (same_says k width_head_kind) (same_says s unstated_width) in (
      λ e a b. true≢false (sym (both.1 (a, b)) ∙ not-true (eqb k width_head_kind && eqb s unstated_width) e),
      λ h. go (eqb k width_head_kind && eqb s unstated_width) (λ e. let p = both.0 e in h p.0 p.1),
    )
  where
    go : (t : Bool) → (t ≡ true → ⊥) → not t ≡ true
    go true h = absurd (h refl)
    go false h = refl

width_in_range_says : (kind s : ℕ) → (width_in_range kind s ≡ true) ↔ (SampleWidth s × (kind ≡ width_head_kind → s ≡ unstated_width → ⊥))
width_in_range_says kind s =
    and_says (not (sample_width_outside s)) (not (eqb kind width_head_kind && eqb s unstated_width)) (width-stated_says s) (neither_says kind s)

pub head_says : (b : List ℕ) → ((head_in_range (head_at b) && width_in_range (word b 2) (head_at b).width) ≡ true) ↔ HeadRight b
head_says b =
    let h = head_at b in
    let all = and_says (head_in_range h) (width_in_range (word b 2) h.width) (size_says h) (width_in_range_says (word b 2) h.width) in (
      λ e. let p = all.0 e in record { limits = (head_cases h).0 (p.0, p.1.0); stated = p.1.1 },
      λ r. let p = (head_cases h).1 r.limits in all.1 (p.0, (p.1, r.stated)),
    )

pub operation_says : (s symbol : ℕ) (o : Operation) → (operation_in_range symbol o ≡ true) ↔ OperationLimits (read_limits s) symbol o
operation_says s symbol o =
    let earlier = and_says (ltb o.a symbol) (ltb o.b symbol) (below_says o.a symbol) (below_says o.b symbol) in
    let behind-sb = and_says (leb o.sb max_shift) (ltb o.a symbol && ltb o.b symbol) (shift_says o.sb) earlier in
    let behind-sa = and_says (leb o.sa max_shift) (leb o.sb max_shift && (ltb o.a symbol && ltb o.b symbol)) (shift_says o.sa) behind-sb in
    let all = and_says (leb o.sign 1) (leb o.sa max_shift && (leb o.sb max_shift && (ltb o.a symbol && ltb o.b symbol))) (at_most_says o.sign 1) behind-sa in (
      λ e.
          let p = all.0 e in
          record { sign = p.0; first-shift = p.1.0; second-shift = p.1.1.0; first_earlier = p.1.1.1.0; second_earlier = p.1.1.1.1 },
      λ l. all.1 (l.sign, (l.first-shift, (l.second-shift, (l.first_earlier, l.second_earlier)))),
    )

unless_says : {P : Type 0} (s : ℕ) (t : Bool) → (t ≡ true) ↔ P → ((ltb s 2 || t) ≡ true) ↔ (2 ≤ s → P)
unless_says {P} s t p = (there (ltb s 2) refl, back (ltb s 2) refl)
  where
    there : (u : Bool) → ltb s 2 ≡ u → (u || t) ≡ true → 2 ≤ s → P
    there true e h l = absurd (omega (arith, ltb-true s 2 e))
    there false e h l = p.0 h

    back : (u : Bool) → ltb s 2 ≡ u → (2 ≤ s → P) → (u || t) ≡ true
    back true e f = refl
    back false e f = p.1 (f (ltb-false s 2 e))

pub output_says : (s symbols : ℕ) (o : Output) → (output_in_range symbols o ≡ true) ↔ OutputLimits (read_limits s) symbols o
output_says s symbols o =
    let narrow = and_says (eqb o.shift 0) (eqb o.width 1) (same_says o.shift 0) (same_says o.width 1) in
    let nothing = and_says (eqb o.symbol 0) (eqb o.shift 0 && eqb o.width 1) (same_says o.symbol 0) narrow in
    let unless = unless_says o.sign (eqb o.symbol 0 && (eqb o.shift 0 && eqb o.width 1)) nothing in
    let behind-shift = and_says (ltb o.symbol symbols) (ltb o.sign 2 || (eqb o.symbol 0 && (eqb o.shift 0 && eqb o.width 1)))
    (below_says o.symbol symbols) unless in
    let behind-sign = and_says (leb o.shift max_shift)
    (ltb o.symbol symbols && (ltb o.sign 2 || (eqb o.symbol 0 && (eqb o.shift 0 && eqb o.width 1)))) (shift_says o.shift) behind-shift in
    let all = and_says (leb o.sign 2)
    (leb o.shift max_shift && (ltb o.symbol symbols && (ltb o.sign 2 || (eqb o.symbol 0 && (eqb o.shift 0 && eqb o.width 1)))))
    (at_most_says o.sign 2) behind-sign in (
      λ e.
          let p = all.0 e in
          let q = p.1.1.1 in
          record {
            operand = record { sign = p.0; shift = p.1.0; symbol = p.1.1.0; zero = λ z. let r = q (omega arith) in (r.0, r.1.0) };
            zero-width = λ z. (q (omega arith)).1.1;
          },
      λ l.
          let q = l.operand in
          all.1 (q.sign, (q.shift, (q.symbol, λ z. let two : o.sign ≡ 2 = omega (arith, q.sign) in let r = q.zero two in (r.0, (r.1, l.zero-width two))))),
    )

pub totals_says : (h : Head) (os : List Operation) (t : Totals) → (totals_right h os t ≡ true) ↔ TotalsRight h os t
totals_says h os t =
    let all = and_says (eqb t.operations h.operations) (eqb t.depth (depth h.n os)) (same_says t.operations h.operations) (same_says t.depth (depth h.n os)) in (
      λ e. let p = all.0 e in record { count = p.0; deepest = p.1 },
      λ r. all.1 (r.count, r.deepest),
    )

-- ---- widths

-- the width worked out is the width, so comparing with it decides
width_says : (s n : ℕ) (value : List ℤ → ℤ) (recorded w : ℕ) → IsWidth s n value w → (width_right recorded w ≡ true) ↔ WidthRight (read_limits s) n value recorded
width_says s n value recorded w is =
    let all = and_says (eqb recorded w) (leb w max_width) (same_says recorded w) (at_most_says w max_width) in (
      λ e. let p = all.0 e in record { width = subst (IsWidth s n value) (sym p.0) is; narrow = omega (arith, p.0, p.1) },
      λ r. let same = width_unique r.width is in all.1 (same, omega (arith, same, r.narrow)),
    )

-- the width of an operation is that of the value it appends
pub operation-width-is : (s n : ℕ) (os : List Operation) (o : Operation) → IsWidth s n (λ xs. operation_value (machine xs os) o) (operation_width s n os o)
operation-width-is s n os o =
    width_same (λ xs. entry_at (machine xs (os ++ (o ∷ []))) (n + length os)) (λ xs. operation_value (machine xs os) o)
    (λ xs h. ap (λ k. entry_at (machine xs (os ++ (o ∷ []))) (k + length os)) (sym h) ∙ machine-last xs os o)
    (entry_width-is s n (os ++ (o ∷ [])) (n + length os))

pub operation-width_says : (s n : ℕ) (os : List Operation) (o : Operation)
    → (width_right o.width (operation_width s n os o) ≡ true) ↔ WidthRight (read_limits s) n (λ xs. operation_value (machine xs os) o) o.width
operation-width_says s n os o = width_says s n (λ xs. operation_value (machine xs os) o) o.width (operation_width s n os o) (operation-width-is s n os o)

pub output-width_says : (s n : ℕ) (os : List Operation) (o : Output)
    → (width_right o.width (output_width s n os o) ≡ true) ↔ WidthRight (read_limits s) n (λ xs. output_value (machine xs os) o) o.width
output-width_says s n os o = width_says s n (λ xs. output_value (machine xs os) o) o.width (output_width s n os o) (output-width-is s n os o)
