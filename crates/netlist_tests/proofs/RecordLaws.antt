-- The refusals of one record, each from what holds where it applies, what an accepted record is, and records one after another.
-- Assumes nothing.
use Prim.Native.Nat.{ℕ, zero, suc, ◌+◌, ◌-◌, ◌≤◌, ◌<◌}
use mathlib.Core.Path.{◌≡◌, refl, sym, ◌∙◌, ap}
use mathlib.Core.Bool.{Bool, true, false, ◌&&◌}
use mathlib.Core.Logic.{◌↔◌, inl, inr}
use mathlib.Core.List.{List, []}
use native.Mathlib.Omega.{arith}
use native.Mathlib.Decide.{dec_lt}
use lib.Dec.{eqb, leb}
use lib.ListN.{length}
use Rattle.limits.specs.Limits.{max_width}
use Rattle.layout_rules.specs.declared.Head.{Head}
use Rattle.layout_rules.specs.declared.Operation.{Operation}
use Rattle.layout_rules.specs.Bytes.{word}
use Rattle.layout_rules.specs.Records.{head_length_of, operation_kind, operation_length, output_kind, output_length, totals_kind, totals_length}
use Rattle.layout_rules.specs.Places.{operation_place, output_place, head_kind_in, head_length_in, head_at, operation_at, output_at, totals_at, first_records, first_operations}
use Rattle.layout_rules.specs.Step.{step_refusal}
use Rattle.layout_rules.proofs.Accepted.{no_header}
use Rattle.layout_rules.proofs.FirstRecords.{length-first}
use Rattle.layout_rules.proofs.InBytes.{length-due, length-is-due}
use Rattle.layout_rules.proofs.TestLaws.{RefusedBy}
use Rattle.board_rules.specs.Netlist.{OperationLimits, OutputLimits, TotalsRight}
use Rattle.netlist_rules.specs.Read.{refused, accepted, read_records, record_refusal, head_in_range, width_in_range, head_refusal, operation_in_range, operation_width, operation_refusal, output_in_range, output_width, output_refusal, totals_right, totals_refusal, width_right}
use Rattle.netlist_rules.specs.Exact.{read_limits}
use Rattle.netlist_rules.specs.Tests.{record_tests, HeadRight}
use Rattle.netlist_rules.proofs.ReadingLaws.{read_more, read_stops}
use Rattle.netlist_rules.proofs.Conditions.{and_says, same_says, at_most_says, head_says, operation_says, output_says, totals_says}
use Rattle.netlist_rules.proofs.ReadTests.{record-refused, expected_head}
use Rattle.netlist_rules.proofs.ReadAccepts.{head_expected}

-- ---- tests

-- a test from what it says
pub fails : {P : Type 0} (t : Bool) → (t ≡ true) ↔ P → (P → ⊥) → t ≡ false
fails true is h = absurd (h (is.0 refl))
fails false is h = refl

-- the test of a recorded width says that it is the width, which is at most the widest
pub width_says : (recorded w : ℕ) → (width_right recorded w ≡ true) ↔ ((recorded ≡ w) × (w ≤ max_width))
width_says recorded w = and_says (eqb recorded w) (leb w max_width) (same_says recorded w) (at_most_says w max_width)

-- a record's refusal r, and then one test of its fields, or two
abbrev pub one_test : ℕ → ℕ → Bool → ℕ
one_test number r t = elim r [ suc x ↦ suc x | zero ↦ elim t [ true ↦ 0 | false ↦ number ] ]

abbrev pub two_tests : ℕ → Bool → Bool → ℕ
two_tests r s t = elim r [ suc x ↦ suc x | zero ↦ elim s [ false ↦ 9 | true ↦ elim t [ true ↦ 0 | false ↦ 10 ] ] ]

stays_one : (number r : ℕ) (t : Bool) → (r ≡ 0 → ⊥) → r ≡ one_test number r t
stays_one number zero t h = absurd (h refl)
stays_one number (suc r) t h = refl

stays_two : (r : ℕ) (s t : Bool) → (r ≡ 0 → ⊥) → r ≡ two_tests r s t
stays_two zero s t h = absurd (h refl)
stays_two (suc r) s t h = refl

one_fails : (number r : ℕ) (t : Bool) → r ≡ 0 → t ≡ false → number ≡ one_test number r t
one_fails number r t d e = rw (d, e) refl

one_passes : (number r : ℕ) (t : Bool) → r ≡ 0 → t ≡ true → 0 ≡ one_test number r t
one_passes number r t d e = rw (d, e) refl

one_passed : (number r : ℕ) (t : Bool) → 0 < number → one_test number r t ≡ 0 → (r ≡ 0) × (t ≡ true)
one_passed number zero true l e = (refl, refl)
one_passed number zero false l e = absurd (omega arith)
one_passed number (suc r) t l e = absurd (omega arith)

two_outside : (r : ℕ) (s t : Bool) → r ≡ 0 → s ≡ false → 9 ≡ two_tests r s t
two_outside r s t d e = rw (d, e) refl

two_wide : (r : ℕ) (s t : Bool) → r ≡ 0 → s ≡ true → t ≡ false → 10 ≡ two_tests r s t
two_wide r s t d e f = rw (d, e, f) refl

two_passes : (r : ℕ) (s t : Bool) → r ≡ 0 → s ≡ true → t ≡ true → 0 ≡ two_tests r s t
two_passes r s t d e f = rw (d, e, f) refl

two_passed : (r : ℕ) (s t : Bool) → two_tests r s t ≡ 0 → (r ≡ 0) × (s ≡ true)
two_passed zero true t e = (refl, refl)
two_passed zero false t e = absurd (omega arith)
two_passed (suc r) s t e = absurd (omega arith)

-- ---- the record due at a place

module _ (b : List ℕ) (place kind size : ℕ) where
  -- a record that is due stands in the bytes with its whole length
  pub record-there : 4 ≤ size → record_refusal b place kind size ≡ 0 → place + size ≤ length b
  record-there enough e = go (record-refused b place kind size enough)
    where
      go : RefusedBy (record_tests b place kind size) (record_refusal b place kind size) place → place + size ≤ length b
      go (inr f) = absurd (omega (arith, f.0, e))
      go (inl a) = omega (arith, a.1.0.header, a.1.0.within, a.1.1.0.its_length)

-- ---- the refusals of a netlist's records before their fields are tested

abbrev pub head_record_refusal : List ℕ → ℕ
head_record_refusal b = record_refusal b 0 (head_kind_in b) (head_length_in b)

abbrev pub operation_record_refusal : List ℕ → ℕ → ℕ
operation_record_refusal b k = record_refusal b (operation_place (head_length_in b) k) operation_kind operation_length

-- output i behind so many operations
abbrev pub output_record_refusal : List ℕ → ℕ → ℕ → ℕ
output_record_refusal b operations i = record_refusal b (output_place (head_length_in b) operations i) output_kind output_length

abbrev pub totals_record_refusal : List ℕ → ℕ → ℕ
totals_record_refusal b place = record_refusal b place totals_kind totals_length

-- ---- the head

module _ (b : List ℕ) where
  abbrev right_head : Bool
  right_head = head_in_range (head_at b) && width_in_range (word b 2) (head_at b).width

  head-tests : one_test 9 (head_record_refusal b) right_head ≡ head_refusal b
  unfolding head_refusal
  head-tests = refl

  head_stops : (head_record_refusal b ≡ 0 → ⊥) → head_record_refusal b ≡ head_refusal b
  head_stops h = stays_one 9 (head_record_refusal b) right_head h ∙ head-tests

  -- under 4 bytes
  pub no_kind : length b < 4 → 7 ≡ head_refusal b
  unfolding record_refusal
  no_kind h =
      let e = no_header b 0 (omega arith) in
      let stops : 7 ≡ head_record_refusal b =
      e ∙ stays_one 8 (step_refusal b 0) (eqb (word b 2) (head_kind_in b) && eqb (word b 0) (head_length_in b)) (λ z. omega (arith, e, z)) in
      stops ∙ head_stops (λ z. omega (arith, stops, z))

  head_passed : head_refusal b ≡ 0 → (head_record_refusal b ≡ 0) × (right_head ≡ true)
  head_passed e = one_passed 9 (head_record_refusal b) right_head (omega arith) (head-tests ∙ e)

  pub head-due : head_refusal b ≡ 0 → (head_length_in b ≤ length b) × HeadRight b
  head-due e =
      let p = head_passed e in
      (omega (arith, record-there b 0 (head_kind_in b) (head_length_in b) (omega (arith, length-due b)) p.0), (head_says b).0 p.1)

  -- an accepted head is the one for its width
  pub head-length-due : head_refusal b ≡ 0 → head_length_in b ≡ head_length_of (head_at b).width
  head-length-due e = go (record-refused b 0 (head_kind_in b) (head_length_in b) (omega (arith, length-due b)))
    where
      go : RefusedBy (record_tests b 0 (head_kind_in b) (head_length_in b)) (head_record_refusal b) 0 → head_length_in b ≡ head_length_of (head_at b).width
      go (inr f) = absurd (omega (arith, f.0, (head_passed e).0))
      go (inl a) = length-is-due b (head_at b).width (head_expected b ((expected_head b).0 a.1.1.0) (head-due e).1).its_kind

-- ---- operation k behind the k operations before it

module _ (b : List ℕ) (s n k : ℕ) where
  abbrev in_range_lem : Bool
  in_range_lem = operation_in_range (n + k) (operation_at b k)

  abbrev right : Bool
  right = width_right (operation_at b k).width (operation_width s n (first_operations b k) (operation_at b k))

  operation-tests : two_tests (operation_record_refusal b k) (operation_in_range (n + k) (operation_at b k))
      (width_right (operation_at b k).width (operation_width s n (first_operations b k) (operation_at b k)))
      ≡ operation_refusal b s n (first_operations b k)
  unfolding operation_refusal
  operation-tests = ap (λ (j : ℕ). two_tests (operation_record_refusal b j) (operation_in_range (n + j) (operation_at b j))
      (width_right (operation_at b j).width (operation_width s n (first_operations b k) (operation_at b j)))) (sym (length-first (operation_at b) k))

  pub operation_stops : (operation_record_refusal b k ≡ 0 → ⊥) → operation_record_refusal b k ≡ operation_refusal b s n (first_operations b k)
  operation_stops h = stays_two (operation_record_refusal b k) in_range_lem right h ∙ operation-tests

  module _ (due : operation_record_refusal b k ≡ 0) where
    pub operation-outside : operation_in_range (n + k) (operation_at b k) ≡ false → 9 ≡ operation_refusal b s n (first_operations b k)
    operation-outside h = two_outside (operation_record_refusal b k) in_range_lem right due h ∙ operation-tests

    module _ (inside : operation_in_range (n + k) (operation_at b k) ≡ true) where
      pub operation_wide : width_right (operation_at b k).width (operation_width s n (first_operations b k) (operation_at b k)) ≡ false
          → 10 ≡ operation_refusal b s n (first_operations b k)
      operation_wide h = two_wide (operation_record_refusal b k) in_range_lem right due inside h ∙ operation-tests

      pub operation-accepted : width_right (operation_at b k).width (operation_width s n (first_operations b k) (operation_at b k)) ≡ true
          → 0 ≡ operation_refusal b s n (first_operations b k)
      operation-accepted h = two_passes (operation_record_refusal b k) in_range_lem right due inside h ∙ operation-tests

  pub operation-due : operation_refusal b s n (first_operations b k) ≡ 0
      → (operation_place (head_length_in b) k + operation_length ≤ length b) × OperationLimits (read_limits s) (n + k) (operation_at b k)
  operation-due e =
      let p = two_passed (operation_record_refusal b k) in_range_lem right (operation-tests ∙ e) in (
        record-there b (operation_place (head_length_in b) k) operation_kind operation_length (omega arith) p.0,
        (operation_says s (n + k) (operation_at b k)).0 p.1,
      )

-- ---- output i of a netlist of the operations os

module _ (b : List ℕ) (s n k : ℕ) (os : List Operation) (count : length os ≡ k) (i : ℕ) where
  abbrev output_tested : ℕ → ℕ
  output_tested j = two_tests (output_record_refusal b j i) (output_in_range (n + j) (output_at b j i)) (width_right (output_at b j i).width (output_width s n os (output_at b j i)))

  output-tests : output_tested k ≡ output_refusal b s n os i
  unfolding output_refusal
  output-tests = ap output_tested (sym count)

  abbrev output_inside : Bool
  output_inside = output_in_range (n + k) (output_at b k i)

  abbrev output_right : Bool
  output_right = width_right (output_at b k i).width (output_width s n os (output_at b k i))

  pub output_stops : (output_record_refusal b k i ≡ 0 → ⊥) → output_record_refusal b k i ≡ output_refusal b s n os i
  output_stops h = stays_two (output_record_refusal b k i) output_inside output_right h ∙ output-tests

  module _ (due : output_record_refusal b k i ≡ 0) where
    pub output-outside : output_in_range (n + k) (output_at b k i) ≡ false → 9 ≡ output_refusal b s n os i
    output-outside h = two_outside (output_record_refusal b k i) output_inside output_right due h ∙ output-tests

    module _ (inside : output_in_range (n + k) (output_at b k i) ≡ true) where
      pub output_wide : width_right (output_at b k i).width (output_width s n os (output_at b k i)) ≡ false → 10 ≡ output_refusal b s n os i
      output_wide h = two_wide (output_record_refusal b k i) output_inside output_right due inside h ∙ output-tests

      pub output-accepted : width_right (output_at b k i).width (output_width s n os (output_at b k i)) ≡ true → 0 ≡ output_refusal b s n os i
      output-accepted h = two_passes (output_record_refusal b k i) output_inside output_right due inside h ∙ output-tests

  pub output-due : output_refusal b s n os i ≡ 0
      → (output_place (head_length_in b) k i + output_length ≤ length b) × OutputLimits (read_limits s) (n + k) (output_at b k i)
  output-due e =
      let p = two_passed (output_record_refusal b k i) output_inside output_right (output-tests ∙ e) in (
        record-there b (output_place (head_length_in b) k i) output_kind output_length (omega arith) p.0,
        (output_says s (n + k) (output_at b k i)).0 p.1,
      )

-- ---- totals

module _ (b : List ℕ) (place : ℕ) (h : Head) (os : List Operation) where
  abbrev totals_same : Bool
  totals_same = totals_right h os (totals_at b place)

  totals-tests : one_test 11 (totals_record_refusal b place) (totals_right h os (totals_at b place)) ≡ totals_refusal b place h os
  unfolding totals_refusal
  totals-tests = refl

  module _ (due : totals_record_refusal b place ≡ 0) where
    pub totals-differ : (TotalsRight h os (totals_at b place) → ⊥) → 11 ≡ totals_refusal b place h os
    totals-differ z = one_fails 11 (totals_record_refusal b place) totals_same due (fails totals_same (totals_says h os (totals_at b place)) z) ∙ totals-tests

    pub totals-accepted : TotalsRight h os (totals_at b place) → 0 ≡ totals_refusal b place h os
    totals-accepted r = one_passes 11 (totals_record_refusal b place) totals_same due ((totals_says h os (totals_at b place)).1 r) ∙ totals-tests

  pub totals-due : totals_refusal b place h os ≡ 0 → place + totals_length ≤ length b
  totals-due e =
      record-there b place totals_kind totals_length (omega arith) (one_passed 11 (totals_record_refusal b place) totals_same (omega arith) (totals-tests ∙ e)).0

-- ---- records of one kind, one after another

module _ {A : Type 0} (refusal : List A → ℕ) (place : ℕ → ℕ) (fields : ℕ → A) where
  -- all are left
  records_start : (count : ℕ) → read_records refusal place fields (count - 0) (first_records fields 0) ≡ read_records refusal place fields count []
  unfolding first_records
  records_start count = let all : count - 0 ≡ count = omega arith in rw all refl

  -- of those that are left, the next one is refused
  records_stop : (count k : ℕ) → k < count → (refusal (first_records fields k) ≡ 0 → ⊥)
      → read_records refusal place fields (count - k) (first_records fields k) ≡ refused (refusal (first_records fields k)) (place k)
  records_stop count k l h =
      let less : count - k ≡ suc (count - suc k) = omega arith in
      rw less (read_stops refusal place fields (count - suc k) k (omega (arith, h)))

  -- or is read
  records_next : (count k : ℕ) → k < count → refusal (first_records fields k) ≡ 0
      → read_records refusal place fields (count - k) (first_records fields k) ≡ read_records refusal place fields (count - suc k) (first_records fields (suc k))
  records_next count k l e =
      let less : count - k ≡ suc (count - suc k) = omega arith in
      rw less (read_more refusal place fields (count - suc k) k e)

  -- or none is left
  records_end : (count k : ℕ) → count ≤ k → read_records refusal place fields (count - k) (first_records fields k) ≡ accepted (first_records fields k)
  unfolding read_records
  records_end count k l = let none : count - k ≡ 0 = omega arith in rw none refl

  -- where none of the first k is refused, those from k on are left
  records_left : (count k : ℕ) → k ≤ count → ((j : ℕ) → j < k → refusal (first_records fields j) ≡ 0)
      → read_records refusal place fields (count - k) (first_records fields k) ≡ read_records refusal place fields count []
  records_left count zero l h = records_start count
  records_left count (suc k) l h = sym (records_next count k (omega arith) (h k (omega arith))) ∙ records_left count k (omega arith) (λ j m. h j (omega arith))

  pub records_refused : (count k : ℕ) → k < count → ((j : ℕ) → j < k → refusal (first_records fields j) ≡ 0) → (refusal (first_records fields k) ≡ 0 → ⊥)
      → read_records refusal place fields count [] ≡ refused (refusal (first_records fields k)) (place k)
  records_refused count k l h z = sym (records_left count k (omega arith) h) ∙ records_stop count k l z

  pub records_accepted : (count : ℕ) → ((j : ℕ) → j < count → refusal (first_records fields j) ≡ 0)
      → read_records refusal place fields count [] ≡ accepted (first_records fields count)
  records_accepted count h = sym (records_left count count (omega arith) h) ∙ records_end count count (omega arith)

  -- where all are accepted, none is refused
  first-accepted : (k j : ℕ) (xs : List A) → read_records refusal place fields (suc k) (first_records fields j) ≡ accepted xs
      → (refusal (first_records fields j) ≡ 0) × (read_records refusal place fields k (first_records fields (suc j)) ≡ accepted xs)
  unfolding read_records first_records
  first-accepted k j xs e = go (refusal (first_records fields j)) refl
    where
      go : (r : ℕ) → refusal (first_records fields j) ≡ r
          → (refusal (first_records fields j) ≡ 0) × (read_records refusal place fields k (first_records fields (suc j)) ≡ accepted xs)
      go zero z = (z, rw (z, length-first fields j) at e)
      go (suc r) z = let d = rw z at e in absurd (let u : ◌≡◌ {A = ℕ} 0 1 = cc in omega arith)

  pub none-refused : (k j : ℕ) (xs : List A) → read_records refusal place fields k (first_records fields j) ≡ accepted xs
      → (i : ℕ) → j ≤ i → i < j + k → refusal (first_records fields i) ≡ 0
  none-refused zero j xs e i l m = absurd (omega arith)
  none-refused (suc k) j xs e i l m =
      let p = first-accepted k j xs e in go (dec_lt j i) (λ h. none-refused k (suc j) xs p.1 i h (omega arith)) p.0
    where
      go : Dec (j < i) → (j < i → refusal (first_records fields i) ≡ 0) → refusal (first_records fields j) ≡ 0 → refusal (first_records fields i) ≡ 0
      go (yes h) later z = later h
      go (no h) later z = let same : i ≡ j = omega arith in rw same z
