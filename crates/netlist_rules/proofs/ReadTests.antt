-- Read returns the number and the place of the first of its tests that fails, and the netlist in the bytes where all pass.
-- Assumes nothing.
use Prim.Native.Nat.{ℕ, zero, suc, ◌+◌, ◌<◌, ◌≤◌}
use mathlib.Core.Path.{◌≡◌, refl, sym, ◌∙◌, ap, subst}
use mathlib.Core.Bool.{Bool, true, false, cond, ◌&&◌}
use mathlib.Core.Logic.{◌↔◌, ◌⊎◌, inl, inr, ⊎_elim}
use mathlib.Core.List.{List, [], ◌∷◌, ◌++◌}
use native.Mathlib.Omega.{arith}
use native.Mathlib.Decide.{dec_lt}
use lib.Dec.{ltb, eqb}
use lib.ListN.{length}
use borrow.Author.Tests.{ltb-true, ltb-false, eq-eqb, ne_eqb}
use Rattle.limits.specs.Size.{SampleWidth}
use Rattle.layout_rules.specs.declared.Head.{Head}
use Rattle.layout_rules.specs.declared.Operation.{Operation}
use Rattle.layout_rules.specs.declared.Output.{Output}
use Rattle.layout_rules.specs.declared.Totals.{Totals}
use Rattle.layout_rules.specs.Bytes.{word}
use Rattle.layout_rules.specs.Records.{Netlist, head_kind, head_length, width_head_kind, width_head_length, operation_kind, operation_length, output_kind, output_length, totals_kind, totals_length}
use Rattle.layout_rules.specs.Places.{operation_place, output_place, totals_place, head_kind_in, head_length_in, head_at, operation_at, output_at, totals_at, first_operations, first_outputs, operations_in, outputs_in, totals_place_in, netlist_in}
use Rattle.layout_rules.specs.Step.{remaining, step_refusal}
use Rattle.layout_rules.specs.Tests.{Test, tested, AllPass, FirstFails, first_tests}
use Rattle.layout_rules.proofs.Accepted.{no_header, overrun, below-least, not-refused}
use Rattle.layout_rules.proofs.FirstRecords.{length-first}
use Rattle.layout_rules.proofs.InBytes.{length-due}
use Rattle.layout_rules.proofs.TestLaws.{Decided, RefusedBy, one_test_lem, no_test, both_parts, answer_decided, declined_first, passed_all, all_split}
use Rattle.board_rules.specs.Machine.{machine, operation_value, output_value}
use Rattle.board_rules.specs.Netlist.{OperationLimits, OutputLimits, WidthRight, TotalsRight}
use Rattle.netlist_rules.specs.Read.{Reading, refused, accepted, and_then, read_record, record_refusal, head_in_range, width_in_range, head_refusal, operation_in_range, operation_width, operation_refusal, output_in_range, output_width, output_refusal, totals_right, totals_refusal, width_right, leftover_refusal, read_head, read_operations, read_outputs, read_totals, read_netlist, read_refused, read_accepted, read_answer_of, read_answer}
use Rattle.netlist_rules.specs.declared.ReadAnswer.{ReadAnswer}
use Rattle.netlist_rules.specs.Exact.{read_limits}
use Rattle.netlist_rules.specs.Tests.{Whole, Expected, record_tests, HeadRight, head_tests, operation_tests, output_tests, totals_tests, read_tests}
use Rattle.netlist_rules.proofs.ReadingLaws.{record_decided, then_decided, records_decided}
use Rattle.netlist_rules.proofs.Conditions.{and_says, same_says, head_says, operation_says, operation-width_says, output_says, output-width_says, totals_says}

-- ---- 7 and 8: the record due at a place

module _ (b : List ℕ) (place kind size : ℕ) (enough : 4 ≤ size) where
  expected_says : ((eqb (word b (place + 2)) kind && eqb (word b place) size) ≡ true) ↔ Expected b place kind size
  expected_says =
      let all = and_says (eqb (word b (place + 2)) kind) (eqb (word b place) size) (same_says (word b (place + 2)) kind) (same_says (word b place) size) in (
        λ e. let p = all.0 e in record { its_kind = p.0; its_length = p.1 },
        λ r. all.1 (r.its_kind, r.its_length),
      )

  abbrev after-step : ℕ → ℕ
  after-step step = elim step [ suc r ↦ suc r | zero ↦ elim (eqb (word b (place + 2)) kind && eqb (word b place) size) [ true ↦ 0 | false ↦ 8 ] ]

  by_step : (step : ℕ) → step ≡ step_refusal b place → after-step step ≡ record_refusal b place kind size
  unfolding record_refusal
  by_step step e = ap after-step e

  pub record-refused : RefusedBy (record_tests b place kind size) (record_refusal b place kind size) place
  record-refused = go (dec_lt (remaining b place) 4) (dec_lt (remaining b place) (word b place)) (dec_lt (word b place) 4)
    where
      go : Dec (remaining b place < 4) → Dec (remaining b place < word b place) → Dec (word b place < 4)
          → RefusedBy (record_tests b place kind size) (record_refusal b place kind size) place
      go (yes h) o l = rw (← by_step 7 (no_header b place h)) (inr (omega arith, inl (λ w. omega (arith, w.header), refl, refl)))
      go (no h) (yes o) l = rw (← by_step 7 (overrun b place (omega arith) o)) (inr (omega arith, inl (λ w. omega (arith, w.within), refl, refl)))
      go (no h) (no o) (yes l) =
          rw (← by_step 8 (below-least b place (omega arith) (omega arith) l))
          (inr (omega arith, inr (record { header = omega arith; within = omega arith }, inl (λ e. omega (arith, e.its_length), refl, refl))))
      go (no h) (no o) (no l) =
          let whole : Whole b place = record { header = omega arith; within = omega arith } in
          rw (← by_step 0 (not-refused b place (record { header = omega arith; whole = omega arith; least = omega arith })))
          (behind whole (one_test_lem [] (eqb (word b (place + 2)) kind && eqb (word b place) size) (Expected b place kind size) 8 place 0 (omega arith) expected_says (no_test place)))
        where
          behind : Whole b place → RefusedBy (tested 8 place (Expected b place kind size) ∷ []) (after-step 0) place
              → RefusedBy (record_tests b place kind size) (after-step 0) place
          behind w (inl a) = inl (a.0, (w, a.1))
          behind w (inr f) = inr (f.0, inr (w, f.1))

  -- a record with one more test, and with a test of its fields and one of its width
  more-refused : (t : Bool) (P : Type 0) (number : ℕ) → 0 < number → (t ≡ true) ↔ P
      → RefusedBy (record_tests b place kind size ++ (tested number place P ∷ []))
      (elim (record_refusal b place kind size) [ suc r ↦ suc r | zero ↦ elim t [ true ↦ 0 | false ↦ number ] ]) place
  more-refused t P number h is =
      both_parts (record_tests b place kind size) (tested number place P ∷ []) (record_refusal b place kind size) (elim t [ true ↦ 0 | false ↦ number ]) place
      record-refused (one_test_lem [] t P number place 0 h is (no_test place))

  fields-refused : (s t : Bool) (P Q : Type 0) → (s ≡ true) ↔ P → (t ≡ true) ↔ Q
      → RefusedBy (record_tests b place kind size ++ (tested 9 place P ∷ tested 10 place Q ∷ []))
      (elim (record_refusal b place kind size) [ suc r ↦ suc r | zero ↦ elim s [ false ↦ 9 | true ↦ elim t [ true ↦ 0 | false ↦ 10 ] ] ]) place
  fields-refused s t P Q is it =
      both_parts (record_tests b place kind size) (tested 9 place P ∷ tested 10 place Q ∷ []) (record_refusal b place kind size)
      (elim s [ false ↦ 9 | true ↦ elim t [ true ↦ 0 | false ↦ 10 ] ]) place
      record-refused
      (one_test_lem (tested 10 place Q ∷ []) s P 9 place (elim t [ true ↦ 0 | false ↦ 10 ]) (omega arith) is (one_test_lem [] t Q 10 place 0 (omega arith) it (no_test place)))

-- ---- each record of a netlist

-- a second test that says the same
second-same : (P R : Type 0) {Q S : Type 0} {i j k at r place : ℕ} → Q ↔ S
    → RefusedBy (tested i at P ∷ tested j at Q ∷ tested k at R ∷ []) r place → RefusedBy (tested i at P ∷ tested j at S ∷ tested k at R ∷ []) r place
second-same P R is (inl a) = inl (a.0, (a.1.0, (is.0 a.1.1.0, a.1.1.1)))
second-same P R is (inr (h, inl f)) = inr (h, inl f)
second-same P R is (inr (h, inr (p, inl f))) = inr (h, inr (p, inl (λ s. f.0 (is.1 s), f.1, f.2)))
second-same P R is (inr (h, inr (p, inr f))) = inr (h, inr (p, inr (is.0 f.0, f.1)))

module _ (b : List ℕ) where
  -- the head of one of the two pairs of kind and length is the one due
  pub expected_head : Expected b 0 (head_kind_in b) (head_length_in b) ↔ (Expected b 0 head_kind head_length ⊎ Expected b 0 width_head_kind width_head_length)
  unfolding head_kind_in head_length_in
  expected_head = (there (eqb (word b 2) width_head_kind) refl, ⊎_elim (λ e. back_plain e) (λ e. back_stated e))
    where
      Pairs : Type 0
      Pairs = Expected b 0 head_kind head_length ⊎ Expected b 0 width_head_kind width_head_length

      Due : Bool → Type 0
      Due t = Expected b 0 (cond t width_head_kind head_kind) (cond t width_head_length head_length)

      there : (t : Bool) → eqb (word b 2) width_head_kind ≡ t → Due t → Pairs
      there true e d = inr d
      there false e d = inl d

      back_plain : Expected b 0 head_kind head_length → Due (eqb (word b 2) width_head_kind)
      back_plain e = rw (ne_eqb (word b 2) width_head_kind (λ k. omega (arith, k, e.its_kind))) e

      back_stated : Expected b 0 width_head_kind width_head_length → Due (eqb (word b 2) width_head_kind)
      back_stated e = rw (eq-eqb (word b 2) width_head_kind e.its_kind) e

  head-refused : RefusedBy (head_tests b) (head_refusal b) 0
  unfolding head_refusal
  head-refused =
      second-same (Whole b 0) (HeadRight b) expected_head
      (more-refused b 0 (head_kind_in b) (head_length_in b) (omega (arith, length-due b)) (head_in_range (head_at b) && width_in_range (word b 2) (head_at b).width) (HeadRight b) 9 (omega arith) (head_says b))

  -- operation k behind the operations os
  abbrev tests-behind : ℕ → ℕ → List Operation → ℕ → List Test
  tests-behind s n os k =
      record_tests b (operation_place (head_length_in b) k) operation_kind operation_length
      ++ (tested 9 (operation_place (head_length_in b) k) (OperationLimits (read_limits s) (n + k) (operation_at b k))
      ∷ tested 10 (operation_place (head_length_in b) k) (WidthRight (read_limits s) n (λ xs. operation_value (machine xs os) (operation_at b k)) (operation_at b k).width)
      ∷ [])

  operation-refused : (s n : ℕ) (os : List Operation) → RefusedBy (tests-behind s n os (length os)) (operation_refusal b s n os) (operation_place (head_length_in b) (length os))
  unfolding operation_refusal
  operation-refused s n os =
      let o = operation_at b (length os) in
      fields-refused b (operation_place (head_length_in b) (length os)) operation_kind operation_length (omega arith) (operation_in_range (n + length os) o) (width_right o.width (operation_width s n os o))
      (OperationLimits (read_limits s) (n + length os) o) (WidthRight (read_limits s) n (λ xs. operation_value (machine xs os) o) o.width)
      (operation_says s (n + length os) o) (operation-width_says s n os o)

  each-operation-refused : (s n k : ℕ) → RefusedBy (operation_tests b s n k) (operation_refusal b s n (first_operations b k)) (operation_place (head_length_in b) k)
  each-operation-refused s n k =
      let os = first_operations b k in
      subst (λ j. RefusedBy (tests-behind s n os j) (operation_refusal b s n os) (operation_place (head_length_in b) j)) (length-first (operation_at b) k) (operation-refused s n os)

  output-refused : (s n : ℕ) (os : List Operation) (i : ℕ) → RefusedBy (output_tests b s n os i) (output_refusal b s n os i) (output_place (head_length_in b) (length os) i)
  unfolding output_refusal
  output-refused s n os i =
      let o = output_at b (length os) i in
      fields-refused b (output_place (head_length_in b) (length os) i) output_kind output_length (omega arith) (output_in_range (n + length os) o) (width_right o.width (output_width s n os o))
      (OutputLimits (read_limits s) (n + length os) o) (WidthRight (read_limits s) n (λ xs. output_value (machine xs os) o) o.width)
      (output_says s (n + length os) o) (output-width_says s n os o)

  each-output-refused : (s n : ℕ) (os : List Operation) (i : ℕ)
      → RefusedBy (output_tests b s n os i) (output_refusal b s n os (length (first_outputs b (length os) i))) (output_place (head_length_in b) (length os) i)
  each-output-refused s n os i = rw (length-first (output_at b (length os)) i) (output-refused s n os i)

  totals-refused : (place : ℕ) (h : Head) (os : List Operation)
      → RefusedBy (record_tests b place totals_kind totals_length ++ (tested 11 place (TotalsRight h os (totals_at b place)) ∷ [])) (totals_refusal b place h os) place
  unfolding totals_refusal
  totals-refused place h os =
      more-refused b place totals_kind totals_length (omega arith) (totals_right h os (totals_at b place)) (TotalsRight h os (totals_at b place)) 11 (omega arith) (totals_says h os (totals_at b place))

  leftover_refused : (place : ℕ) → RefusedBy (tested 12 place (length b ≤ place) ∷ []) (leftover_refusal b place) place
  leftover_refused place = go (ltb place (length b)) refl
    where
      go : (t : Bool) → ltb place (length b) ≡ t → RefusedBy (tested 12 place (length b ≤ place) ∷ []) (elim t [ true ↦ 12 | false ↦ 0 ]) place
      go true e = inr (omega arith, inl (λ l. omega (arith, ltb-true place (length b) e), refl, refl))
      go false e = inl (refl, (ltb-false place (length b) e, tt))

  -- ---- the whole netlist

  abbrev rest-of-totals : ℕ → Head → List Operation → List Output → Totals → Reading Netlist
  rest-of-totals place h os outputs t =
      read_record (leftover_refusal b (place + totals_length)) (place + totals_length) (record { head = h; operations = os; outputs = outputs; totals = t })

  abbrev rest-of-outputs : Head → List Operation → List Output → Reading Netlist
  rest-of-outputs h os outputs =
      let place = totals_place (head_length_in b) (length os) (length outputs) in
      and_then (read_totals b place h os) (rest-of-totals place h os outputs)

  totals_decided : (h : Head) (os : List Operation) (outputs : List Output)
      → let place = totals_place (head_length_in b) (length os) (length outputs) in
      Decided (totals_tests b place h os) (rest-of-outputs h os outputs)
      (accepted (record { head = h; operations = os; outputs = outputs; totals = totals_at b place })) refused
  totals_decided h os outputs =
      let place = totals_place (head_length_in b) (length os) (length outputs) in
      let t = totals_at b place in
      let net : Netlist = record { head = h; operations = os; outputs = outputs; totals = t } in
      then_decided (record_tests b place totals_kind totals_length ++ (tested 11 place (TotalsRight h os t) ∷ [])) (tested 12 (place + totals_length) (length b ≤ place + totals_length) ∷ [])
      (read_totals b place h os) (rest-of-totals place h os outputs) t net
      (record_decided (record_tests b place totals_kind totals_length ++ (tested 11 place (TotalsRight h os t) ∷ [])) (totals_refusal b place h os) place t (totals-refused place h os))
      (record_decided (tested 12 (place + totals_length) (length b ≤ place + totals_length) ∷ []) (leftover_refusal b (place + totals_length)) (place + totals_length) net (leftover_refused (place + totals_length)))

  pub read_decided : Decided (read_tests b) (read_netlist b) (accepted (netlist_in b)) refused
  unfolding read_tests read_netlist
  read_decided =
      let h = head_at b in
      let os = operations_in b in
      let outputs = outputs_in b in
      let net = netlist_in b in
      let tests = totals_tests b (totals_place_in b) h os in
      let behind-outputs = first_tests (output_tests b h.width h.n os) h.m ++ tests in
      let behind-head = first_tests (operation_tests b h.width h.n) h.operations ++ behind-outputs in
      then_decided (head_tests b) behind-head (read_head b)
      (λ h. and_then (read_operations b h) (λ os. and_then (read_outputs b h os) (rest-of-outputs h os))) h net
      (record_decided (head_tests b) (head_refusal b) 0 h head-refused)
      (then_decided (first_tests (operation_tests b h.width h.n) h.operations) behind-outputs (read_operations b h)
      (λ os. and_then (read_outputs b h os) (rest-of-outputs h os)) os net
      (records_decided (operation_refusal b h.width h.n) (operation_place (head_length_in b)) (operation_at b) (operation_tests b h.width h.n) (each-operation-refused h.width h.n) h.operations)
      (then_decided (first_tests (output_tests b h.width h.n os) h.m) tests (read_outputs b h os) (rest-of-outputs h os) outputs net
      (records_decided (λ before. output_refusal b h.width h.n os (length before)) (output_place (head_length_in b) (length os)) (output_at b (length os)) (output_tests b h.width h.n os)
      (each-output-refused h.width h.n os) h.m)
      (totals_decided h os outputs)))

-- where all pass, the head's width is a sample width
pub width-passes : (b : List ℕ) → AllPass (read_tests b) → SampleWidth (head_at b).width
unfolding read_tests
width-passes b all =
    let h = head_at b in
    let os = operations_in b in
    (all_split (head_tests b) (first_tests (operation_tests b h.width h.n) h.operations
    ++ (first_tests (output_tests b h.width h.n os) h.m ++ totals_tests b (totals_place_in b) h os)) all).0.1.1.0.limits.width

never_both : {A : Type 0} (x : A) (r p : ℕ) → accepted x ≡ refused r p → ⊥
never_both x r p e = let z : ◌≡◌ {A = ℕ} 0 1 = cc in omega arith

one-refusal : {A : Type 0} (r p s q : ℕ) → ◌≡◌ {A = Reading A} (refused r p) (refused s q) → (r ≡ s) × (p ≡ q)
one-refusal r p s q e = (cc, cc)

-- where read refuses, number and place are those of the first test that fails
pub reading_refused : (b : List ℕ) (r place : ℕ) → (read_netlist b ≡ refused r place) ↔ FirstFails (read_tests b) r place
reading_refused b r place =
    declined_first (read_tests b) (read_netlist b) (accepted (netlist_in b)) refused (read_decided b) one-refusal r place (never_both (netlist_in b) r place)

-- where it accepts, all pass
pub reading_accepted : (b : List ℕ) → (read_netlist b ≡ accepted (netlist_in b)) ↔ AllPass (read_tests b)
reading_accepted b = passed_all (read_tests b) (read_netlist b) (accepted (netlist_in b)) refused (read_decided b) (λ r p h. never_both (netlist_in b) r p)

-- and the netlist it reads is the one in the bytes
pub reading_netlist : (b : List ℕ) (net : Netlist) → read_netlist b ≡ accepted net → netlist_in b ≡ net
reading_netlist b net e = go (read_decided b)
  where
    go : Decided (read_tests b) (read_netlist b) (accepted (netlist_in b)) refused → netlist_in b ≡ net
    go (inl a) = let same : accepted (netlist_in b) ≡ accepted net = sym a.0 ∙ e in cc
    go (inr f) = absurd (never_both net f.0 f.1 (sym e ∙ f.3))

-- ---- the same of read's whole answer

module _ (b : List ℕ) where
  pub read-answer_decided : Decided (read_tests b) (read_answer b) (read_accepted (netlist_in b)) read_refused
  unfolding read_answer
  read-answer_decided = answer_decided (read_tests b) (read_netlist b) (accepted (netlist_in b)) refused read_answer_of (read_decided b)

  other_number : (r place : ℕ) → 0 < r → read_accepted (netlist_in b) ≡ read_refused r place → ⊥
  other_number r place h e = omega (arith, ap (λ (a : ReadAnswer). a.refusal) e)

  -- a refusal, with all counts 0, is that of the first test that fails
  pub read_refuses : (r place : ℕ) → 0 < r → (read_answer b ≡ read_refused r place) ↔ FirstFails (read_tests b) r place
  read_refuses r place h =
      declined_first (read_tests b) (read_answer b) (read_accepted (netlist_in b)) read_refused read-answer_decided
      (λ r p s q e. (ap (λ (a : ReadAnswer). a.refusal) e, ap (λ (a : ReadAnswer). a.place) e)) r place (other_number r place h)

  -- an answer without a refusal says that all pass
  pub read-passes : (read_answer b ≡ read_accepted (netlist_in b)) ↔ AllPass (read_tests b)
  read-passes = passed_all (read_tests b) (read_answer b) (read_accepted (netlist_in b)) read_refused read-answer_decided other_number
