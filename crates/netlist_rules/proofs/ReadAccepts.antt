-- Read accepts bytes if and only if they are the bytes of a netlist, and then that netlist is what it reads.
-- Assumes nothing.
use Prim.Native.Nat.{ℕ, zero, suc, ◌+◌, ◌-◌, ◌<◌}
use mathlib.Core.Path.{◌≡◌, refl, sym, ◌∙◌, ap, ap₂, subst, subst₂}
use mathlib.Core.Bool.{Bool, true, false, cond}
use mathlib.Core.Logic.{◌↔◌, ◌⊎◌, inl, inr}
use mathlib.Core.List.{List, [], ◌∷◌, ◌++◌, append_assoc, append-nil, flat_map}
use native.Mathlib.Omega.{arith}
use lib.Dec.{eqb}
use lib.IntN.{ℤ}
use lib.ListN.{length, get_or, drop, length-append, drop_of_length-le}
use lib.Seq.{append_snoc}
use borrow.Author.Tests.{eq-eqb, ne_eqb}
use Rattle.limits.specs.Limits.{unstated_width}
use Rattle.layout_rules.specs.declared.Head.{Head}
use Rattle.layout_rules.specs.declared.Operation.{Operation}
use Rattle.layout_rules.specs.declared.Output.{Output}
use Rattle.layout_rules.specs.declared.StepNumbers.{StepNumbers}
use Rattle.layout_rules.specs.Bytes.{word}
use Rattle.layout_rules.specs.Records.{Netlist, head_kind, head_length, width_head_kind, width_head_length, head_kind_of, head_length_of, head_payload, head_bytes, head_of, operation_kind, operation_length, operation_payload, operation_bytes, output_kind, output_length, output_payload, output_bytes, totals_kind, totals_length, totals_payload, totals_bytes, netlist_bytes}
use Rattle.layout_rules.specs.Places.{operation_place, output_place, totals_place, payload_of, head_length_in, head_at, operation_at, output_at, totals_at, first_records, first_operations, first_outputs, operations_in, outputs_in, totals_place_in, netlist_in}
use Rattle.layout_rules.specs.Step.{step_refusal, step_numbers}
use Rattle.layout_rules.specs.Tests.{AllPass, first_tests}
use Rattle.layout_rules.proofs.LittleEndian.{AreBytes}
use Rattle.layout_rules.proofs.Accepted.{not-refused, accepted-step, numbers_accepted}
use Rattle.layout_rules.proofs.FirstRecords.{length-first, first_split, first-before, first-is}
use Rattle.layout_rules.proofs.Found.{accepted as step-accepted, numbers_refusal, next_place}
use Rattle.layout_rules.proofs.InBytes.{length-due, width-unstated, length-is-due, head-kind-there}
use Rattle.layout_rules.proofs.Lengths.{head-length, operation-place, output-place, totals-place, length-netlist}
use Rattle.layout_rules.proofs.RecordKinds.{Kind, Found, bytes_of, found, there, head as head-kind, operation as operation-kind, output as output-kind, totals as totals-kind}
use Rattle.layout_rules.proofs.TestLaws.{Decided, all_append, all_split, first-all, all_first}
use Rattle.board_rules.specs.Machine.{machine, entry_at, operation_value}
use Rattle.board_rules.specs.Netlist.{OperationLimits, WidthRight, IsOperation, IsOutput, IsNetlist}
use Rattle.board_rules.proofs.MachineLaws.{machine_keeps_after, machine-last}
use Rattle.board_rules.proofs.WidthLaws.{width_same}
use Rattle.netlist_rules.specs.Read.{Reading, refused, accepted, read_netlist, read_answer, read_answer_of, read_refused, read_accepted, sample_width_of, sample_width_answer}
use Rattle.netlist_rules.specs.declared.ReadAnswer.{ReadAnswer}
use Rattle.netlist_rules.specs.Exact.{read_limits, IsNetlistBytes}
use Rattle.netlist_rules.specs.Tests.{Whole, Expected, HeadRight, head_tests, operation_tests, output_tests, totals_tests, read_tests}
use Rattle.netlist_rules.proofs.ReadTests.{reading_accepted, reading_netlist, read-answer_decided}

-- ---- a record that passes 7 and 8 stands at its place, and one that stands there passes

module _ {A : Type 0} (kind : Kind A) (b : List ℕ) (place size : ℕ) (x : A) where
  stands : AreBytes b → x ≡ kind.fields (payload_of b place (4 + size)) → size ≡ kind.size x
      → Whole b place → Expected b place (kind.number x) (4 + size) → drop place b ≡ bytes_of kind x ++ drop (place + (4 + size)) b
  stands all read sized w e = (there kind b place next size x all read sized numbers (omega (arith, next_place b place all (kind.number x) next numbers))).0
    where
      next : ℕ
      next = place + (4 + size)

      step : step_refusal b place ≡ 0
      step = sym (not-refused b place (record { header = w.header; whole = w.within; least = omega (arith, e.its_length) }))

      numbers : step_numbers b place ≡ step-accepted (kind.number x) next
      numbers = sym (numbers_accepted b place step) ∙ ap₂ (λ k l. step-accepted k (place + l)) e.its_kind e.its_length

passes : (b : List ℕ) (place number size : ℕ) → step_numbers b place ≡ step-accepted number (place + (4 + size))
    → Whole b place × Expected b place number (4 + size)
passes b place number size e =
    let step : step_refusal b place ≡ 0 = sym (numbers_refusal b place) ∙ ap (λ (s : StepNumbers). s.refusal) e in
    let holds = accepted-step b place step in
    let numbers = numbers_accepted b place step ∙ e in (
      record { header = holds.header; within = holds.whole },
      record { its_kind = ap (λ (s : StepNumbers). s.kind) numbers; its_length = omega (arith, ap (λ (s : StepNumbers). s.next) numbers) },
    )

-- ---- the head that passes is the one for its width, and the other way

module _ (b : List ℕ) where
  abbrev Pairs : Type 0
  Pairs = Expected b 0 head_kind head_length ⊎ Expected b 0 width_head_kind width_head_length

  pub head_expected : Pairs → HeadRight b → Expected b 0 (head_kind_of (head_at b).width) (head_length_of (head_at b).width)
  unfolding head_kind_of head_length_of head_length_in
  head_expected (inl e) r =
      let none : head_length_in b ≡ width_head_length → ⊥ = (λ l. let short : head_length_in b ≡ head_length = rw (ne_eqb (word b 2) width_head_kind (λ k. omega (arith, k, e.its_kind))) refl in omega (arith, l, short)) in
      rw (eq-eqb (head_at b).width unstated_width (sym (width-unstated b none))) e
  head_expected (inr e) r = rw (ne_eqb (head_at b).width unstated_width (r.stated e.its_kind)) e

  head-pair : (s : ℕ) → Expected b 0 (head_kind_of s) (head_length_of s) → Pairs
  unfolding head_kind_of head_length_of
  head-pair s = go (eqb s unstated_width)
    where
      go : (t : Bool) → Expected b 0 (cond t head_kind width_head_kind) (cond t head_length width_head_length) → Pairs
      go true e = inl e
      go false e = inr e

  head-stated : (s : ℕ) → word b 2 ≡ head_kind_of s → word b 2 ≡ width_head_kind → s ≡ unstated_width → ⊥
  unfolding head_kind_of
  head-stated s e k h = let other : head_kind_of s ≡ head_kind = rw (eq-eqb s unstated_width h) refl in omega (arith, e, k, other)

-- ---- records one after another

pub flat_snoc : {A : Type 0} (bytes : A → List ℕ) (xs : List A) (x : A) → flat_map bytes (xs ++ (x ∷ [])) ≡ flat_map bytes xs ++ bytes x
unfolding flat_map
flat_snoc bytes [] x = append-nil (bytes x)
flat_snoc bytes (y ∷ ys) x = ap (λ l. bytes y ++ l) (flat_snoc bytes ys x) ∙ sym (append_assoc (bytes y) (flat_map bytes ys) (bytes x))

stretch : {A : Type 0} (bytes : A → List ℕ) (b : List ℕ) (place : ℕ → ℕ) (fields : ℕ → A) (k : ℕ)
    → ((i : ℕ) → i < k → drop (place i) b ≡ bytes (fields i) ++ drop (place (suc i)) b)
    → drop (place 0) b ≡ flat_map bytes (first_records fields k) ++ drop (place k) b
unfolding first_records flat_map
stretch bytes b place fields zero each = refl
stretch bytes b place fields (suc k) each =
    let before = first_records fields k in
    stretch bytes b place fields k (λ i h. each i (omega arith))
    ∙ ap (λ l. flat_map bytes before ++ l) (each k (omega arith))
    ∙ sym (append_assoc (flat_map bytes before) (bytes (fields k)) (drop (place (suc k)) b))
    ∙ ap (λ l. l ++ drop (place (suc k)) b) (sym (flat_snoc bytes before (fields k)))

-- ---- an operation's entry is the value that the operation appends

entry_value_lem : (xs : List ℤ) (before after : List Operation) (o : Operation)
    → entry_at (machine xs (before ++ o ∷ after)) (length xs + length before) ≡ operation_value (machine xs before) o
entry_value_lem xs before after o =
    ap (λ os. entry_at (machine xs os) (length xs + length before)) (sym (append_snoc before o after))
    ∙ machine_keeps_after xs (before ++ (o ∷ [])) after (length xs + length before) (omega (arith, length-append before (o ∷ [])))
    ∙ machine-last xs before o

module _ (s n : ℕ) (before after : List Operation) (o : Operation) where
  same-value : (xs : List ℤ) → length xs ≡ n → entry_at (machine xs (before ++ o ∷ after)) (n + length before) ≡ operation_value (machine xs before) o
  same-value xs h = ap (λ k. entry_at (machine xs (before ++ o ∷ after)) (k + length before)) (sym h) ∙ entry_value_lem xs before after o

  width-among-all : WidthRight (read_limits s) n (λ xs. operation_value (machine xs before) o) o.width
      → WidthRight (read_limits s) n (λ xs. entry_at (machine xs (before ++ o ∷ after)) (n + length before)) o.width
  width-among-all r = record { width = width_same _ _ (λ xs h. sym (same-value xs h)) r.width; narrow = r.narrow }

  width-behind_earlier : WidthRight (read_limits s) n (λ xs. entry_at (machine xs (before ++ o ∷ after)) (n + length before)) o.width
      → WidthRight (read_limits s) n (λ xs. operation_value (machine xs before) o) o.width
  width-behind_earlier r = record { width = width_same _ _ same-value r.width; narrow = r.narrow }

-- ---- bytes that pass all tests are those of a netlist

module _ (b : List ℕ) (all : AreBytes b) (passed : AllPass (read_tests b)) where
  abbrev h : Head
  h = head_at b

  abbrev os : List Operation
  os = operations_in b

  abbrev outputs : List Output
  outputs = outputs_in b

  in_parts : AllPass (head_tests b) × (AllPass (first_tests (operation_tests b h.width h.n) h.operations)
      × (AllPass (first_tests (output_tests b h.width h.n os) h.m) × AllPass (totals_tests b (totals_place_in b) h os)))
  unfolding read_tests
  in_parts =
      let behind-outputs = first_tests (output_tests b h.width h.n os) h.m ++ totals_tests b (totals_place_in b) h os in
      let x = all_split (head_tests b) (first_tests (operation_tests b h.width h.n) h.operations ++ behind-outputs) passed in
      let y = all_split (first_tests (operation_tests b h.width h.n) h.operations) behind-outputs x.1 in
      let z = all_split (first_tests (output_tests b h.width h.n os) h.m) (totals_tests b (totals_place_in b) h os) y.1 in
      (x.0, (y.0, (z.0, z.1)))

  operation-passes : (k : ℕ) → k < h.operations → AllPass (operation_tests b h.width h.n k)
  operation-passes = all_first (operation_tests b h.width h.n) h.operations in_parts.1.0

  output-passes : (i : ℕ) → i < h.m → AllPass (output_tests b h.width h.n os i)
  output-passes = all_first (output_tests b h.width h.n os) h.m in_parts.1.1.0

  its_operation : (before after : List Operation) (o : Operation) → os ≡ before ++ o ∷ after → IsOperation (read_limits h.width) h.n os before o
  its_operation before after o e =
      let at = first-before (operation_at b) h.operations before after o e in
      let t = operation-passes (length before) at.0 in
      subst (λ l. IsOperation (read_limits h.width) h.n l before o) (sym e) (record {
        limits = subst (OperationLimits (read_limits h.width) (h.n + length before)) at.2 t.1.1.0;
        width = width-among-all h.width h.n before after o
            (subst₂ (λ l p. WidthRight (read_limits h.width) h.n (λ xs. operation_value (machine xs l) p) p.width) at.1 at.2 t.1.1.1.0);
      })

  its_output : (before after : List Output) (o : Output) → outputs ≡ before ++ o ∷ after → IsOutput (read_limits h.width) h.n os o
  its_output before after o e =
      let at = first-before (output_at b (length os)) h.m before after o e in
      let t = output-passes (length before) at.0 in
      subst (IsOutput (read_limits h.width) h.n os) at.2 (record { limits = t.1.1.0; width = t.1.1.1.0 })

  its_netlist : IsNetlist (read_limits h.width) (netlist_in b)
  its_netlist = record {
    head = in_parts.0.1.1.0.limits;
    count = length-first (operation_at b) h.operations;
    one_per_row = length-first (output_at b (length os)) h.m;
    operation = its_operation;
    output = its_output;
    totals = in_parts.1.1.1.1.1.0;
  }

  head_stands : b ≡ head_bytes h ++ drop (operation_place (head_length_in b) 0) b
  head_stands =
      let e = head_expected b in_parts.0.1.0 in_parts.0.1.1.0 in
      let due : head_length_in b ≡ head_length_of h.width = length-is-due b h.width e.its_kind in
      let size : 4 + (head_length_in b - 4) ≡ head_length_in b = omega (arith, length-due b) in
      stands head-kind b 0 (head_length_in b - 4) h all (ap (λ l. head_of (payload_of b 0 l)) (sym size)) (ap (λ l. l - 4) due) in_parts.0.0
      (record { its_kind = e.its_kind; its_length = e.its_length ∙ sym due ∙ sym size })
      ∙ ap (λ l. head_bytes h ++ drop l b) next
    where
      next : 0 + (4 + (head_length_in b - 4)) ≡ operation_place (head_length_in b) 0
      next = omega (arith, length-due b)

  operations_stand : drop (operation_place (head_length_in b) 0) b ≡ flat_map operation_bytes os ++ drop (output_place (head_length_in b) (length os) 0) b
  unfolding operation_payload
  operations_stand =
      stretch operation_bytes b (operation_place (head_length_in b)) (operation_at b) h.operations
      (λ i l. let t = operation-passes i l in stands operation-kind b (operation_place (head_length_in b) i) (operation_length - 4) (operation_at b i) all refl refl t.0 t.1.0 ∙ ap (λ p. operation_bytes (operation_at b i) ++ drop p b) (next i))
      ∙ ap (λ p. flat_map operation_bytes os ++ drop p b) end
    where
      next : (i : ℕ) → operation_place (head_length_in b) i + operation_length ≡ operation_place (head_length_in b) (suc i)
      next i = omega arith

      end : operation_place (head_length_in b) h.operations ≡ output_place (head_length_in b) (length os) 0
      end = omega (arith, length-first (operation_at b) h.operations)

  outputs_stand : drop (output_place (head_length_in b) (length os) 0) b ≡ flat_map output_bytes outputs ++ drop (totals_place_in b) b
  unfolding output_payload
  outputs_stand =
      stretch output_bytes b (output_place (head_length_in b) (length os)) (output_at b (length os)) h.m
      (λ i l. let t = output-passes i l in stands output-kind b (output_place (head_length_in b) (length os) i) (output_length - 4) (output_at b (length os) i) all refl refl t.0 t.1.0 ∙ ap (λ p. output_bytes (output_at b (length os) i) ++ drop p b) (next i))
      ∙ ap (λ k. flat_map output_bytes outputs ++ drop (output_place (head_length_in b) (length os) k) b) (sym (length-first (output_at b (length os)) h.m))
    where
      next : (i : ℕ) → output_place (head_length_in b) (length os) i + output_length ≡ output_place (head_length_in b) (length os) (suc i)
      next i = omega arith

  totals_stand : drop (totals_place_in b) b ≡ totals_bytes (totals_at b (totals_place_in b))
  unfolding totals_payload
  totals_stand =
      let t = in_parts.1.1.1 in
      stands totals-kind b (totals_place_in b) (totals_length - 4) (totals_at b (totals_place_in b)) all refl refl t.0 t.1.0
      ∙ ap (λ l. totals_bytes (totals_at b (totals_place_in b)) ++ l) (drop_of_length-le b {i = totals_place_in b + totals_length} t.1.1.1.0)
      ∙ append-nil (totals_bytes (totals_at b (totals_place_in b)))

  pub all_pass_netlist : IsNetlistBytes b (netlist_in b)
  unfolding netlist_bytes
  all_pass_netlist = record {
    netlist = its_netlist;
    bytes =
        head_stands
        ∙ ap (λ l. head_bytes h ++ l) (operations_stand
        ∙ ap (λ l. flat_map operation_bytes os ++ l) (outputs_stand
        ∙ ap (λ l. flat_map output_bytes outputs ++ l) totals_stand));
  }

reading_only : (b : List ℕ) → AreBytes b → (net : Netlist) → read_netlist b ≡ accepted net → IsNetlistBytes b net
reading_only b all net e =
    let same = reading_netlist b net e in
    subst (IsNetlistBytes b) same (all_pass_netlist b all ((reading_accepted b).0 (e ∙ ap accepted (sym same))))

-- ---- the bytes of a netlist hold that netlist

module _ (net : Netlist) (count : length net.operations ≡ net.head.operations) (one_per_row : length net.outputs ≡ net.head.m) where
  abbrev bytes : List ℕ
  bytes = netlist_bytes net

  abbrev behind-head : List ℕ
  behind-head = flat_map operation_bytes net.operations ++ (flat_map output_bytes net.outputs ++ totals_bytes net.totals)

  head_found : Found head-kind bytes 0 net.head behind-head
  unfolding netlist_bytes head_payload
  head_found = found head-kind bytes 0 net.head behind-head refl

  head-kind_found : word bytes 2 ≡ head_kind_of net.head.width
  unfolding netlist_bytes
  head-kind_found = head-kind-there bytes net.head behind-head refl

  due : head_length_in bytes ≡ head_length_of net.head.width
  due = length-is-due bytes net.head.width head-kind_found

  operation_found : (i : ℕ) (d : Operation) → i < length net.operations
      → Found operation-kind bytes (operation_place (head_length_in bytes) i) (get_or net.operations i d)
      (flat_map operation_bytes (drop (suc i) net.operations) ++ (flat_map output_bytes net.outputs ++ totals_bytes net.totals))
  unfolding operation_payload
  operation_found i d l =
      found operation-kind bytes (operation_place (head_length_in bytes) i) (get_or net.operations i d)
      (flat_map operation_bytes (drop (suc i) net.operations) ++ (flat_map output_bytes net.outputs ++ totals_bytes net.totals)) (ap (λ h. drop (operation_place h i) bytes) due ∙ operation-place net i d l)

  output_found : (i : ℕ) (d : Output) → i < length net.outputs
      → Found output-kind bytes (output_place (head_length_in bytes) (length net.operations) i) (get_or net.outputs i d) (flat_map output_bytes (drop (suc i) net.outputs) ++ totals_bytes net.totals)
  unfolding output_payload
  output_found i d l =
      found output-kind bytes (output_place (head_length_in bytes) (length net.operations) i) (get_or net.outputs i d) (flat_map output_bytes (drop (suc i) net.outputs) ++ totals_bytes net.totals)
      (ap (λ h. drop (output_place h (length net.operations) i) bytes) due ∙ output-place net i d l)

  totals_found : Found totals-kind bytes (totals_place (head_length_in bytes) (length net.operations) (length net.outputs)) net.totals []
  unfolding totals_payload
  totals_found =
      found totals-kind bytes (totals_place (head_length_in bytes) (length net.operations) (length net.outputs)) net.totals []
      (ap (λ h. drop (totals_place h (length net.operations) (length net.outputs)) bytes) due ∙ totals-place net ∙ sym (append-nil (totals_bytes net.totals)))

  head-size : 4 + (head_length_of net.head.width - 4) ≡ head_length_of net.head.width
  head-size = omega (arith, head-length net.head.width)

  head_back : head_at bytes ≡ net.head
  head_back = ap (λ l. head_of (payload_of bytes 0 l)) (due ∙ sym head-size) ∙ head_found.fields_read

  operations_back : operations_in bytes ≡ net.operations
  unfolding operation_payload
  operations_back =
      ap (λ (h : Head). first_operations bytes h.operations) head_back
      ∙ first-is (operation_at bytes) net.head.operations net.operations count (λ i d l. (operation_found i d (omega arith)).fields_read)

  outputs_back : outputs_in bytes ≡ net.outputs
  unfolding output_payload
  outputs_back =
      ap₂ (λ (k : ℕ) (h : Head). first_outputs bytes k h.m) (ap length operations_back) head_back
      ∙ first-is (output_at bytes (length net.operations)) net.head.m net.outputs one_per_row (λ i d l. (output_found i d (omega arith)).fields_read)

  totals-place_back : totals_place_in bytes ≡ totals_place (head_length_in bytes) (length net.operations) (length net.outputs)
  totals-place_back = ap₂ (totals_place (head_length_in bytes)) (ap length operations_back) (ap length outputs_back)

  totals_back : totals_at bytes (totals_place_in bytes) ≡ net.totals
  unfolding totals_payload
  totals_back = ap (totals_at bytes) totals-place_back ∙ totals_found.fields_read

  pub netlist_back : netlist_in bytes ≡ net
  netlist_back = λ i. record { head = head_back i; operations = operations_back i; outputs = outputs_back i; totals = totals_back i }

  -- ---- and where it is a netlist, they pass all tests

  module _ (is : IsNetlist (read_limits (head_at bytes).width) (netlist_in bytes)) where
    abbrev s : ℕ
    s = (head_at bytes).width

    abbrev n : ℕ
    n = (head_at bytes).n

    head-passes : AllPass (head_tests bytes)
    head-passes =
        let w = net.head.width in
        let r = passes bytes 0 (head_kind_of w) (head_length_of w - 4) head_found.numbers in
        let same : s ≡ w = ap (λ (h : Head). h.width) head_back in (
          r.0,
          (
            head-pair bytes w (record { its_kind = r.1.its_kind; its_length = r.1.its_length ∙ head-size }),
            (record { limits = is.head; stated = λ k e. head-stated bytes w head-kind_found k (sym same ∙ e) }, tt),
          ),
        )

    operation-passes-there : (i : ℕ) → i < (head_at bytes).operations → AllPass (operation_tests bytes s n i)
    unfolding operation_payload
    operation-passes-there i l =
        let before = first_operations bytes i in
        let after = drop (suc i) (operations_in bytes) in
        let o = operation_at bytes i in
        let split : operations_in bytes ≡ before ++ o ∷ after = first_split (operation_at bytes) (head_at bytes).operations i l in
        let it = is.operation before after o split in
        let r = passes bytes (operation_place (head_length_in bytes) i) operation_kind (operation_length - 4) (operation_found i o (omega (arith, count, ap (λ (h : Head). h.operations) head_back))).numbers in (
          r.0,
          (
            r.1,
            (
              subst (λ k. OperationLimits (read_limits s) (n + k) o) (length-first (operation_at bytes) i) it.limits,
              (
                width-behind_earlier s n before after o
                    (subst (λ l. WidthRight (read_limits s) n (λ xs. entry_at (machine xs l) (n + length before)) o.width) split it.width),
                tt,
              ),
            ),
          ),
        )

    output-passes-there : (i : ℕ) → i < (head_at bytes).m → AllPass (output_tests bytes s n (operations_in bytes) i)
    unfolding output_payload
    output-passes-there i l =
        let fields = output_at bytes (length (operations_in bytes)) in
        let split = first_split fields (head_at bytes).m i l in
        let it = is.output (first_records fields i) (drop (suc i) (outputs_in bytes)) (fields i) split in
        let found_there = (output_found i (fields i) (omega (arith, one_per_row, ap (λ (h : Head). h.m) head_back))).numbers in
        let r = subst (λ k. Whole bytes (output_place (head_length_in bytes) k i) × Expected bytes (output_place (head_length_in bytes) k i) output_kind output_length) (ap length (sym operations_back))
        (passes bytes (output_place (head_length_in bytes) (length net.operations) i) output_kind (output_length - 4) found_there) in
        (r.0, (r.1, (it.limits, (it.width, tt))))

    totals_pass : AllPass (totals_tests bytes (totals_place_in bytes) (head_at bytes) (operations_in bytes))
    unfolding totals_payload
    totals_pass =
        let r = subst (λ p. Whole bytes p × Expected bytes p totals_kind totals_length) (sym totals-place_back)
        (passes bytes (totals_place (head_length_in bytes) (length net.operations) (length net.outputs)) totals_kind (totals_length - 4) totals_found.numbers) in
        (r.0, (r.1, (is.totals, (omega (arith, length-netlist net, totals-place_back, due), tt))))

    netlist-passes : AllPass (read_tests bytes)
    unfolding read_tests
    netlist-passes =
        let os = operations_in bytes in
        let behind-outputs = first_tests (output_tests bytes s n os) (head_at bytes).m ++ totals_tests bytes (totals_place_in bytes) (head_at bytes) os in
        all_append (head_tests bytes) (first_tests (operation_tests bytes s n) (head_at bytes).operations ++ behind-outputs) head-passes
        (all_append (first_tests (operation_tests bytes s n) (head_at bytes).operations) behind-outputs
        (first-all (operation_tests bytes s n) (head_at bytes).operations operation-passes-there)
        (all_append (first_tests (output_tests bytes s n os) (head_at bytes).m) (totals_tests bytes (totals_place_in bytes) (head_at bytes) os)
        (first-all (output_tests bytes s n os) (head_at bytes).m output-passes-there) totals_pass))

pub reading_of : (b : List ℕ) (net : Netlist) → IsNetlistBytes b net → read_netlist b ≡ accepted net
reading_of b net is =
    let back = netlist_back net is.netlist.count is.netlist.one_per_row in
    ap read_netlist is.bytes
    ∙ (reading_accepted (netlist_bytes net)).1 (netlist-passes net is.netlist.count is.netlist.one_per_row (subst (λ x. IsNetlist (read_limits x.head.width) x) (sym back) is.netlist))
    ∙ ap accepted back

-- read accepts b if and only if b is the bytes of a netlist, and reads that netlist
pub reads_netlist : (b : List ℕ) → AreBytes b → (net : Netlist) → (read_netlist b ≡ accepted net) ↔ IsNetlistBytes b net
reads_netlist b all net = (reading_only b all net, reading_of b net)

-- bytes are those of one netlist at most
pub one-netlist : (b : List ℕ) (first second : Netlist) → IsNetlistBytes b first → IsNetlistBytes b second → first ≡ second
one-netlist b first second f s = sym (reading_netlist b first (reading_of b first f)) ∙ reading_netlist b second (reading_of b second s)

-- then the answer is that netlist's m, n, operations and depth
pub read_answer_lem : (b : List ℕ) (net : Netlist) → IsNetlistBytes b net → read_answer b ≡ read_accepted net
unfolding read_answer
read_answer_lem b net is = ap read_answer_of (reading_of b net is)

-- an answer without a refusal is given if and only if b is the bytes of a netlist
pub read-accepts : (b : List ℕ) → AreBytes b → ((read_answer b).refusal ≡ 0) ↔ ((net : Netlist) × IsNetlistBytes b net)
read-accepts b all = (there (read-answer_decided b), λ is. ap (λ (a : ReadAnswer). a.refusal) (read_answer_lem b is.0 is.1))
  where
    there : Decided (read_tests b) (read_answer b) (read_accepted (netlist_in b)) read_refused → (read_answer b).refusal ≡ 0 → (net : Netlist) × IsNetlistBytes b net
    there (inl a) z = (netlist_in b, all_pass_netlist b all a.1)
    there (inr f) z = absurd (omega (arith, f.2, ap (λ (a : ReadAnswer). a.refusal) f.3))

-- sample_width answers with the netlist's width, and refuses as read does
pub sample-width-answer : (b : List ℕ) (net : Netlist) → IsNetlistBytes b net → sample_width_answer b ≡ record { refusal = 0; place = 0; width = net.head.width }
unfolding sample_width_answer
sample-width-answer b net is = ap sample_width_of (reading_of b net is)

pub sample-width_refuses : (b : List ℕ) → ((sample_width_answer b).refusal ≡ (read_answer b).refusal) × ((sample_width_answer b).place ≡ (read_answer b).place)
unfolding sample_width_answer read_answer
sample-width_refuses b = go (read_netlist b)
  where
    go : (x : Reading Netlist) → ((sample_width_of x).refusal ≡ (read_answer_of x).refusal) × ((sample_width_of x).place ≡ (read_answer_of x).place)
    go (refused r place) = (refl, refl)
    go (accepted net) = (refl, refl)
