-- The whole netlist: which refusal and which place read returns, part by part, and what stands in the bytes where it accepts.
-- Assumes nothing.
use Prim.Native.Nat.{ℕ, zero, suc, ◌+◌, ◌≤◌, ◌<◌}
use mathlib.Core.Path.{◌≡◌, refl, sym, ap, ap₂, ◌∙◌, subst}
use mathlib.Core.Bool.{Bool, true, false}
use mathlib.Core.List.{List}
use native.Mathlib.Omega.{arith}
use lib.IntN.{ℤ}
use lib.ListN.{length}
use borrow.Author.Tests.{lt-ltb, le-ltb}
use Rattle.layout_rules.specs.declared.Head.{Head}
use Rattle.layout_rules.specs.declared.Totals.{Totals}
use Rattle.layout_rules.specs.Records.{Netlist, operation_length, output_length, totals_length}
use Rattle.layout_rules.specs.Places.{operation_place, output_place, totals_place, head_length_in, head_at, operation_at, output_at, totals_at, first_records, first_operations, first_outputs, operations_in, outputs_in, totals_place_in, netlist_in}
use Rattle.layout_rules.proofs.FirstRecords.{length-first}
use Rattle.layout_rules.proofs.InBytes.{length-due}
use Rattle.board_rules.specs.Netlist.{HeadLimits, OperationLimits, OutputLimits}
use Rattle.netlist_rules.specs.Read.{refused, accepted, head_refusal, operation_refusal, output_refusal, totals_refusal, read_operations, read_outputs, leftover_refusal, read_netlist, read_refused, read_accepted, read_answer_of, read_answer, sample_width_of, sample_width_answer}
use Rattle.netlist_rules.specs.Exact.{read_limits}
use Rattle.netlist_read.specs.Tables.{FormsHeld, NetlistRead, NetlistHeld}
use Rattle.netlist_tests.proofs.RecordLaws.{head-due, operation-due, output-due, none-refused}

-- ---- which part is refused

abbrev leftover_of : Bool → ℕ
leftover_of t = elim t [ true ↦ 12 | false ↦ 0 ]

some_left : (b : List ℕ) (place : ℕ) → place < length b → leftover_refusal b place ≡ 12
some_left b place h = ap leftover_of (lt-ltb place (length b) h)

none_left : (b : List ℕ) (place : ℕ) → length b ≤ place → leftover_refusal b place ≡ 0
none_left b place h = ap leftover_of (le-ltb place (length b) h)

module _ (b : List ℕ) where
  pub head_declines : (head_refusal b ≡ 0 → ⊥) → read_netlist b ≡ refused (head_refusal b) 0
  unfolding read_netlist
  head_declines z = go (head_refusal b) refl
    where
      go : (r : ℕ) → head_refusal b ≡ r → read_netlist b ≡ refused (head_refusal b) 0
      go zero e = absurd (z e)
      go (suc r) e = rw e refl

  module _ (due : head_refusal b ≡ 0) where
    pub operations_decline : (r p : ℕ) → read_operations b (head_at b) ≡ refused r p → read_netlist b ≡ refused r p
    unfolding read_netlist
    operations_decline r p e = rw (due, e) refl

    module _ (all : read_operations b (head_at b) ≡ accepted (operations_in b)) where
      pub outputs_decline : (r p : ℕ) → read_outputs b (head_at b) (operations_in b) ≡ refused r p → read_netlist b ≡ refused r p
      unfolding read_netlist
      outputs_decline r p e = rw (due, all, e) refl

      module _ (rows : read_outputs b (head_at b) (operations_in b) ≡ accepted (outputs_in b)) where
        pub totals_decline : (totals_refusal b (totals_place_in b) (head_at b) (operations_in b) ≡ 0 → ⊥)
            → read_netlist b ≡ refused (totals_refusal b (totals_place_in b) (head_at b) (operations_in b)) (totals_place_in b)
        unfolding read_netlist
        totals_decline z = go (totals_refusal b (totals_place_in b) (head_at b) (operations_in b)) refl
          where
            go : (r : ℕ) → totals_refusal b (totals_place_in b) (head_at b) (operations_in b) ≡ r
                → read_netlist b ≡ refused (totals_refusal b (totals_place_in b) (head_at b) (operations_in b)) (totals_place_in b)
            go zero e = absurd (z e)
            go (suc r) e = rw (due, all, rows, e) refl

        module _ (right : totals_refusal b (totals_place_in b) (head_at b) (operations_in b) ≡ 0) where
          pub leftover : totals_place_in b + totals_length < length b → read_netlist b ≡ refused 12 (totals_place_in b + totals_length)
          unfolding read_netlist
          leftover h = rw (due, all, rows, right, some_left b (totals_place_in b + totals_length) h) refl

          pub all-accepted : length b ≤ totals_place_in b + totals_length → read_netlist b ≡ accepted (netlist_in b)
          unfolding read_netlist
          all-accepted h = rw (due, all, rows, right, none_left b (totals_place_in b + totals_length) h) refl

  pub totals-place : totals_place_in b ≡ totals_place (head_length_in b) (head_at b).operations (head_at b).m
  totals-place = omega (arith, length-first (operation_at b) (head_at b).operations, length-first (output_at b (length (operations_in b))) (head_at b).m)

  pub place_is : (start : ℕ) (h : Head) → start ≡ head_length_in b → h ≡ head_at b → totals_place start h.operations h.m ≡ totals_place_in b
  place_is start h d e = ap₂ (λ (k : ℕ) (x : Head). totals_place k x.operations x.m) d e ∙ sym totals-place

  -- ---- the same of a head that was read

  module _ (due : head_refusal b ≡ 0) (h : Head) (is : h ≡ head_at b) where
    pub operations-refused : {r p : ℕ} → read_operations b h ≡ refused r p → read_netlist b ≡ refused r p
    operations-refused e = operations_decline due _ _ (ap (read_operations b) (sym is) ∙ e)

    module _ (os : read_operations b h ≡ accepted (first_operations b h.operations)) where
      pub operations-accepted : read_operations b (head_at b) ≡ accepted (operations_in b)
      operations-accepted = subst (λ (x : Head). read_operations b x ≡ accepted (first_operations b x.operations)) is os

      pub outputs-refused : {r p : ℕ} → read_outputs b h (first_operations b h.operations) ≡ refused r p → read_netlist b ≡ refused r p
      outputs-refused e = outputs_decline due operations-accepted _ _ (ap (λ (x : Head). read_outputs b x (first_operations b x.operations)) (sym is) ∙ e)

      module _ (us : read_outputs b h (first_operations b h.operations) ≡ accepted (first_outputs b (length (first_operations b h.operations)) h.m)) where
        pub outputs-accepted : read_outputs b (head_at b) (operations_in b) ≡ accepted (outputs_in b)
        outputs-accepted = subst (λ (x : Head). read_outputs b x (first_operations b x.operations) ≡ accepted (first_outputs b (length (first_operations b x.operations)) x.m)) is us

        module _ (start place : ℕ) (behind : start ≡ head_length_in b) (at : place ≡ totals_place start h.operations h.m) where
          pub totals-at : place ≡ totals_place_in b
          totals-at = at ∙ place_is start h behind is

          pub totals-number : {r : ℕ} → r ≡ totals_refusal b place h (first_operations b h.operations) → r ≡ totals_refusal b (totals_place_in b) (head_at b) (operations_in b)
          totals-number e = e ∙ ap₂ (λ (p : ℕ) (x : Head). totals_refusal b p x (first_operations b x.operations)) totals-at is

          pub totals-refused : {r : ℕ} → r ≡ totals_refusal b place h (first_operations b h.operations) → (r ≡ 0 → ⊥) → read_netlist b ≡ refused r place
          totals-refused e z =
              let n = totals-number e in
              totals_decline due operations-accepted outputs-accepted (λ d. z (n ∙ d)) ∙ ap₂ refused (sym n) (sym totals-at)

          module _ (right : 0 ≡ totals_refusal b place h (first_operations b h.operations)) where
            pub leftover-refused : {end : ℕ} → end ≡ place + totals_length → end < length b → read_netlist b ≡ refused 12 end
            leftover-refused e l = leftover due operations-accepted outputs-accepted (sym (totals-number right)) (omega (arith, totals-at)) ∙ ap (refused 12) (omega (arith, totals-at))

            module _ {forms : List ℤ} (H : FormsHeld b h.width h.n h.operations forms) (l : length b ≤ place + totals_length) where
              pub netlist-held : NetlistHeld b forms
              netlist-held =
                  let held : FormsHeld b (head_at b).width (head_at b).n (head_at b).operations forms = subst (λ (x : Head). FormsHeld b x.width x.n x.operations forms) is H in
                  record {
                    read = record {
                      head-due = due;
                      operations-read = operations-accepted;
                      outputs-read = outputs-accepted;
                      totals-due = sym (totals-number right);
                      netlist-read = all-accepted due operations-accepted outputs-accepted (sym (totals-number right)) (omega (arith, totals-at));
                      narrow = held.narrow;
                    };
                    forms-held = held;
                  }

  -- ---- the answer

  pub answer-fields : (h : Head) (t : Totals) → h ≡ head_at b → t ≡ totals_at b (totals_place_in b)
      → record { refusal = 0; place = 0; m = h.m; n = h.n; operations = h.operations; depth = t.depth } ≡ read_accepted (netlist_in b)
  answer-fields h t e f = rw (e, f) refl

  pub answer-refused : (r place : ℕ) → read_netlist b ≡ refused r place → read_refused r place ≡ read_answer b
  unfolding read_answer
  answer-refused r place e = sym (ap read_answer_of e)

  pub answer-accepted : (net : Netlist) → read_netlist b ≡ accepted net → read_accepted net ≡ read_answer b
  unfolding read_answer
  answer-accepted net e = sym (ap read_answer_of e)

  -- ---- the sample width

  pub width-refused : (r place : ℕ) → read_netlist b ≡ refused r place → record { refusal = r; place = place; width = 0 } ≡ sample_width_answer b
  unfolding sample_width_answer
  width-refused r place e = sym (ap sample_width_of e)

  pub width-accepted : (h : Head) → h ≡ head_at b → read_netlist b ≡ accepted (netlist_in b) → record { refusal = 0; place = 0; width = h.width } ≡ sample_width_answer b
  unfolding sample_width_answer
  width-accepted h e d = ap (λ (x : Head). record { refusal = 0; place = 0; width = x.width }) e ∙ sym (ap sample_width_of d)

  -- ---- what stands in the bytes

  module _ (N : NetlistRead b) where
    pub head-limits : HeadLimits (read_limits (head_at b).width) (head_at b)
    head-limits = (head-due b N.head-due).1.limits

    pub head-there : (head_length_in b ≤ length b) × (4 ≤ length b)
    head-there = let l = (head-due b N.head-due).0 in (l, omega (arith, l, length-due b))

    pub operation-there : (k : ℕ) → k < (head_at b).operations
        → (operation_place (head_length_in b) k + operation_length ≤ length b) × OperationLimits (read_limits (head_at b).width) ((head_at b).n + k) (operation_at b k)
    unfolding first_records
    operation-there k h = operation-due b (head_at b).width (head_at b).n k
        (none-refused (operation_refusal b (head_at b).width (head_at b).n) (operation_place (head_length_in b)) (operation_at b) (head_at b).operations 0 (operations_in b) N.operations-read k (omega arith) (omega arith))

    output_passed : (i : ℕ) → i < (head_at b).m → output_refusal b (head_at b).width (head_at b).n (operations_in b) (length (first_outputs b (length (operations_in b)) i)) ≡ 0
    unfolding first_records
    output_passed i h = none-refused (λ outputs. output_refusal b (head_at b).width (head_at b).n (operations_in b) (length outputs)) (output_place (head_length_in b) (length (operations_in b)))
        (output_at b (length (operations_in b))) (head_at b).m 0 (outputs_in b) N.outputs-read i (omega arith) (omega arith)

    pub output-there : (i : ℕ) → i < (head_at b).m
        → (output_place (head_length_in b) (head_at b).operations i + output_length ≤ length b)
        × OutputLimits (read_limits (head_at b).width) ((head_at b).n + (head_at b).operations) (output_at b (head_at b).operations i)
    output-there i h = output-due b (head_at b).width (head_at b).n (head_at b).operations (operations_in b) (length-first (operation_at b) (head_at b).operations) i
        (rw (length-first (output_at b (length (operations_in b))) i) at (output_passed i h))
