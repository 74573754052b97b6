-- Document 01, "Reading, checking, running" and "Why a record was declined": reading a netlist, refusals 7 to 12 record by record.
-- Assumes nothing.
use Rattle.std.specs.Prelude.{ℕ, zero, suc, ◌+◌, Bool, true, false, not, ◌&&◌, ◌||◌, List, [], ◌∷◌, ◌++◌, leb, ltb, eqb, length}
use Rattle.limits.specs.Limits.{max_shift, unstated_width, max_operations, max_width}
use Rattle.limits.specs.Size.{size_outside, sample_width_outside}
use Rattle.layout_rules.specs.declared.Head.{Head}
use Rattle.layout_rules.specs.declared.Operation.{Operation}
use Rattle.layout_rules.specs.declared.Output.{Output}
use Rattle.layout_rules.specs.declared.Totals.{Totals}
use Rattle.layout_rules.specs.Bytes.{word}
use Rattle.layout_rules.specs.Records.{Netlist, width_head_kind, operation_kind, operation_length, output_kind, output_length, totals_kind, totals_length}
use Rattle.layout_rules.specs.Places.{operation_place, output_place, totals_place, head_kind_in, head_length_in, head_at, operation_at, output_at, totals_at}
use Rattle.layout_rules.specs.Step.{step_refusal}
use Rattle.board_rules.specs.Machine.{entry_form, output_form, depth}
use Rattle.board_rules.specs.Width.{width}
use Rattle.netlist_rules.specs.declared.ReadAnswer.{ReadAnswer}
use Rattle.netlist_rules.specs.declared.SampleWidthAnswer.{SampleWidthAnswer}

-- ---- refusals of one record; 0 is none

-- the record due at a place is of a kind and a length: 7 under 4 bytes remain, or the length exceeds what remains; 8 kind or length
-- not the expected one
unfoldable pub record_refusal : List ℕ → ℕ → ℕ → ℕ → ℕ
record_refusal bytes place kind size =
    elim (step_refusal bytes place) [
      | suc r ↦ suc r
      | zero ↦ elim (eqb (word bytes (place + 2)) kind && eqb (word bytes place) size) [ true ↦ 0 | false ↦ 8 ]
    ]

-- 9: m or n outside their limits, or more operations than the most; "m and n of 0 only together and only with no operations"
abbrev pub head_in_range : Head → Bool
head_in_range h =
    (eqb h.m 0 && eqb h.n 0 && eqb h.operations 0)
    || (not (size_outside h.m h.n) && leb h.operations max_operations)

-- 9: the width of a head of a kind is not 8 to 24, or is 16 where it is stated
abbrev pub width_in_range : ℕ → ℕ → Bool
width_in_range kind s = not (sample_width_outside s) && not (eqb kind width_head_kind && eqb s unstated_width)

unfoldable pub head_refusal : List ℕ → ℕ
head_refusal bytes =
    elim (record_refusal bytes 0 (head_kind_in bytes) (head_length_in bytes)) [
      | suc r ↦ suc r
      | zero ↦ elim (head_in_range (head_at bytes) && width_in_range (word bytes 2) (head_at bytes).width) [ true ↦ 0 | false ↦ 9 ]
    ]

-- 9: a field out of range, or an operand not earlier than its operation, whose symbol is given
abbrev pub operation_in_range : ℕ → Operation → Bool
operation_in_range symbol o =
    leb o.sign 1 && (leb o.sa max_shift && (leb o.sb max_shift && (ltb o.a symbol && ltb o.b symbol)))

-- 10: the recorded width is not the width, or "the width exceeds 44"
abbrev pub width_right : ℕ → ℕ → Bool
width_right recorded w = eqb recorded w && leb w max_width

-- the width of an operation behind the operations os, over samples of s bits
abbrev pub operation_width : ℕ → ℕ → List Operation → Operation → ℕ
operation_width s n os o = width s (entry_form n (os ++ (o ∷ [])) (n + length os))

-- the operation that follows the operations os
unfoldable pub operation_refusal : List ℕ → ℕ → ℕ → List Operation → ℕ
operation_refusal bytes s n os =
    elim (record_refusal bytes (operation_place (head_length_in bytes) (length os)) operation_kind operation_length) [
      | suc r ↦ suc r
      | zero ↦
          let o = operation_at bytes (length os) in
          elim (operation_in_range (n + length os) o) [
            | false ↦ 9
            | true ↦ elim (width_right o.width (operation_width s n os o)) [ true ↦ 0 | false ↦ 10 ]
          ]
    ]

-- 9: a field out of range, a symbol not below n + operations, or a zero output not with symbol 0, shift 0, width 1
abbrev pub output_in_range : ℕ → Output → Bool
output_in_range symbols o =
    leb o.sign 2 && (leb o.shift max_shift && (ltb o.symbol symbols
    && (ltb o.sign 2 || (eqb o.symbol 0 && (eqb o.shift 0 && eqb o.width 1)))))

abbrev pub output_width : ℕ → ℕ → List Operation → Output → ℕ
output_width s n os o = width s (output_form n os o)

-- output i of a netlist of the operations os
unfoldable pub output_refusal : List ℕ → ℕ → ℕ → List Operation → ℕ → ℕ
output_refusal bytes s n os i =
    elim (record_refusal bytes (output_place (head_length_in bytes) (length os) i) output_kind output_length) [
      | suc r ↦ suc r
      | zero ↦
          let o = output_at bytes (length os) i in
          elim (output_in_range (n + length os) o) [
            | false ↦ 9
            | true ↦ elim (width_right o.width (output_width s n os o)) [ true ↦ 0 | false ↦ 10 ]
          ]
    ]

-- 11: totals differ from the head's count or the depth
abbrev pub totals_right : Head → List Operation → Totals → Bool
totals_right h os t = eqb t.operations h.operations && eqb t.depth (depth h.n os)

unfoldable pub totals_refusal : List ℕ → ℕ → Head → List Operation → ℕ
totals_refusal bytes place h os =
    elim (record_refusal bytes place totals_kind totals_length) [
      | suc r ↦ suc r
      | zero ↦ elim (totals_right h os (totals_at bytes place)) [ true ↦ 0 | false ↦ 11 ]
    ]

-- ---- the whole netlist

-- a refusal with its place, or what was read
pub data Reading (A : Type 0) : Type 0 where
  refused : ℕ → ℕ → Reading A
  accepted : A → Reading A

-- what follows a record that is accepted
abbrev pub and_then : {A B : Type 0} → Reading A → (A → Reading B) → Reading B
and_then (refused r place) rest = refused r place
and_then (accepted x) rest = rest x

-- a record's refusal at its place, or its fields
abbrev pub read_record : {A : Type 0} → ℕ → ℕ → A → Reading A
read_record zero place x = accepted x
read_record (suc r) place x = refused (suc r) place

-- so many records of one kind more, behind those read; the first of them is refused, or is read and the next is due
unfoldable pub read_records : {A : Type 0} → (List A → ℕ) → (ℕ → ℕ) → (ℕ → A) → ℕ → List A → Reading (List A)
read_records refusal place fields zero xs = accepted xs
read_records refusal place fields (suc k) xs =
    and_then (read_record (refusal xs) (place (length xs)) (fields (length xs))) (λ x. read_records refusal place fields k (xs ++ (x ∷ [])))

abbrev pub read_head : List ℕ → Reading Head
read_head bytes = read_record (head_refusal bytes) 0 (head_at bytes)

abbrev pub read_operations : List ℕ → Head → Reading (List Operation)
read_operations bytes h =
    read_records (operation_refusal bytes h.width h.n) (operation_place (head_length_in bytes)) (operation_at bytes) h.operations []

abbrev pub read_outputs : List ℕ → Head → List Operation → Reading (List Output)
read_outputs bytes h os =
    read_records (λ outputs. output_refusal bytes h.width h.n os (length outputs)) (output_place (head_length_in bytes) (length os))
    (output_at bytes (length os)) h.m []

abbrev pub read_totals : List ℕ → ℕ → Head → List Operation → Reading Totals
read_totals bytes place h os = read_record (totals_refusal bytes place h os) place (totals_at bytes place)

-- 12, place after totals: bytes left over
abbrev pub leftover_refusal : List ℕ → ℕ → ℕ
leftover_refusal bytes place = elim (ltb place (length bytes)) [ true ↦ 12 | false ↦ 0 ]

unfoldable pub read_netlist : List ℕ → Reading Netlist
read_netlist bytes =
    and_then (read_head bytes) (λ h.
    and_then (read_operations bytes h) (λ os.
    and_then (read_outputs bytes h os) (λ outputs.
    let place = totals_place (head_length_in bytes) (length os) (length outputs) in
    and_then (read_totals bytes place h os) (λ t.
    read_record (leftover_refusal bytes (place + totals_length)) (place + totals_length) (record { head = h; operations = os; outputs = outputs; totals = t })))))

-- ---- read's answer: m, n, operations, depth; a refusal has all counts 0

abbrev pub read_refused : ℕ → ℕ → ReadAnswer
read_refused r place = record { refusal = r; place = place; m = 0; n = 0; operations = 0; depth = 0 }

abbrev pub read_accepted : Netlist → ReadAnswer
read_accepted net =
    record { refusal = 0; place = 0; m = net.head.m; n = net.head.n; operations = net.head.operations; depth = net.totals.depth }

abbrev pub read_answer_of : Reading Netlist → ReadAnswer
read_answer_of (refused r place) = read_refused r place
read_answer_of (accepted net) = read_accepted net

unfoldable pub read_answer : List ℕ → ReadAnswer
read_answer bytes = read_answer_of (read_netlist bytes)

-- ---- the answer of sample_width: the head's, for any bytes; a refusal has width 0

abbrev pub sample_width_of : Reading Netlist → SampleWidthAnswer
sample_width_of (refused r place) = record { refusal = r; place = place; width = 0 }
sample_width_of (accepted net) = record { refusal = 0; place = 0; width = net.head.width }

unfoldable pub sample_width_answer : List ℕ → SampleWidthAnswer
sample_width_answer bytes = sample_width_of (read_netlist bytes)
