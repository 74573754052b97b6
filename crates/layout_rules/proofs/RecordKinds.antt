-- The kinds of a netlist's records, 2 to 6, under one law: a record that stands at a place is found and its fields read back, and
-- where the step accepts a payload of the kind's length, the bytes are those of the fields read.
-- Assumes nothing.
use Prim.Native.Nat.{ℕ, ◌+◌, ◌-◌}
use mathlib.Core.Path.{◌≡◌, refl, sym, ap, ap₂, ◌∙◌}
use mathlib.Core.List.{List, ◌++◌}
use native.Mathlib.Omega.{arith}
use lib.ListN.{length, take, drop}
use lib.Seq.{take_at}
use Rattle.layout_rules.proofs.LittleEndian.{AreBytes}
use Rattle.layout_rules.proofs.Fields.{head_back, head_bytes_lem, operation_back, operation-bytes, output_back, output-bytes, totals_back, totals-bytes}
use Rattle.layout_rules.proofs.Lengths.{length-head}
use Rattle.layout_rules.proofs.Found.{accepted, step_finds, payload_found, behind-header, behind_found, next_place, payload-bytes, record-there}
use Rattle.layout_rules.specs.Bytes.{record_bytes}
use Rattle.layout_rules.specs.Records.{head_kind_of, head_length_of, head_payload, head_of, operation_kind, operation_length, operation_payload, operation_of, output_kind, output_length, output_payload, output_of, totals_kind, totals_length, totals_payload, totals_of}
use Rattle.layout_rules.specs.Step.{step_numbers, payload_at}
use Rattle.layout_rules.specs.Places.{payload_of}
use Rattle.layout_rules.specs.declared.Head.{Head}
use Rattle.layout_rules.specs.declared.Operation.{Operation}
use Rattle.layout_rules.specs.declared.Output.{Output}
use Rattle.layout_rules.specs.declared.Totals.{Totals}

-- records whose fields are an A: their kind's number, their payload and its length, the fields of a payload. A head's kind and length
-- go by its width, the others are of one kind
pub record Kind (A : Type 0) : Type 0 where
  pub number : A → ℕ
  pub size : A → ℕ
  pub payload : A → List ℕ
  pub fields : List ℕ → A
  pub sized : (x : A) → length (payload x) ≡ size x
  pub back : (x : A) → fields (payload x) ≡ x
  pub bytes : (p : List ℕ) → AreBytes p → length p ≡ size (fields p) → payload (fields p) ≡ p

abbrev pub head : Kind Head
head = record {
  number = λ h. head_kind_of h.width;
  size = λ h. head_length_of h.width - 4;
  payload = head_payload;
  fields = head_of;
  sized = λ h. omega (arith, length-head h);
  back = head_back;
  bytes = head_bytes_lem;
}

abbrev pub operation : Kind Operation
unfolding operation_payload
operation = record {
  number = λ x. operation_kind;
  size = λ x. operation_length - 4;
  payload = operation_payload;
  fields = operation_of;
  sized = λ x. refl;
  back = operation_back;
  bytes = operation-bytes;
}

abbrev pub output : Kind Output
unfolding output_payload
output = record {
  number = λ x. output_kind;
  size = λ x. output_length - 4;
  payload = output_payload;
  fields = output_of;
  sized = λ x. refl;
  back = output_back;
  bytes = output-bytes;
}

abbrev pub totals : Kind Totals
unfolding totals_payload
totals = record {
  number = λ x. totals_kind;
  size = λ x. totals_length - 4;
  payload = totals_payload;
  fields = totals_of;
  sized = λ x. refl;
  back = totals_back;
  bytes = totals-bytes;
}

payload_stands : (b : List ℕ) (place : ℕ) (payload behind : List ℕ) {size : ℕ} → drop (place + 4) b ≡ payload ++ behind → length payload ≡ size
    → payload_of b place (4 + size) ≡ payload
payload_stands b place payload behind {size} header l =
    let counted : 4 + size - 4 ≡ size = omega arith in
    ap₂ take counted header ∙ take_at payload behind size l

module _ {A : Type 0} (k : Kind A) where
  -- the bytes of a record
  abbrev pub bytes_of : A → List ℕ
  bytes_of x = record_bytes (k.number x) (k.payload x)

  -- what the step finds at a place: the fields x, and what is behind the record
  pub record Found (b : List ℕ) (place : ℕ) (x : A) (behind : List ℕ) : Type 0 where
    pub numbers : step_numbers b place ≡ accepted (k.number x) (place + (4 + k.size x))
    pub length-read : length (payload_at b place) ≡ k.size x
    pub fields_read : k.fields (payload_of b place (4 + k.size x)) ≡ x
    pub behind_next : drop (place + (4 + k.size x)) b ≡ behind

  -- a record that stands at a place is found
  pub found : (b : List ℕ) (place : ℕ) (x : A) (behind : List ℕ) → drop place b ≡ bytes_of x ++ behind → Found b place x behind
  found b place x behind there =
      let p = k.payload x in
      let same = payload_found b place (k.number x) p behind there in
      record {
        numbers = step_finds b place (k.number x) p behind there ∙ ap (λ (l : ℕ). accepted (k.number x) (place + (4 + l))) (k.sized x);
        length-read = ap length same ∙ k.sized x;
        fields_read = ap k.fields (payload_stands b place p behind (behind-header b place (k.number x) p behind there) (k.sized x)) ∙ k.back x;
        behind_next = ap (λ (l : ℕ). drop (place + (4 + l)) b) (sym (k.sized x)) ∙ behind_found b place (k.number x) p behind there;
      }

  -- where the step accepts the kind of the fields read and the payload has their length, the bytes are those of the fields
  pub there : (b : List ℕ) (place next size : ℕ) (x : A) → AreBytes b → x ≡ k.fields (payload_of b place (4 + size)) → size ≡ k.size x
      → step_numbers b place ≡ accepted (k.number x) next → length (payload_at b place) ≡ size
      → (drop place b ≡ bytes_of x ++ drop next b) × (next ≡ place + (4 + size))
  there b place next size x all read sized step l =
      let stands = record-there b place all (k.number x) next step in
      let same = payload_stands b place (payload_at b place) (drop next b) (behind-header b place (k.number x) (payload_at b place) (drop next b) stands) l in
      let its : x ≡ k.fields (payload_at b place) = read ∙ ap k.fields same in
      let payload : k.payload x ≡ payload_at b place =
      ap k.payload its ∙ k.bytes (payload_at b place) (payload-bytes b place all (k.number x) next step) (l ∙ sized ∙ ap k.size its) in (
        stands ∙ ap (λ (p : List ℕ). record_bytes (k.number x) p ++ drop next b) (sym payload),
        next_place b place all (k.number x) next step ∙ ap (λ (n : ℕ). place + (4 + n)) l,
      )
