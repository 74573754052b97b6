-- The records that stand in bytes, read at their places; which head is due there.
-- Assumes nothing.
use Prim.Native.Nat.{ℕ, suc, ◌+◌, ◌-◌, ◌≤◌}
use mathlib.Core.Path.{◌≡◌, refl, sym, ap, ap₂, ◌∙◌}
use mathlib.Core.Bool.{Bool, true, false, cond}
use mathlib.Core.List.{List, [], ◌++◌, flat_map, append_assoc}
use native.Mathlib.Omega.{arith}
use lib.Dec.{eqb}
use lib.ListN.{length, take, drop, get_or, length-take, length-drop, get_or-eq_default}
use Rattle.limits.specs.Limits.{unstated_width}
use Rattle.layout_rules.proofs.LittleEndian.{word_of}
use Rattle.layout_rules.proofs.Accepted.{payload-accepted}
use Rattle.layout_rules.proofs.Fields.{payload_byte, get_d_within}
use Rattle.layout_rules.proofs.FirstRecords.{first-is}
use Rattle.layout_rules.proofs.Lengths.{length-head, laid_out, operation_stands, output_stands}
use Rattle.layout_rules.proofs.RecordKinds.{operation, output, found}
use Rattle.layout_rules.specs.Bytes.{word}
use Rattle.layout_rules.specs.declared.Head.{Head}
use Rattle.layout_rules.specs.Records.{Netlist, head_kind, head_length, width_head_kind, width_head_length, head_kind_of, head_length_of, head_of, head_bytes, operation_payload, operation_bytes, output_payload, output_bytes, totals_bytes, netlist_bytes}
use Rattle.layout_rules.specs.Step.{step_refusal, payload_at}
use Rattle.layout_rules.specs.Places.{operation_place, output_place, payload_of, head_kind_in, head_length_in, head_at, operation_at, output_at, first_operations, first_outputs}

-- the payload of a record whose length is the expected one
pub payload-of : (b : List ℕ) (place size : ℕ) → step_refusal b place ≡ 0 → word b place ≡ size → payload_at b place ≡ payload_of b place size
payload-of b place size e l = sym (payload-accepted b place e) ∙ ap (λ (w : ℕ). take (w - 4) (drop (place + 4) b)) l

-- ---- the head

-- a head has 8 or 9 bytes, whichever is due
pub length-due : (b : List ℕ) → (head_length ≤ head_length_in b) × (head_length_in b ≤ width_head_length)
unfolding head_length_in
length-due b = go (eqb (word b 2) width_head_kind)
  where
    go : (t : Bool) → (head_length ≤ cond t width_head_length head_length) × (cond t width_head_length head_length ≤ width_head_length)
    go true = (omega arith, omega arith)
    go false = (omega arith, omega arith)

-- its last byte is the width, or it states none
module _ (b : List ℕ) where
  pub width-stated : head_length_in b ≡ width_head_length → width_head_length ≤ length b → get_or b 8 0 ≡ (head_at b).width
  unfolding head_of
  width-stated e l =
      sym (payload_byte b 0 width_head_length 4 8 (omega arith) (omega arith))
      ∙ get_d_within (payload_of b 0 width_head_length) 4 0 unstated_width there
      ∙ ap (λ (k : ℕ). get_or (payload_of b 0 k) 4 unstated_width) (sym e)
    where
      there : 5 ≤ length (payload_of b 0 width_head_length)
      there = omega (arith, length-take 5 (drop 4 b), length-drop 4 b)

  pub width-unstated : (head_length_in b ≡ width_head_length → ⊥) → unstated_width ≡ (head_at b).width
  unfolding head_of
  width-unstated h =
      sym (get_or-eq_default (payload_of b 0 head_length) unstated_width (omega (arith, length-take 4 (drop 4 b))))
      ∙ ap (λ (k : ℕ). get_or (payload_of b 0 k) 4 unstated_width) short
    where
      short : head_length ≡ head_length_in b
      short = omega (arith, length-due b, h)

-- where the kind is that of a head for samples of s bits, this head is due
module _ (b : List ℕ) (s : ℕ) (kind : word b 2 ≡ head_kind_of s) where
  pub kind-is-due : head_kind_in b ≡ head_kind_of s
  unfolding head_kind_in head_kind_of
  kind-is-due = ap (λ (k : ℕ). cond (eqb k width_head_kind) width_head_kind head_kind) kind ∙ go (eqb s unstated_width)
    where
      go : (t : Bool) → cond (eqb (cond t head_kind width_head_kind) width_head_kind) width_head_kind head_kind ≡ cond t head_kind width_head_kind
      go true = refl
      go false = refl

  pub length-is-due : head_length_in b ≡ head_length_of s
  unfolding head_length_in head_kind_of head_length_of
  length-is-due = ap (λ (k : ℕ). cond (eqb k width_head_kind) width_head_length head_length) kind ∙ go (eqb s unstated_width)
    where
      go : (t : Bool) → cond (eqb (cond t head_kind width_head_kind) width_head_kind) width_head_length head_length ≡ cond t head_length width_head_length
      go true = refl
      go false = refl

-- a head that stands at the start is the one due
pub head-kind-there : (b : List ℕ) (h : Head) (behind : List ℕ) → b ≡ head_bytes h ++ behind → word b 2 ≡ head_kind_of h.width
head-kind-there b h behind e = ap (λ (l : List ℕ). word l 2) e ∙ word_of (head_kind_of h.width) []

-- ---- what begins with a netlist's bytes holds its operations and outputs

module _ (net : Netlist) (behind : List ℕ) where
  abbrev bytes : List ℕ
  bytes = netlist_bytes net ++ behind

  abbrev head : ℕ
  head = head_length_of net.head.width

  last : List ℕ
  last = totals_bytes net.totals ++ behind

  laid_out_lem : bytes ≡ laid_out head (head_bytes net.head) (length-head net.head) net.operations net.outputs last
  unfolding netlist_bytes last
  laid_out_lem = regroup (head_bytes net.head) (flat_map operation_bytes net.operations) (flat_map output_bytes net.outputs) (totals_bytes net.totals) behind
    where
      regroup : (h o t u v : List ℕ) → (h ++ (o ++ (t ++ u))) ++ v ≡ h ++ (o ++ (t ++ (u ++ v)))
      regroup h o t u v = simp append_assoc

  pub head-there : head_length_in bytes ≡ head_length_of net.head.width
  head-there = length-is-due bytes net.head.width (head-kind-there bytes net.head
      (flat_map operation_bytes net.operations ++ (flat_map output_bytes net.outputs ++ last)) laid_out_lem)

  pub operations_stand : first_operations bytes (length net.operations) ≡ net.operations
  unfolding operation_payload
  operations_stand = first-is (operation_at bytes) (length net.operations) net.operations refl (λ i d h.
      (found operation bytes (operation_place (head_length_in bytes) i) (get_or net.operations i d) (flat_map operation_bytes (drop (suc i) net.operations) ++ (flat_map output_bytes net.outputs ++ last))
      (ap₂ (λ (h : ℕ) (l : List ℕ). drop (operation_place h i) l) head-there laid_out_lem ∙ operation_stands head (head_bytes net.head) (length-head net.head) net.operations net.outputs last i d h)
      ).fields_read)

  pub outputs_stand : first_outputs bytes (length net.operations) (length net.outputs) ≡ net.outputs
  unfolding output_payload
  outputs_stand = first-is (output_at bytes (length net.operations)) (length net.outputs) net.outputs refl (λ i d h.
      (found output bytes (output_place (head_length_in bytes) (length net.operations) i) (get_or net.outputs i d) (flat_map output_bytes (drop (suc i) net.outputs) ++ last)
      (ap₂ (λ (h : ℕ) (l : List ℕ). drop (output_place h (length net.operations) i) l) head-there laid_out_lem
      ∙ output_stands head (head_bytes net.head) (length-head net.head) net.operations net.outputs last i d h)
      ).fields_read)
