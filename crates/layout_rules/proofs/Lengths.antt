-- The length of each record and of a netlist's bytes, and that its records stand at their places, behind a head of any length.
-- Assumes nothing.
use Prim.Native.Nat.{ℕ, zero, suc, ◌+◌, ◌*◌, ◌≤◌, ◌<◌}
use mathlib.Core.Path.{◌≡◌, refl, sym, ap, ap₂, ◌∙◌}
use mathlib.Core.Bool.{Bool, true, false, cond}
use mathlib.Core.List.{List, [], ◌∷◌, ◌++◌, flat_map, append_assoc}
use native.Mathlib.Omega.{arith}
use lib.Dec.{eqb}
use lib.ListN.{length, get_or, drop, length-append}
use lib.Seq.{drop_at, drop-append-add, drop-drop}
use Rattle.limits.specs.Limits.{unstated_width}
use Rattle.layout_rules.specs.Bytes.{little_endian, record_bytes}
use Rattle.layout_rules.specs.Records.{Netlist, head_payload, head_kind, head_length, width_head_kind, width_head_length, head_kind_of, head_length_of, head_bytes, operation_payload, operation_length, operation_bytes, output_payload, output_length, output_bytes, totals_payload, totals_length, totals_bytes, netlist_bytes}
use Rattle.layout_rules.specs.Places.{operation_place, output_place, totals_place, netlist_length, enough_bytes}
use Rattle.layout_rules.specs.declared.Head.{Head}
use Rattle.layout_rules.specs.declared.Operation.{Operation}
use Rattle.layout_rules.specs.declared.Output.{Output}
use Rattle.layout_rules.specs.declared.Totals.{Totals}

pub length-head : (h : Head) → length (head_bytes h) ≡ head_length_of h.width
unfolding head_payload head_length_of
length-head h = stated (eqb h.width unstated_width)
  where
    stated : (t : Bool) → length (record_bytes (head_kind_of h.width) (h.m ∷ h.n ∷ little_endian h.operations ++ cond t [] (h.width ∷ []))) ≡ cond t head_length width_head_length
    stated true = refl
    stated false = refl

-- a head has 8 or 9 bytes
pub head-length : (s : ℕ) → (head_length ≤ head_length_of s) × (head_length_of s ≤ width_head_length)
unfolding head_length_of
head-length s = go (eqb s unstated_width)
  where
    go : (t : Bool) → (head_length ≤ cond t head_length width_head_length) × (cond t head_length width_head_length ≤ width_head_length)
    go true = (omega arith, omega arith)
    go false = (omega arith, omega arith)

-- and a small kind
pub kind-small : (s : ℕ) → head_kind_of s ≤ width_head_kind
unfolding head_kind_of
kind-small s = go (eqb s unstated_width)
  where
    go : (t : Bool) → cond t head_kind width_head_kind ≤ width_head_kind
    go true = omega arith
    go false = omega arith

pub length-operation : (o : Operation) → length (operation_bytes o) ≡ operation_length
unfolding operation_payload
length-operation o = refl

pub length-output : (o : Output) → length (output_bytes o) ≡ output_length
unfolding output_payload
length-output o = refl

pub length-totals : (t : Totals) → length (totals_bytes t) ≡ totals_length
unfolding totals_payload
length-totals t = refl

-- records of one length, one after another
pub length_records : {A : Type 0} (bytes : A → List ℕ) (n : ℕ) → ((x : A) → length (bytes x) ≡ n) → (xs : List A) → length (flat_map bytes xs) ≡ n * length xs
unfolding flat_map
length_records bytes n each [] = omega arith
length_records bytes n each (x ∷ xs) =
    length-append (bytes x) (flat_map bytes xs) ∙ ap₂ ◌+◌ (each x) (length_records bytes n each xs) ∙ omega arith

pub length-netlist : (n : Netlist) → length (netlist_bytes n) ≡ netlist_length (head_length_of n.head.width) (length n.operations) (length n.outputs)
unfolding netlist_bytes
length-netlist n =
    simp length-append
    (omega (arith, length-head n.head, length_records operation_bytes operation_length length-operation n.operations, length_records output_bytes output_length length-output n.outputs, length-totals n.totals))

-- "6,137 bytes always suffice."
enough_bytes_lem : enough_bytes ≡ 6137
enough_bytes_lem = refl

-- ---- where each record stands, one after another

pub records_at : {A : Type 0} (bytes : A → List ℕ) (n : ℕ) → ((x : A) → length (bytes x) ≡ n) → (xs : List A) (behind : List ℕ) (i : ℕ) (d : A) → i < length xs
    → drop (n * i) (flat_map bytes xs ++ behind) ≡ bytes (get_or xs i d) ++ (flat_map bytes (drop (suc i) xs) ++ behind)
unfolding flat_map
records_at bytes n each [] behind i d h = absurd (omega arith)
records_at bytes n each (x ∷ xs) behind zero d h =
    let start : n * 0 ≡ 0 = omega arith in
    ap (λ (k : ℕ). drop k ((bytes x ++ flat_map bytes xs) ++ behind)) start ∙ append_assoc (bytes x) (flat_map bytes xs) behind
records_at bytes n each (x ∷ xs) behind (suc i) d h =
    let next : n * suc i ≡ length (bytes x) + n * i = omega (arith, each x) in
    ap₂ drop next (append_assoc (bytes x) (flat_map bytes xs) behind)
    ∙ drop-append-add (bytes x) (flat_map bytes xs ++ behind) (n * i)
    ∙ records_at bytes n each xs behind i d (omega arith)

pub records_end : {A : Type 0} (bytes : A → List ℕ) (n : ℕ) → ((x : A) → length (bytes x) ≡ n) → (xs : List A) (behind : List ℕ)
    → drop (n * length xs) (flat_map bytes xs ++ behind) ≡ behind
records_end bytes n each xs behind = drop_at (flat_map bytes xs) behind (n * length xs) (length_records bytes n each xs)

-- behind the bytes of a head, the operations, the outputs and what follows them
module _ (head : ℕ) (first : List ℕ) (sized : length first ≡ head) (os : List Operation) (outputs : List Output) (last : List ℕ) where
  abbrev pub laid_out : List ℕ
  laid_out = first ++ (flat_map operation_bytes os ++ (flat_map output_bytes outputs ++ last))

  behind-head : (k : ℕ) → drop (head + k) laid_out ≡ drop k (flat_map operation_bytes os ++ (flat_map output_bytes outputs ++ last))
  behind-head k =
      ap (λ (h : ℕ). drop (h + k) laid_out) (sym sized)
      ∙ drop-append-add first (flat_map operation_bytes os ++ (flat_map output_bytes outputs ++ last)) k

  behind-operations : (k : ℕ) → drop (operation_place head (length os) + k) laid_out ≡ drop k (flat_map output_bytes outputs ++ last)
  behind-operations k =
      let at : operation_place head (length os) + k ≡ head + (operation_length * length os + k) = omega arith in
      ap (λ (j : ℕ). drop j laid_out) at
      ∙ behind-head (operation_length * length os + k)
      ∙ sym (drop-drop k (operation_length * length os) (flat_map operation_bytes os ++ (flat_map output_bytes outputs ++ last)))
      ∙ ap (drop k) (records_end operation_bytes operation_length length-operation os (flat_map output_bytes outputs ++ last))

  pub operation_stands : (i : ℕ) (d : Operation) → i < length os
      → drop (operation_place head i) laid_out ≡ operation_bytes (get_or os i d) ++ (flat_map operation_bytes (drop (suc i) os) ++ (flat_map output_bytes outputs ++ last))
  operation_stands i d h =
      behind-head (operation_length * i) ∙ records_at operation_bytes operation_length length-operation os (flat_map output_bytes outputs ++ last) i d h

  pub output_stands : (i : ℕ) (d : Output) → i < length outputs
      → drop (output_place head (length os) i) laid_out ≡ output_bytes (get_or outputs i d) ++ (flat_map output_bytes (drop (suc i) outputs) ++ last)
  output_stands i d h = behind-operations (output_length * i) ∙ records_at output_bytes output_length length-output outputs last i d h

  pub last_stands : drop (totals_place head (length os) (length outputs)) laid_out ≡ last
  last_stands = behind-operations (output_length * length outputs) ∙ records_end output_bytes output_length length-output outputs last

-- a netlist's operation i, output i and totals
module _ (n : Netlist) where
  abbrev head : ℕ
  head = head_length_of n.head.width

  pub operation-place : (i : ℕ) (d : Operation) → i < length n.operations
      → drop (operation_place (head_length_of n.head.width) i) (netlist_bytes n)
      ≡ operation_bytes (get_or n.operations i d) ++ (flat_map operation_bytes (drop (suc i) n.operations) ++ (flat_map output_bytes n.outputs ++ totals_bytes n.totals))
  unfolding netlist_bytes
  operation-place = operation_stands head (head_bytes n.head) (length-head n.head) n.operations n.outputs (totals_bytes n.totals)

  pub output-place : (i : ℕ) (d : Output) → i < length n.outputs
      → drop (output_place (head_length_of n.head.width) (length n.operations) i) (netlist_bytes n)
      ≡ output_bytes (get_or n.outputs i d) ++ (flat_map output_bytes (drop (suc i) n.outputs) ++ totals_bytes n.totals)
  unfolding netlist_bytes
  output-place = output_stands head (head_bytes n.head) (length-head n.head) n.operations n.outputs (totals_bytes n.totals)

  pub totals-place : drop (totals_place (head_length_of n.head.width) (length n.operations) (length n.outputs)) (netlist_bytes n) ≡ totals_bytes n.totals
  unfolding netlist_bytes
  totals-place = last_stands head (head_bytes n.head) (length-head n.head) n.operations n.outputs (totals_bytes n.totals)
