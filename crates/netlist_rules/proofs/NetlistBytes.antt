-- The bytes of a netlist are bytes: every field is in the range of its bytes.
-- Assumes nothing.
use Prim.Native.Nat.{ℕ, zero, suc, ◌+◌, ◌<◌, ◌≤◌, ◌/◌, ◌%◌}
use mathlib.Core.Path.{◌≡◌, refl, sym, ap, subst}
use mathlib.Core.Bool.{Bool, true, false, cond}
use mathlib.Core.Logic.{◌↔◌}
use mathlib.Core.List.{List, [], ◌∷◌, ◌++◌, flat_map}
use native.Mathlib.Omega.{arith}
use lib.Dec.{eqb}
use lib.ListN.{length, length-append}
use Rattle.limits.specs.Limits.{unstated_width, max_operations}
use Rattle.layout_rules.specs.declared.Operation.{Operation}
use Rattle.layout_rules.specs.declared.Output.{Output}
use Rattle.layout_rules.specs.Bytes.{little_endian, record_bytes}
use Rattle.layout_rules.specs.Records.{Netlist, head_kind_of, stated_width, head_payload, head_bytes, operation_kind, operation_payload, operation_bytes, output_kind, output_payload, output_bytes, totals_kind, totals_payload, totals_bytes, netlist_bytes}
use Rattle.layout_rules.proofs.Lengths.{length-head, head-length, kind-small}
use Rattle.layout_rules.proofs.LittleEndian.{AreBytes}
use Rattle.board_rules.specs.Netlist.{IsNetlist}
use Rattle.board_rules.proofs.DepthLaws.{depth_at_most}
use Rattle.netlist_rules.specs.Read.{accepted, read_netlist}
use Rattle.netlist_rules.specs.Exact.{read_limits, IsNetlistBytes}
use Rattle.netlist_rules.proofs.ReadAccepts.{reads_netlist, reading_of}

none : AreBytes []
none i = omega arith

one : (x : ℕ) (xs : List ℕ) → x < 256 → AreBytes xs → AreBytes (x ∷ xs)
one x xs h r zero = h
one x xs h r (suc i) = r i

both : (xs ys : List ℕ) → AreBytes xs → AreBytes ys → AreBytes (xs ++ ys)
both [] ys a b = b
both (x ∷ xs) ys a b = one x (xs ++ ys) (a zero) (both xs ys (λ i. a (suc i)) b)

two : (x : ℕ) (xs : List ℕ) → x < 65536 → AreBytes xs → AreBytes (little_endian x ++ xs)
two x xs h r = one (x % 256) (x / 256 ∷ xs) (omega arith) (one (x / 256) xs (omega arith) r)

-- a record whose length and kind are two bytes
of-record : (kind : ℕ) (payload : List ℕ) → kind < 65536 → 4 + length payload < 65536 → AreBytes payload → AreBytes (record_bytes kind payload)
of-record kind payload k l p = two (4 + length payload) (little_endian kind ++ payload) l (two kind payload k p)

of-all : {A : Type 0} (bytes : A → List ℕ) (xs : List A) → ((before after : List A) (x : A) → xs ≡ before ++ x ∷ after → AreBytes (bytes x)) → AreBytes (flat_map bytes xs)
unfolding flat_map
of-all bytes [] each = none
of-all bytes (x ∷ xs) each =
    both (bytes x) (flat_map bytes xs) (each [] xs x refl) (of-all bytes xs (λ before after y e. each (x ∷ before) after y (ap (λ l. x ∷ l) e)))

module _ (net : Netlist) (is : IsNetlist (read_limits net.head.width) net) where
  count_small : length net.operations ≤ max_operations
  count_small = omega (arith, is.count, is.head.few)

  of_width : AreBytes (stated_width net.head.width)
  of_width = go (eqb net.head.width unstated_width)
    where
      go : (t : Bool) → AreBytes (cond t [] (net.head.width ∷ []))
      go true = none
      go false = one net.head.width [] (omega (arith, is.head.width.most)) none

  of-head : AreBytes (head_bytes net.head)
  unfolding head_payload
  of-head =
      let h = net.head in
      of-record (head_kind_of h.width) (head_payload h) (omega (arith, kind-small h.width)) (omega (arith, length-head h, head-length h.width))
      (one h.m (h.n ∷ little_endian h.operations ++ stated_width h.width) (omega (arith, is.head.limits.rows-most))
      (one h.n (little_endian h.operations ++ stated_width h.width) (omega (arith, is.head.limits.columns-most))
      (two h.operations (stated_width h.width) (omega (arith, is.head.few)) of_width)))

  of-operation : (before after : List Operation) (o : Operation) → net.operations ≡ before ++ o ∷ after → AreBytes (operation_bytes o)
  unfolding operation_payload
  of-operation before after o e =
      let it = is.operation before after o e in
      let l = it.limits in
      let few : length before ≤ max_operations = omega (arith, count_small, ap length e, length-append before (o ∷ after)) in
      of-record operation_kind (operation_payload o) (omega arith) (omega arith)
      (one o.sign (little_endian o.a ++ o.sa ∷ little_endian o.b ++ o.sb ∷ o.width ∷ []) (omega (arith, l.sign))
      (two o.a (o.sa ∷ little_endian o.b ++ o.sb ∷ o.width ∷ []) (omega (arith, l.first_earlier, is.head.limits.columns-most))
      (one o.sa (little_endian o.b ++ o.sb ∷ o.width ∷ []) (omega (arith, l.first-shift))
      (two o.b (o.sb ∷ o.width ∷ []) (omega (arith, l.second_earlier, is.head.limits.columns-most))
      (one o.sb (o.width ∷ []) (omega (arith, l.second-shift)) (one o.width [] (omega (arith, it.width.narrow)) none))))))

  of_output : (before after : List Output) (o : Output) → net.outputs ≡ before ++ o ∷ after → AreBytes (output_bytes o)
  unfolding output_payload
  of_output before after o e =
      let it = is.output before after o e in
      let l = it.limits.operand in
      of-record output_kind (output_payload o) (omega arith) (omega arith)
      (one o.sign (little_endian o.symbol ++ o.shift ∷ o.width ∷ []) (omega (arith, l.sign))
      (two o.symbol (o.shift ∷ o.width ∷ []) (omega (arith, l.symbol, is.head.limits.columns-most, count_small))
      (one o.shift (o.width ∷ []) (omega (arith, l.shift)) (one o.width [] (omega (arith, it.width.narrow)) none))))

  of-totals : AreBytes (totals_bytes net.totals)
  unfolding totals_payload
  of-totals =
      let t = net.totals in
      of-record totals_kind (totals_payload t) (omega arith) (omega arith)
      (two t.operations (little_endian t.depth) (omega (arith, is.totals.count, is.head.few))
      (two t.depth [] (omega (arith, is.totals.deepest, depth_at_most net.head.n net.operations, count_small)) none))

  pub netlist-are-bytes : AreBytes (netlist_bytes net)
  unfolding netlist_bytes
  netlist-are-bytes =
      both (head_bytes net.head) (flat_map operation_bytes net.operations ++ (flat_map output_bytes net.outputs ++ totals_bytes net.totals)) of-head
      (both (flat_map operation_bytes net.operations) (flat_map output_bytes net.outputs ++ totals_bytes net.totals) (of-all operation_bytes net.operations of-operation)
      (both (flat_map output_bytes net.outputs) (totals_bytes net.totals) (of-all output_bytes net.outputs of_output) of-totals))

-- a list of numbers is the bytes of a netlist if and only if they are bytes and read reads that netlist
pub netlist-bytes : (b : List ℕ) (net : Netlist) → IsNetlistBytes b net ↔ (AreBytes b × (read_netlist b ≡ accepted net))
netlist-bytes b net = (
  λ is. (subst AreBytes (sym is.bytes) (netlist-are-bytes net is.netlist), reading_of b net is),
  λ r. (reads_netlist b r.0 net).0 r.1,
)
