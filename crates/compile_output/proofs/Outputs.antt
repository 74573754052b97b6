-- What compile-bank writes, from what compile answers and leaves in a buffer that suffices for every netlist.
-- Assumes nothing.
use Prim.Native.Nat.{ℕ, suc, ◌≤◌}
use mathlib.Core.Path.{◌≡◌, refl, sym, ap, subst, ◌∙◌}
use mathlib.Core.Bool.{Bool, true, false, cond}
use mathlib.Core.List.{List, [], ◌∷◌, ◌++◌, flat_map}
use native.Mathlib.Omega.{arith}
use lib.Dec.{eqb}
use lib.ListN.{length, get_or}
use Rattle.limits.specs.Limits.{unstated_width}
use Rattle.layout_rules.specs.declared.Head.{Head}
use Rattle.layout_rules.specs.Bytes.{little_endian, record_bytes}
use Rattle.layout_rules.specs.Records.{Netlist, head_length, width_head_length, head_kind_of, head_length_of, head_payload, head_bytes, operation_bytes, output_bytes, totals_bytes, netlist_bytes}
use Rattle.layout_rules.specs.Places.{enough_bytes}
use Rattle.layout_rules.proofs.LittleEndian.{AreBytes}
use Rattle.compile_rules.specs.declared.CompileAnswer.{CompileAnswer}
use Rattle.compile_rules.specs.Compile.{netlist_of, compile_answer, compile_buffer, compiled_netlist, compiled_bytes, input_refusal}
use Rattle.compile_rules.proofs.Compiled.{input_fine, room-refused, room-accepted, buffer-refused, buffer-accepted, compiled-length}
use Rattle.text.specs.Text.{ascii, refused_line}
use Rattle.text.specs.Wrote.{Wrote}
use Rattle.compile_output.specs.CompileOutput.{compile_output}

refused-output : (s : ℕ) (bytes : List ℕ) (r : ℕ) → input_refusal s bytes ≡ suc r → refused_line (suc r) 0 ≡ compile_output s bytes
unfolding compile_output
refused-output s bytes r e = sym (rw (e, compile_output))

accepted-output : (s : ℕ) (bytes : List ℕ) → input_refusal s bytes ≡ 0 → compiled_bytes s bytes ≡ compile_output s bytes
unfolding compile_output
accepted-output s bytes e = sym (rw (e, compile_output))

module _ (s : ℕ) (bytes : List ℕ) (all : AreBytes bytes) (old after : List ℕ) (answer : CompileAnswer)
    (room : enough_bytes ≤ length old) (answered : answer ≡ compile_answer s bytes (length old)) (left : after ≡ compile_buffer s bytes old) where
  module _ (no_zero : answer.refusal ≡ 0 → ⊥) where
    -- the line of the refusal is written into a buffer that compile left as it was
    pub line_refused : refused_line answer.refusal answer.place ≡ compile_output s bytes
    line_refused =
        let is = room-refused s bytes all (length old) room answer answered no_zero in
        ap (λ (a : CompileAnswer). refused_line a.refusal a.place) is.2 ∙ refused-output s bytes is.0 is.1

    pub kept : after ≡ old
    kept = let is = room-refused s bytes all (length old) room answer answered no_zero in left ∙ buffer-refused s bytes is.0 old is.1

  module _ (is_zero : answer.refusal ≡ 0) where
    taken : input_refusal s bytes ≡ 0
    taken = (room-accepted s bytes all (length old) room answer answered is_zero).0

    count : answer.written ≡ length (compiled_bytes s bytes)
    count = ap (λ (a : CompileAnswer). a.written) (room-accepted s bytes all (length old) room answer answered is_zero).1

    pub netlist-written : Wrote old after answer.written (compile_output s bytes)
    netlist-written =
        subst (λ (l : List ℕ). Wrote old after answer.written l) (accepted-output s bytes taken) (record {
          counted = count;
          text = left ∙ buffer-accepted s bytes old taken (omega (arith, compiled-length s bytes all (input_fine s bytes taken).1));
        })

-- the first byte tells a netlist, whose head has a length of its own, from a refusal, which begins with the letter r
head_first : (h : Head) (behind : List ℕ) → get_or (head_bytes h ++ behind) 0 0 ≡ head_length_of h.width
unfolding head_payload head_length_of
head_first h behind = go (eqb h.width unstated_width)
  where
    go : (t : Bool) → get_or (record_bytes (head_kind_of h.width) (h.m ∷ h.n ∷ little_endian h.operations ++ cond t [] (h.width ∷ [])) ++ behind) 0 0 ≡ cond t head_length width_head_length
    go true = refl
    go false = refl

netlist-first : (net : Netlist) → get_or (netlist_bytes net) 0 0 ≡ head_length_of net.head.width
unfolding netlist_bytes
netlist-first net = head_first net.head (flat_map operation_bytes net.operations ++ (flat_map output_bytes net.outputs ++ totals_bytes net.totals))

pub first_byte_accepted : (s : ℕ) (bytes : List ℕ) → input_refusal s bytes ≡ 0 → get_or (compile_output s bytes) 0 0 ≡ head_length_of s
unfolding netlist_of
first_byte_accepted s bytes e = sym (ap (λ (l : List ℕ). get_or l 0 0) (accepted-output s bytes e)) ∙ netlist-first (compiled_netlist s bytes)

pub first_byte_refused : (s : ℕ) (bytes : List ℕ) (r : ℕ) → input_refusal s bytes ≡ suc r → get_or (compile_output s bytes) 0 0 ≡ get_or (ascii "r") 0 0
first_byte_refused s bytes r e = sym (ap (λ (l : List ℕ). get_or l 0 0) (refused-output s bytes r e))
