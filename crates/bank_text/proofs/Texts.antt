-- The text of list-bank from what compile answers and leaves in a buffer that suffices for every netlist.
-- Assumes nothing.
use Prim.Native.Nat.{ℕ, suc, ◌≤◌}
use mathlib.Core.Path.{◌≡◌, sym, ap, ap₂, ◌∙◌, subst}
use mathlib.Core.List.{List, ◌++◌}
use native.Mathlib.Omega.{arith}
use lib.ListN.{length, drop, length-append}
use Rattle.limits.specs.Limits.{max_operations}
use Rattle.limits.specs.Size.{SampleWidth}
use Rattle.layout_rules.specs.Matrix.{matrix_refusal, rows, columns}
use Rattle.layout_rules.specs.Records.{head_length_of}
use Rattle.layout_rules.specs.Places.{output_place, head_length_in, enough_bytes}
use Rattle.layout_rules.proofs.LittleEndian.{AreBytes}
use Rattle.layout_rules.proofs.InBytes.{head-there}
use Rattle.layout_rules.proofs.MatrixRefusal.{AcceptedMatrix, accepted-matrix}
use Rattle.compile_rules.specs.declared.CompileAnswer.{CompileAnswer}
use Rattle.compile_rules.specs.Compile.{netlist_of, compile_answer, compile_buffer, compile_accepted, compiled_bytes, compiled_netlist, input_refusal}
use Rattle.compile_rules.proofs.Compiled.{input_fine, room-refused, room-accepted, buffer-accepted, compiled-answer, compiled-is, compiled-length, compiled-operations}
use Rattle.text.specs.Text.{refused_line}
use Rattle.listing_rules.specs.declared.Counts.{Counts}
use Rattle.listing_rules.specs.Listing.{listing}
use Rattle.listing_rules.specs.Records.{listing_of}
use Rattle.listing_rules.proofs.Records.{listing-of-netlist}
use Rattle.bank_text.specs.BankText.{counts_of, bank_text}

-- the counts that n, m and an answer give
abbrev pub counts_from : ℕ → ℕ → CompileAnswer → Counts
counts_from n m a =
    record {
      inputs = n;
      outputs = m;
      operations = a.operations;
      plain = a.plain;
      divisors = a.divisors;
      replacements = a.replacements;
      depth = a.depth;
    }

refused-text : (s : ℕ) (bytes : List ℕ) (r : ℕ) → input_refusal s bytes ≡ suc r → refused_line (suc r) 0 ≡ bank_text s bytes
unfolding bank_text
refused-text s bytes r e = sym (rw (e, bank_text))

accepted-text : (s : ℕ) (bytes : List ℕ) → input_refusal s bytes ≡ 0
    → listing (counts_of s bytes) (compiled_netlist s bytes).operations (compiled_netlist s bytes).outputs ≡ bank_text s bytes
unfolding bank_text
accepted-text s bytes e = sym (rw (e, bank_text))

module _ (s : ℕ) (bytes : List ℕ) (all : AreBytes bytes) (old after : List ℕ) (answer : CompileAnswer)
    (room : enough_bytes ≡ length old) (answered : answer ≡ compile_answer s bytes (length old)) (left : after ≡ compile_buffer s bytes old) where
  -- compile refuses exactly where what it reads is refused
  pub text-refused : (answer.refusal ≡ 0 → ⊥) → refused_line answer.refusal answer.place ≡ bank_text s bytes
  text-refused no_zero =
      let is = room-refused s bytes all (length old) (omega arith) answer answered no_zero in
      ap (λ (a : CompileAnswer). refused_line a.refusal a.place) is.2 ∙ refused-text s bytes is.0 is.1

  module _ (is_zero : answer.refusal ≡ 0) where
    taken : input_refusal s bytes ≡ 0
    taken = (room-accepted s bytes all (length old) (omega arith) answer answered is_zero).0

    takes : answer ≡ compile_accepted s bytes
    takes = (room-accepted s bytes all (length old) (omega arith) answer answered is_zero).1

    fine : SampleWidth s × (matrix_refusal bytes ≡ 0)
    fine = input_fine s bytes taken

    pub limits : AcceptedMatrix bytes
    limits = accepted-matrix bytes fine.1

    pub few : answer.operations ≤ max_operations
    few = subst (λ (a : CompileAnswer). a.operations ≤ max_operations) (sym takes) (compiled-operations s bytes all fine.1)

    behind : List ℕ
    behind = drop (length (compiled_bytes s bytes)) old

    written : after ≡ compiled_bytes s bytes ++ behind
    unfolding behind
    written = left ∙ buffer-accepted s bytes old taken (omega (arith, compiled-length s bytes all fine.1))

    head-due : head_length_in after ≡ head_length_of s
    unfolding netlist_of
    head-due = ap head_length_in written ∙ head-there (compiled_netlist s bytes) behind

    -- the head, the operations and the outputs stand in the buffer
    pub long : output_place (head_length_in after) answer.operations (rows bytes) ≤ length after
    long = omega (
      arith,
      head-due,
      ap length written ∙ length-append (compiled_bytes s bytes) behind,
      (compiled-answer s bytes all fine.1).written,
      ap (λ (a : CompileAnswer). a.operations) takes,
    )

    pub text-accepted : (n m : ℕ) → n ≡ columns bytes → m ≡ rows bytes → listing_of (counts_from n m answer) after ≡ bank_text s bytes
    unfolding netlist_of
    text-accepted n m same-columns same_rows =
        ap₂ (λ (n m : ℕ). listing_of (counts_from n m answer) after) same-columns same_rows
        ∙ ap₂ (λ (a : CompileAnswer) (b : List ℕ). listing_of (counts_from (columns bytes) (rows bytes) a) b) takes written
        ∙ listing-of-netlist (compiled_netlist s bytes) (counts_of s bytes) behind (sym (compiled-is s bytes all fine.1 fine.0).count) (sym (compiled-is s bytes all fine.1 fine.0).one_per_row)
        ∙ accepted-text s bytes taken
