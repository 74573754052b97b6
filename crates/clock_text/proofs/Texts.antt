-- What clock-bank prints: the refusal, or the lines of what clock leaves in the lent outputs, and these are the outputs of the netlist's
-- clocked form, a line a clock.
-- Assumes nothing.
use Prim.Native.Nat.{ℕ, zero, suc, ◌+◌, ◌*◌, ◌/◌, ◌%◌, ◌≤◌, ◌<◌}
use mathlib.Core.Path.{◌≡◌, refl, sym, ap, ap₂, ◌∙◌}
use mathlib.Core.Bool.{Bool, true, false}
use mathlib.Core.List.{List, [], ◌∷◌, ◌++◌, flat_map, append-nil}
use native.Mathlib.Nat.{suc-mul, mul-le-mul_right}
use native.Mathlib.Omega.{arith}
use lib.Dec.{eqb}
use lib.IntN.{ℤ, pos}
use lib.ListN.{length, get_or, take, drop, length-append, length-drop}
use lib.Seq.{take-append-le, drop-append-le, take_at, drop_at, drop-drop, length-take-le}
use borrow.Author.Tests.{eqb-true, eqb-false}
use Rattle.layout_rules.specs.Records.{Netlist}
use Rattle.layout_rules.specs.Places.{first_records}
use Rattle.layout_rules.proofs.FirstRecords.{first-is, length-first}
use Rattle.layout_rules.proofs.LittleEndian.{AreBytes}
use Rattle.board_rules.specs.Table.{filled}
use Rattle.board_rules.proofs.TableLaws.{length-filled}
use Rattle.netlist_rules.specs.declared.RunAnswer.{RunAnswer}
use Rattle.netlist_rules.specs.Read.{Reading, refused, accepted, read_netlist, read_answer_of, read_answer}
use Rattle.netlist_rules.specs.Run.{ran}
use Rattle.netlist_rules.proofs.ReadAccepts.{reads_netlist}
use Rattle.run_text.specs.Samples.{sample_at}
use Rattle.clock_rules.specs.Clocked.{edge, outputs_from, cleared, clocked_outputs, in_order}
use Rattle.clock_rules.specs.Pipelined.{Vectors}
use Rattle.clock_rules.specs.Delays.{registers}
use Rattle.clock_rules.specs.Answer.{vector_count, vectors_in, list_answer, clock_answer}
use Rattle.clock_rules.proofs.Flat.{length-vectors, outputs-whole}
use Rattle.clock_rules.proofs.AnswerLaws.{list_accepts}
use Rattle.text.specs.Text.{refused_line}
use Rattle.clock_text.specs.Lines.{outputs_at, clock_line, clock_lines}
use Rattle.clock_text.specs.ListBytes.{store_length, store_lent, list_of, outputs_of, or_not_whole, bytes_answer, bytes_outputs, clocked_answer, outputs_after}
use Rattle.clock_text.specs.ClockText.{clock_text}
use Rattle.clock_text.specs.declared.lists.Clocked.{Clocked}
use Rattle.clock_text.proofs.ListBytes.{whole-answer, whole-outputs, part_answer}

-- ---- outputs one clock after another

pub length_in_order : (m : ℕ) (clocks : List (List ℤ)) → Vectors m clocks → length (in_order clocks) ≡ length clocks * m
unfolding in_order
length_in_order m [] v = omega arith
length_in_order m (ys ∷ clocks) v =
    length-append ys (in_order clocks) ∙ omega (arith, v.0, length_in_order m clocks v.1, suc-mul (length clocks) m)

-- those of clock t
pub outputs-of_clock : (m : ℕ) (clocks : List (List ℤ)) → Vectors m clocks → (t : ℕ) (d : List ℤ) → t < length clocks
    → outputs_at m (in_order clocks) t ≡ get_or clocks t d
unfolding in_order
outputs-of_clock m [] v t d h = absurd (omega arith)
outputs-of_clock m (ys ∷ clocks) v zero d h = let e : 0 * m ≡ 0 = omega arith in rw e (take_at ys (in_order clocks) m v.0)
outputs-of_clock m (ys ∷ clocks) v (suc t) d h =
    let e : suc t * m ≡ m + t * m = omega (arith, suc-mul t m) in
    ap (λ k. take m (drop k (ys ++ in_order clocks))) e
    ∙ ap (take m) (sym (drop-drop (t * m) m (ys ++ in_order clocks)) ∙ ap (drop (t * m)) (drop_at ys (in_order clocks) m v.0))
    ∙ outputs-of_clock m clocks v.1 t d (omega arith)

-- what stands behind them changes no line
pub lines-of-clocks : (m : ℕ) (clocks : List (List ℤ)) (rest : List ℤ) → Vectors m clocks
    → clock_lines m (in_order clocks ++ rest) (length clocks) ≡ flat_map clock_line clocks
lines-of-clocks m clocks rest v =
    ap (flat_map clock_line) (first-is (outputs_at m (in_order clocks ++ rest)) (length clocks) clocks refl (λ t d h. before t h ∙ outputs-of_clock m clocks v t d h))
  where
    before : (t : ℕ) → t < length clocks → outputs_at m (in_order clocks ++ rest) t ≡ outputs_at m (in_order clocks) t
    before t h =
        let room : suc t * m ≤ length (in_order clocks) = omega (arith, mul-le-mul_right m h, length_in_order m clocks v) in
        ap (take m) (drop-append-le (t * m) (in_order clocks) rest (omega (arith, suc-mul t m)))
        ∙ take-append-le m (drop (t * m) (in_order clocks)) rest (omega (arith, suc-mul t m, length-drop (t * m) (in_order clocks)))

lines-of-none : (m clocks : ℕ) (outputs others : List ℤ) → clocks ≡ 0 → clock_lines m outputs clocks ≡ clock_lines m others clocks
unfolding first_records
lines-of-none m clocks outputs others e = rw e

-- as many as vectors
length-outputs : (net : Netlist) (store : List ℤ) (vectors : List (List ℤ)) → length (outputs_from net store vectors) ≡ length vectors
unfolding outputs_from
length-outputs net store [] = refl
length-outputs net store (xs ∷ vectors) = ap suc (length-outputs net (edge net xs store) vectors)

-- ---- the text

always_refuses : (empty : RunAnswer) → (or_not_whole empty).refusal ≡ 0 → ⊥
always_refuses empty = go empty.refusal refl
  where
    go : (r : ℕ) → empty.refusal ≡ r → (or_not_whole empty).refusal ≡ 0 → ⊥
    go zero e h = let z : (ran 15 0).refusal ≡ 0 = rw e at h in omega arith
    go (suc r) e h = omega (arith, e, rw e at h)

module _ (netlist bytes : List ℕ) where
  abbrev clocked : Clocked
  clocked = clocked_answer netlist bytes

  refused-text : (r : ℕ) → clocked.refusal ≡ suc r → refused_line (suc r) clocked.place ≡ clock_text netlist bytes
  unfolding clock_text
  refused-text r e = sym (rw (e, clock_text))

  lines-text : clocked.refusal ≡ 0
      → clock_lines clocked.rows (bytes_outputs netlist bytes (filled (outputs_of netlist bytes) (pos 0))) clocked.clocks ≡ clock_text netlist bytes
  unfolding clock_text
  lines-text e = sym (rw (e, clock_text))

  -- a refusal's line is all
  pub text-refused : (clocked.refusal ≡ 0 → ⊥) → refused_line clocked.refusal clocked.place ≡ clock_text netlist bytes
  text-refused h = go clocked.refusal refl
    where
      go : (r : ℕ) → clocked.refusal ≡ r → refused_line r clocked.place ≡ clock_text netlist bytes
      go zero e = absurd (h e)
      go (suc r) e = refused-text r e

  pub no_clocks : (r place : ℕ) → read_netlist netlist ≡ refused r place → clocked.clocks ≡ 0
  unfolding clocked_answer read_answer
  no_clocks r place e = ap (λ (x : Reading Netlist). vector_count (read_answer_of x).n (length bytes / 4)) e

  -- ---- where nothing is refused

  module _ (accepts : clocked.refusal ≡ 0) where
    whole : length bytes % 4 ≡ 0
    unfolding clocked_answer
    whole = go (eqb (length bytes % 4) 0) refl
      where
        go : (b : Bool) → eqb (length bytes % 4) 0 ≡ b → length bytes % 4 ≡ 0
        go true e = eqb-true (length bytes % 4) 0 e
        go false e =
            let answer = part_answer netlist bytes (eqb-false (length bytes % 4) 0 e) (outputs_of netlist bytes) in
            absurd (always_refuses (clock_answer netlist [] store_length 0) (ap (λ (a : RunAnswer). a.refusal) answer ∙ accepts))

    module _ (net : Netlist) (reads : read_netlist netlist ≡ accepted net) where
      abbrev samples : List ℤ
      samples = list_of bytes

      abbrev clocks : List (List ℤ)
      clocks = clocked_outputs net store_lent (vectors_in net samples)

      pub rows_are : clocked.rows ≡ net.head.m
      unfolding clocked_answer read_answer
      rows_are = ap (λ (r : Reading Netlist). (read_answer_of r).m) reads

      pub clocks-are : clocked.clocks ≡ length clocks
      unfolding clocked_answer read_answer
      clocks-are =
          ap (λ (r : Reading Netlist). vector_count (read_answer_of r).n (length bytes / 4)) reads
          ∙ ap (vector_count net.head.n) (sym (length-first (sample_at bytes) (length bytes / 4)))
          ∙ sym (length-outputs net (cleared net store_lent) (vectors_in net samples) ∙ length-vectors net.head.n (vector_count net.head.n (length samples)) samples)

      list_answer_lem : (count : ℕ) → bytes_answer netlist bytes count ≡ list_answer net.head (registers net) samples store_length count
      unfolding clock_answer
      list_answer_lem count = sym (whole-answer netlist bytes whole count) ∙ rw (reads, clock_answer)

      -- what clock leaves in as many outputs as it fills, whatever they held
      pub outputs_left : (outputs : List ℤ) → length outputs ≡ outputs_of netlist bytes → bytes_outputs netlist bytes outputs ≡ in_order clocks
      unfolding clocked_answer
      outputs_left outputs count =
          let answer = list_answer_lem (outputs_of netlist bytes) in
          let lent = ap₂ (λ (k l : ℕ). list_answer net.head (registers net) samples k l) (sym (length-filled (pos 0) store_length)) (sym count) in
          sym (whole-outputs netlist bytes whole outputs)
          ∙ sym (list_accepts netlist samples store_lent outputs net reads (bytes_answer netlist bytes (outputs_of netlist bytes)) (answer ∙ lent) accepts).outputs_left

      module _ (all : AreBytes netlist) where
        pub row-each : Vectors net.head.m clocks
        row-each = rw ((reads_netlist netlist all net).0 reads).netlist.one_per_row at (outputs-whole net (cleared net store_lent) (vectors_in net samples))

        lines_left : (outputs rest : List ℤ) → length outputs ≡ outputs_of netlist bytes
            → clock_lines clocked.rows (bytes_outputs netlist bytes outputs ++ rest) clocked.clocks ≡ flat_map clock_line clocks
        lines_left outputs rest count =
            ap (λ (l : List ℤ). clock_lines clocked.rows (l ++ rest) clocked.clocks) (outputs_left outputs count)
            ∙ ap₂ (λ (m k : ℕ). clock_lines m (in_order clocks ++ rest) k) rows_are clocks-are
            ∙ lines-of-clocks net.head.m clocks rest row-each

        -- a line a clock, its outputs those of the netlist's clocked form
        pub text-of-clocks : clock_text netlist bytes ≡ flat_map clock_line clocks
        text-of-clocks =
            let outputs : List ℤ = filled (outputs_of netlist bytes) (pos 0) in
            sym (lines-text accepts)
            ∙ ap (λ (l : List ℤ). clock_lines clocked.rows l clocked.clocks) (sym (append-nil (bytes_outputs netlist bytes outputs)))
            ∙ lines_left outputs [] (length-filled (pos 0) (outputs_of netlist bytes))

    -- the program prints the lines of what clock_bytes leaves in the outputs lent to it
    pub text-printed : AreBytes netlist → (outputs : List ℤ) → outputs_of netlist bytes ≤ length outputs
        → clock_lines clocked.rows (outputs_after netlist bytes outputs) clocked.clocks ≡ clock_text netlist bytes
    unfolding outputs_after
    text-printed all outputs room = go (read_netlist netlist) refl
      where
        go : (x : Reading Netlist) → read_netlist netlist ≡ x → clock_lines clocked.rows (outputs_after netlist bytes outputs) clocked.clocks ≡ clock_text netlist bytes
        go (refused r place) e =
            lines-of-none clocked.rows clocked.clocks (outputs_after netlist bytes outputs) (bytes_outputs netlist bytes (filled (outputs_of netlist bytes) (pos 0))) (no_clocks r place e)
            ∙ lines-text accepts
        go (accepted net) e =
            lines_left net e all (take (outputs_of netlist bytes) outputs) (drop (outputs_of netlist bytes) outputs) (length-take-le (outputs_of netlist bytes) outputs room)
            ∙ sym (text-of-clocks net e all)
