-- What the program prints is the text: with as much lent as it lends, the line of the refusal, or the line of each clock in order.
-- Assumes nothing.
use Prim.Native.Nat.{ℕ, zero, suc, ◌+◌, ◌*◌, ◌/◌, ◌≤◌, ◌<◌}
use mathlib.Core.Path.{◌≡◌, refl, sym, ap, ap₂, ◌∙◌}
use mathlib.Core.List.{List, ◌++◌, flat_map}
use native.Mathlib.Nat.{suc-mul, mul-le-mul_right}
use native.Mathlib.Omega.{arith}
use lib.IntN.{ℤ}
use lib.ListN.{length, take, drop, length-append, length-drop}
use lib.Seq.{length-take-le}
use borrow.Author.Tests.{le-ltb, le-leb}
use Rattle.limits.specs.Limits.{max_rows}
use Rattle.layout_rules.specs.Records.{Netlist}
use Rattle.layout_rules.specs.Places.{first_records}
use Rattle.layout_rules.proofs.LittleEndian.{AreBytes}
use Rattle.netlist_rules.specs.Read.{Reading, refused, accepted, read_netlist, read_answer}
use Rattle.netlist_rules.proofs.ReadAccepts.{flat_snoc}
use Rattle.clock_rules.specs.Clocked.{clocked_outputs}
use Rattle.clock_rules.specs.Answer.{vectors_in}
use Rattle.clock_rules.proofs.AnswerLaws.{vectors-few}
use Rattle.run_text.proofs.Texts.{rows_few}
use Rattle.text.specs.Text.{refused_line}
use Rattle.text.specs.Wrote.{text_in}
use Rattle.clock_text.specs.Lines.{clock_line, outputs_at, clock_lines, longest_clock_line, line_there, line_in}
use Rattle.clock_text.specs.ListBytes.{most_samples, store_lent, list_of, outputs_of, bytes_outputs, clocked_answer, outputs_after, fitting, clocked_in, outputs_in}
use Rattle.clock_text.specs.ClockText.{clock_text}
use Rattle.clock_text.specs.declared.lists.Clocked.{Clocked}
use Rattle.clock_text.proofs.ListBytes.{outputs-few}
use Rattle.clock_text.proofs.Texts.{length_in_order, text-refused, no_clocks, clocks-are, rows_are, row-each, outputs_left, text-printed}

-- a line that is there, with room for the longest
line-there : (lent m : ℕ) (outputs : List ℤ) (t : ℕ) → longest_clock_line ≤ lent → m ≤ max_rows → t ≤ length outputs → t * m + m ≤ length outputs
    → line_in lent m outputs t ≡ clock_line (outputs_at m outputs t)
unfolding line_in line_there
line-there lent m outputs t room few early there =
    rw (le-leb m max_rows few, le-leb t (length outputs) early, le-leb (t * m + m) (length outputs) there, line_in, line_there) (rw (le-ltb lent longest_clock_line room, text_in))

-- lines in order, where each is there
lines-there : (lent m : ℕ) (outputs : List ℤ) (clocks : ℕ) → ((t : ℕ) → t < clocks → line_in lent m outputs t ≡ clock_line (outputs_at m outputs t))
    → flat_map (line_in lent m outputs) (first_records (λ t. t) clocks) ≡ clock_lines m outputs clocks
unfolding first_records flat_map
lines-there lent m outputs zero each = refl
lines-there lent m outputs (suc clocks) each =
    flat_snoc (line_in lent m outputs) (first_records (λ t. t) clocks) clocks
    ∙ ap₂ (λ (l k : List ℕ). l ++ k) (lines-there lent m outputs clocks (λ t h. each t (omega arith))) (each clocks (omega arith))
    ∙ sym (flat_snoc clock_line (first_records (outputs_at m outputs) clocks) (outputs_at m outputs clocks))

module _ (netlist bytes : List ℕ) (outputs : List ℤ) (all : AreBytes netlist) (short : length bytes ≤ 4 * most_samples) (room : max_rows * most_samples ≤ length outputs) where
  abbrev answer : Clocked
  answer = clocked_in (length outputs) netlist bytes

  abbrev left : List ℤ
  left = outputs_in netlist bytes outputs

  answer-is : answer ≡ clocked_answer netlist bytes
  unfolding clocked_in fitting
  answer-is = rw (le-leb (length bytes) (4 * most_samples) short, le-leb (max_rows * most_samples) (length outputs) room, clocked_in, fitting)

  left_is : left ≡ outputs_after netlist bytes outputs
  unfolding outputs_in fitting
  left_is = rw (le-leb (length bytes) (4 * most_samples) short, le-leb (max_rows * most_samples) (length outputs) room, outputs_in, fitting)

  pub printed-refusal : (answer.refusal ≡ 0 → ⊥) → refused_line answer.refusal answer.place ≡ clock_text netlist bytes
  printed-refusal h = rw answer-is (text-refused netlist bytes (rw answer-is at h))

  -- ---- where nothing is refused

  abbrev clocked : Clocked
  clocked = clocked_answer netlist bytes

  counted : clocked.clocks * clocked.rows ≡ outputs_of netlist bytes
  unfolding clocked_answer
  counted = refl

  rows-most : clocked.rows ≤ max_rows
  unfolding clocked_answer
  rows-most = rows_few netlist all

  clocks-most : clocked.clocks ≤ most_samples
  unfolding clocked_answer
  clocks-most = omega (arith, vectors-few (read_answer netlist).n (length bytes / 4))

  module _ (accepts : clocked.refusal ≡ 0) where
    -- as many outputs as before
    length-after : (net : Netlist) → read_netlist netlist ≡ accepted net → length (outputs_after netlist bytes outputs) ≡ length outputs
    unfolding outputs_after
    length-after net reads =
        let count : ℕ = outputs_of netlist bytes in
        let few : count ≤ length outputs = omega (arith, outputs-few netlist bytes all short) in
        let filled : length (bytes_outputs netlist bytes (take count outputs)) ≡ count =
        ap length (outputs_left netlist bytes accepts net reads (take count outputs) (length-take-le count outputs few))
        ∙ length_in_order net.head.m (clocked_outputs net store_lent (vectors_in net (list_of bytes))) (row-each netlist bytes accepts net reads all)
        ∙ ap₂ (λ (k m : ℕ). k * m) (sym (clocks-are netlist bytes accepts net reads)) (sym (rows_are netlist bytes accepts net reads))
        ∙ counted in
        length-append (bytes_outputs netlist bytes (take count outputs)) (drop count outputs) ∙ omega (arith, length-drop count outputs)

    each : (lent t : ℕ) → longest_clock_line ≤ lent → t < clocked.clocks
        → line_in lent clocked.rows (outputs_after netlist bytes outputs) t ≡ clock_line (outputs_at clocked.rows (outputs_after netlist bytes outputs) t)
    each lent t long h = go (read_netlist netlist) refl
      where
        go : (x : Reading Netlist) → read_netlist netlist ≡ x
            → line_in lent clocked.rows (outputs_after netlist bytes outputs) t ≡ clock_line (outputs_at clocked.rows (outputs_after netlist bytes outputs) t)
        go (refused r place) e = absurd (omega (arith, no_clocks netlist bytes r place e))
        go (accepted net) e =
            let next : suc t * clocked.rows ≤ clocked.clocks * clocked.rows = mul-le-mul_right clocked.rows h in
            line-there lent clocked.rows (outputs_after netlist bytes outputs) t long rows-most
            (omega (arith, length-after net e, clocks-most))
            (omega (arith, length-after net e, counted, suc-mul t clocked.rows, outputs-few netlist bytes all short))

  pub printed-lines : (lent : ℕ) → longest_clock_line ≤ lent → answer.refusal ≡ 0
      → flat_map (line_in lent answer.rows left) (first_records (λ t. t) answer.clocks) ≡ clock_text netlist bytes
  printed-lines lent long accepts =
      let here : clocked.refusal ≡ 0 = rw answer-is at accepts in
      rw (answer-is, left_is) (
      lines-there lent clocked.rows (outputs_after netlist bytes outputs) clocked.clocks (λ t h. each here lent t long h)
      ∙ text-printed netlist bytes here all outputs (omega (arith, outputs-few netlist bytes all short))
      )
