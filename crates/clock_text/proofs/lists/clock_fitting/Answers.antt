-- `clock_text::lists::clock_fitting` meets its contract. Assumes nothing.
use Prim.Native.Nat.{ℕ, ◌*◌, ◌/◌, ◌≤◌}
use mathlib.Core.Path.{◌≡◌, sym, ap, ap₂, ◌∙◌}
use mathlib.Core.List.{List, ◌++◌}
use native.Mathlib.Omega.{arith}
use lib.IntN.{ℤ}
use lib.ListN.{length, take, drop}
use lib.Seq.{length-take-le}
use Rattle.layout_rules.proofs.LittleEndian.{AreBytes}
use Rattle.netlist_rules.specs.declared.ReadAnswer.{ReadAnswer}
use Rattle.netlist_rules.specs.declared.RunAnswer.{RunAnswer}
use Rattle.run_text.specs.RunText.{rows_read}
use Rattle.clock_rules.specs.Answer.{vector_count}
use Rattle.clock_text.specs.ListBytes.{clocks_of, outputs_of, bytes_answer, bytes_outputs, clocked_answer, outputs_after}
use Rattle.clock_text.proofs.ListBytes.{outputs-few}
use Rattle.clock_text.proofs.lists.clock_fitting.Goals as goal
use Rattle.clock_text.proofs.lists.clock_fitting.Lts
use Rattle.clock_text.proofs.lists.clock_fitting.Reads
use Rattle.clock_text.proofs.lists.clock_fitting.Tie

module _ (netlist bytes : List ℕ) where
  answered : (answer : RunAnswer) (rows clocks : ℕ) → answer ≡ bytes_answer netlist bytes (outputs_of netlist bytes) → rows ≡ rows_read netlist → clocks ≡ clocks_of netlist bytes
      → record { refusal = answer.refusal; place = answer.place; rows = rows; clocks = clocks } ≡ clocked_answer netlist bytes
  unfolding clocked_answer
  answered answer rows clocks a r k = rw (a, r, k)

  left_there : (outputs : List ℤ) (count : ℕ) → count ≡ outputs_of netlist bytes
      → bytes_outputs netlist bytes (take count outputs) ++ drop count outputs ≡ outputs_after netlist bytes outputs
  unfolding outputs_after
  left_there outputs count e = ap (λ (k : ℕ). bytes_outputs netlist bytes (take k outputs) ++ drop k outputs) e

-- the vectors are counted
module _ (c : Lts.After-vector_count Tie.the-claims Reads.Pre Reads.Post Tie.handed_clauses) where
  abbrev head : ReadAnswer
  head = c.read-head.result

  abbrev start : Lts.Start Tie.the-claims Reads.Pre Reads.Post Tie.handed_clauses
  start = c.before.before.before.before.before.before

  abbrev netlist : List ℕ
  netlist = start.args.netlist.now

  abbrev bytes : List ℕ
  bytes = start.args.bytes.now

  abbrev outputs : List ℤ
  outputs = start.args.outputs.now

  abbrev count : ℕ
  count = c.vector_count-clocks.result * head.m

  are : AreBytes netlist
  are i = omega (arith, c.shared_slice_known-1.given i)

  rows : head.m ≡ rows_read netlist
  rows = ap (λ (a : ReadAnswer). a.m) c.read-head.ensures

  clocks : c.vector_count-clocks.result ≡ clocks_of netlist bytes
  clocks = c.vector_count-clocks.ensures ∙ ap (λ (a : ReadAnswer). vector_count a.n (length bytes / 4)) c.read-head.ensures

  counted : count ≡ outputs_of netlist bytes
  counted = ap₂ (λ (k m : ℕ). k * m) clocks rows

  room : count ≤ length outputs
  room = omega (arith, counted, outputs-few netlist bytes are start.requires.0, start.requires.1)

pub overflow_mul-count : goal.overflow_mul-count
overflow_mul-count c = omega (arith, room c.before)

pub slice_bounds-clock_on_bytes-end : goal.slice_bounds-clock_on_bytes-end
slice_bounds-clock_on_bytes-end c = room c.before

pub slice_bounds-clock_on_bytes-end-2 : goal.slice_bounds-clock_on_bytes-end-2
slice_bounds-clock_on_bytes-end-2 c = let v = c in sym (length-take-le (count v.before.before) (outputs v.before.before) (room v.before.before))

pub returns : goal.returns
returns c =
    let r = c in
    let v = r in
    let answer : r.clock_on_bytes-answer.result ≡ bytes_answer (netlist v.before.before.before.before) (bytes v.before.before.before.before) (outputs_of (netlist v.before.before.before.before) (bytes v.before.before.before.before)) =
    r.clock_on_bytes-answer.ensures.value
    ∙ ap (bytes_answer (netlist v.before.before.before.before) (bytes v.before.before.before.before)) (length-take-le (count v.before.before.before.before) (outputs v.before.before.before.before) (room v.before.before.before.before) ∙ counted v.before.before.before.before) in record {
      value = answered (netlist v.before.before.before.before) (bytes v.before.before.before.before) r.clock_on_bytes-answer.result _ _ answer (rows v.before.before.before.before) (clocks v.before.before.before.before);
      outputs_after = ap (λ (l : List ℤ). l ++ drop (count v.before.before.before.before) (outputs v.before.before.before.before)) r.clock_on_bytes-answer.ensures.outputs_after ∙ left_there (netlist v.before.before.before.before) (bytes v.before.before.before.before) (outputs v.before.before.before.before) (count v.before.before.before.before) (counted v.before.before.before.before);
    }
