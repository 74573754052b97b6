-- `Records::outputs` meets its contract. Assumes nothing.
use mathlib.Core.Path.{◌≡◌, sym, ap, ap₂, ◌∙◌}
use Prim.Native.Nat.{ℕ}
use mathlib.Core.List.{List}
use native.Mathlib.Omega.{arith}
use lib.ListN.{length}
use Rattle.layout_rules.specs.declared.Output.{Output}
use Rattle.layout_rules.specs.Places.{output_place, head_length_in, operation_at, output_at, first_records, first_operations}
use Rattle.layout_rules.proofs.FirstRecords.{length-first}
use Rattle.netlist_rules.specs.Read.{refused, output_refusal}
use Rattle.refusals.proofs.NumberLaws.{number-positive}
use Rattle.refusals.specs.Numbers.{number}
use Rattle.netlist_tests.proofs.RecordLaws.{records_refused, records_accepted}
use Rattle.netlist_read.proofs.records.Records.outputs.Goals as goal

module _ (b : List ℕ) (bits n operations : ℕ) where
  abbrev counted : ℕ
  counted = length (first_operations b operations)

  abbrev refusal : List Output → ℕ
  refusal outputs = output_refusal b bits n (first_operations b operations) (length outputs)

  -- output i's refusal is that of the outputs before it
  refusal_is : (i : ℕ) → refusal (first_records (output_at b counted) i) ≡ output_refusal b bits n (first_operations b operations) i
  refusal_is i = ap (output_refusal b bits n (first_operations b operations)) (length-first (output_at b counted) i)

pub returns-in-Err-clause-err : goal.returns-in-Err-clause-err
returns-in-Err-clause-err c =
    let s = c.args.self.now in
    let b = s.bytes.now in
    let k = s.head.operations in
    let i = c.loop-i.i in
    let r = c.in-Err.refusal in
    let e : number r ≡ refusal b s.head.width s.head.n k (first_records (output_at b (counted b s.head.width s.head.n k)) i) = c.in-Err.ensures ∙ sym (refusal_is b s.head.width s.head.n k i) in
    let at : output_place (head_length_in b) (counted b s.head.width s.head.n k) i ≡ c.output_place.result = omega (arith, s.start_read, length-first (operation_at b) k) in
    rw c.at.ensures (records_refused (refusal b s.head.width s.head.n k) (output_place (head_length_in b) (counted b s.head.width s.head.n k)) (output_at b (counted b s.head.width s.head.n k)) s.head.m i (omega arith)
    (λ j l. refusal_is b s.head.width s.head.n k j ∙ c.loop-i.invariant j l) (λ z. omega (arith, number-positive r, e, z)) ∙ ap₂ refused (sym e) at)

pub returns-clause-ok : goal.returns-clause-ok
returns-clause-ok c =
    let s = c.args.self.now in
    let b = s.bytes.now in
    let k = s.head.operations in
    records_accepted (refusal b s.head.width s.head.n k) (output_place (head_length_in b) (counted b s.head.width s.head.n k)) (output_at b (counted b s.head.width s.head.n k)) s.head.m
    (λ j l. refusal_is b s.head.width s.head.n k j ∙ c.loop-i.invariant j (omega arith))
