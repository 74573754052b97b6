-- `Records::operations` meets its contract. Assumes nothing.
use mathlib.Core.Path.{◌≡◌, sym, ap₂, ◌∙◌}
use native.Mathlib.Omega.{arith}
use Rattle.layout_rules.specs.Places.{operation_place, head_length_in, operation_at, first_operations}
use Rattle.netlist_rules.specs.Read.{refused, operation_refusal}
use Rattle.refusals.proofs.NumberLaws.{number-positive}
use Rattle.refusals.specs.Numbers.{number}
use Rattle.netlist_tests.proofs.RecordLaws.{records_refused, records_accepted}
use Rattle.netlist_read.proofs.records.Records.operations.Goals as goal

pub returns-in-Err-clause-err : goal.returns-in-Err-clause-err
returns-in-Err-clause-err c =
    let s = c.args.self.now in
    let b = s.bytes.now in
    let k = c.loop-k.k in
    let r = c.in-Err.refusal in
    let e : number r ≡ operation_refusal b s.head.width s.head.n (first_operations b k) = c.in-Err.ensures.refusal in
    let at : operation_place (head_length_in b) k ≡ c.operation_place.result = omega (arith, s.start_read) in
    rw c.at.ensures (records_refused (operation_refusal b s.head.width s.head.n) (operation_place (head_length_in b)) (operation_at b) s.head.operations k (omega arith) c.loop-k.invariant.1.1
    (λ z. omega (arith, number-positive r, e, z)) ∙ ap₂ refused (sym e) at)

pub returns-clause-ok : goal.returns-clause-ok
returns-clause-ok c =
    let s = c.args.self.now in
    let b = s.bytes.now in
    records_accepted (operation_refusal b s.head.width s.head.n) (operation_place (head_length_in b)) (operation_at b) s.head.operations (λ j l. c.loop-k.invariant.1.1 j (omega arith))
