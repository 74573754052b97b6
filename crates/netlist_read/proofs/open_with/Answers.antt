-- `netlist_read::open_with` meets its contract. Assumes nothing.
use mathlib.Core.Path.{◌≡◌, sym, ap₂, ◌∙◌, refl}
use native.Mathlib.Omega.{arith}
use Rattle.layout_rules.proofs.InBytes.{length-due}
use Rattle.netlist_rules.specs.Read.{head_refusal, refused}
use Rattle.refusals.proofs.NumberLaws.{number-positive}
use Rattle.refusals.specs.Numbers.{number}
use Rattle.netlist_tests.proofs.RecordLaws.{head-due}
use Rattle.netlist_read.proofs.NetlistLaws.{head_declines}
use Rattle.netlist_read.proofs.open_with.Goals as goal

pub returns-in-Err-clause-err : goal.returns-in-Err-clause-err
returns-in-Err-clause-err c =
    let b = c.args.bytes.now in
    let r = c.in-Err.refusal in
    let e : number r ≡ head_refusal b = c.in-Err.ensures.refusal in
    rw c.at.ensures (head_declines b (λ z. omega (arith, number-positive r, e, z)) ∙ ap₂ refused (sym e) refl)

pub due_length-requires : goal.due_length-requires
due_length-requires c = omega (arith, length-due c.args.bytes.now)

pub invariant_of-records : goal.invariant_of-records
invariant_of-records c =
    let b = c.args.bytes.now in
    let due : head_refusal b ≡ 0 = sym c.in_default.ensures.refusal in
    record {
      head_due = due;
      head_read = c.head_at.ensures;
      head_limits = rw c.head_at.ensures (head-due b due).1.limits;
      start_read = c.due_length.ensures;
      start_small = omega (arith, c.due_length.ensures, length-due b);
    }
