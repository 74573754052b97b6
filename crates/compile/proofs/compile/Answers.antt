-- `compile::compile` meets its contract. Assumes nothing.
use native.Mathlib.Omega.{arith}
use Prim.Native.Nat.{ℕ, ◌≤◌, ◌<◌}
use mathlib.Core.Path.{sym, ap, ◌∙◌}
use lib.ListN.{length}
use Rattle.std.proofs.Common.{rules}
use Rattle.layout_rules.proofs.LittleEndian.{AreBytes}
use Rattle.layout_rules.proofs.Lengths.{head-length}
use Rattle.compile_rules.specs.Compile.{compiled_bytes, compile_refused}
use Rattle.refusals.proofs.NumberLaws.{number-positive}
use Rattle.refusals.specs.Numbers.{number}
use Rattle.compile_rules.proofs.Compiled.{input_fine, answer-short, answer-accepted, buffer-short, buffer-accepted}
use Rattle.compile.proofs.AnswerLaws.{declined, operations-few, counts-few, size-planned, planned_writable, accepted-is, buffer-is}
use Rattle.compile.proofs.compile.Goals as goal

pub returns-in-Err : goal.returns-in-Err
returns-in-Err c =
    let s = c.args in
    let r = c.in-Err.refusal in
    let both = declined s.sample_width s.matrix.now s.buffer.now (number r) c.in-Err.ensures (λ z. omega (arith, number-positive r, z)) in
    record { value = c.refused.ensures ∙ ap (λ (x : ℕ). compile_refused x 0) c.number.ensures ∙ both.0; buffer_after = both.1 }

pub plan-plan-requires : goal.plan-plan-requires
plan-plan-requires c = (input_fine c.args.sample_width c.args.matrix.now (sym c.in_default.ensures)).1

pub netlist_length-size-requires : goal.netlist_length-size-requires
netlist_length-size-requires c =
    let s = c.args.sample_width in
    let bytes = c.args.matrix.now in
    let all : AreBytes bytes = search rules in (
      omega (arith, c.head_length-head.ensures, head-length s),
      omega (arith, c.count-count.ensures.number, operations-few s bytes all (sym c.in_default.ensures) c.plan-plan.result c.plan-plan.ensures),
      omega (arith, c.count.ensures.within),
    )

pub returns-then-buffer-size : goal.returns-then-buffer-size
returns-then-buffer-size c =
    let s = c.args.sample_width in
    let bytes = c.args.matrix.now in
    let room = length c.args.buffer.now in
    let all : AreBytes bytes = search rules in
    let read = sym c.in_default.ensures in
    let plan = c.plan-plan in
    let size = size-planned s bytes all read plan.result plan.ensures _ _ _ _ c.netlist_length-size.ensures c.head_length-head.ensures c.count-count.ensures.number c.count.ensures.number in
    let short : room < length (compiled_bytes s bytes) = omega (arith, size) in
    record {
      value = c.refused-then-buffer-size.ensures ∙ ap (λ (x : ℕ). compile_refused x 0) c.number-then-buffer-size.ensures ∙ sym (answer-short s bytes room read short);
      buffer_after = sym (buffer-short s bytes c.args.buffer.now read short);
    }

pub write_netlist-depth-requires : goal.write_netlist-depth-requires
write_netlist-depth-requires c =
    let s = c.args.sample_width in
    let bytes = c.args.matrix.now in
    let all : AreBytes bytes = search rules in
    let read = sym c.in_default.ensures in
    record {
      sample_width = (input_fine s bytes read).0;
      writable = planned_writable s bytes all read c.plan-plan.result c.plan-plan.ensures c.column_count-n.result c.column_count-n.ensures;
      outputs_in_bounds = omega (arith, c.netlist_length-size.ensures, c.head_length-head.ensures, c.count-count.ensures.number, c.count.ensures.number);
    }

pub overflow_cast-result-2 : goal.overflow_cast-result-2
overflow_cast-result-2 c =
    let all : AreBytes c.args.matrix.now = search rules in
    omega (arith, counts-few c.args.sample_width c.args.matrix.now all (sym c.in_default.ensures) c.plan-plan.result c.plan-plan.ensures)

pub overflow_cast-result-3 : goal.overflow_cast-result-3
overflow_cast-result-3 c =
    let all : AreBytes c.args.matrix.now = search rules in
    omega (arith, counts-few c.args.sample_width c.args.matrix.now all (sym c.in_default.ensures) c.plan-plan.result c.plan-plan.ensures)

pub overflow_cast-result-4 : goal.overflow_cast-result-4
overflow_cast-result-4 c =
    let all : AreBytes c.args.matrix.now = search rules in
    omega (arith, counts-few c.args.sample_width c.args.matrix.now all (sym c.in_default.ensures) c.plan-plan.result c.plan-plan.ensures)

pub returns : goal.returns
returns c =
    let s = c.args.sample_width in
    let bytes = c.args.matrix.now in
    let room = length c.args.buffer.now in
    let all : AreBytes bytes = search rules in
    let read = sym c.in_default.ensures in
    let plan = c.plan-plan in
    let n = c.column_count-n.ensures in
    let written = c.write_netlist-depth.ensures in
    let size = size-planned s bytes all read plan.result plan.ensures _ _ _ _ c.netlist_length-size.ensures c.head_length-head.ensures c.count-count.ensures.number c.count.ensures.number in
    let fits : length (compiled_bytes s bytes) ≤ room = omega (arith, size) in
    record {
      value = accepted-is s bytes all read plan.result plan.ensures _ _ _ _ _ n size c.count-count.ensures.number written.value c.negated_count.ensures
          ∙ sym (answer-accepted s bytes room read fits);
      buffer_after = written.buffer_after ∙ buffer-is s bytes all read plan.result plan.ensures c.args.buffer.now _ _ c.row_count-m.ensures n ∙ sym (buffer-accepted s bytes c.args.buffer.now read fits);
    }
