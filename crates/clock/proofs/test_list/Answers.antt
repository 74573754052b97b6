-- `clock::test_list` meets its contract. Assumes nothing.
use Prim.Native.Nat.{ℕ, ◌*◌, ◌≤◌}
use mathlib.Core.Path.{◌≡◌, sym, ◌∙◌, ap, ap₂}
use native.Mathlib.Nat.{mul-le-mul}
use native.Mathlib.Omega.{arith}
use lib.ListN.{length}
use Rattle.limits.specs.Limits.{max_rows}
use Rattle.layout_rules.specs.declared.Head.{Head}
use Rattle.netlist_read.proofs.NetlistLaws.{head-limits}
use Rattle.clock_rules.specs.Answer.{vector_count}
use Rattle.clock_rules.proofs.AnswerLaws.{vectors-few, list_store-short, list_not-whole, list_outputs-differ, list_counted}
use Rattle.clock.proofs.ListLaws.{width-right}
use Rattle.clock.proofs.test_list.Goals as goal

pub returns-then-store-total : goal.returns-then-store-total
returns-then-store-total c = rw c.at.ensures (sym (list_store-short c.args.netlist.now.head c.args.total c.args.samples.now c.args.store c.args.outputs (omega arith)))

pub returns-then-samples-clocks : goal.returns-then-samples-clocks
returns-then-samples-clocks c =
    rw c.at-then-samples-clocks.ensures (sym (list_not-whole c.args.netlist.now.head c.args.total c.args.samples.now c.args.store c.args.outputs (omega arith)
    (rw (c.vector_count-clocks.ensures, c.n.ensures, c.n-2.ensures) at c.if-samples-clocks.true)))

pub overflow_mul-clocks-2 : goal.overflow_mul-clocks-2
overflow_mul-clocks-2 c =
    let N = c.args.netlist.now in
    let count = vector_count N.head.n (length c.args.samples.now) in
    let rows : N.head.m ≤ max_rows = omega (arith, ap (λ (h : Head). h.m) N.head_read, (head-limits N.bytes.now N.read).limits.rows-most) in
    let made : c.vector_count-clocks.result * c.m.result ≡ count * N.head.m = ap₂ (λ (k m : ℕ). k * m) (rw c.n.ensures at c.vector_count-clocks.ensures) c.m.ensures in
    let few : count * N.head.m ≤ length c.args.samples.now * max_rows = mul-le-mul (vectors-few N.head.n (length c.args.samples.now)) rows in
    omega (arith, made, few)

pub returns-then-outputs-clocks : goal.returns-then-outputs-clocks
returns-then-outputs-clocks c =
    rw c.at-then-outputs-clocks.ensures (sym (list_outputs-differ c.args.netlist.now.head c.args.total c.args.samples.now c.args.store c.args.outputs (omega arith)
    (rw (c.vector_count-clocks.ensures, c.n.ensures, c.n-2.ensures) at c.if-samples-clocks.false)
    (rw (c.vector_count-clocks.ensures, c.n.ensures, c.m.ensures) at c.if-outputs-clocks.true)))

pub fit_answer-requires : goal.fit_answer-requires
fit_answer-requires c = let N = c.args.netlist.now in width-right N.bytes.now N.read N.head N.head_read

pub returns : goal.returns
returns c =
    c.fit_answer.ensures
    ∙ sym (list_counted c.args.netlist.now.head c.args.total c.args.samples.now c.args.store c.args.outputs (omega arith)
    (rw (c.vector_count-clocks.ensures, c.n.ensures, c.n-2.ensures) at c.if-samples-clocks.false)
    (rw (c.vector_count-clocks.ensures, c.n.ensures, c.m.ensures) at c.if-outputs-clocks.false))
