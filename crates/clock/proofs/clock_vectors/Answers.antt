-- `clock::clock_vectors` meets its contract. Assumes nothing.
use mathlib.Core.Path.{◌≡◌, sym, ap, subst, ◌∙◌}
use lib.IntN.{pos}
use lib.ListN.{length}
use Rattle.arrays.proofs.FilledLaws.{length-filled}
use Rattle.limits.specs.Limits.{max_operations}
use native.Mathlib.Numerals.{add-one}
use native.Mathlib.Omega.{arith}
use Rattle.layout_rules.specs.Places.{netlist_in}
use Rattle.clock_rules.proofs.Running.{Running, running_cleared}
use Rattle.clock.proofs.ListLaws.{going_start, ready, rows-lent, clocked-next, all-clocked}
use Rattle.clock.proofs.clock_vectors.Goals as goal

pub loop-clock-init : goal.loop-clock-init
loop-clock-init c = let net = netlist_in c.args.schedule.now.netlist.bytes.now in let store = c.args.store.now in (
  ap length c.filled-values.ensures ∙ length-filled (pos 0) max_operations,
  going_start net c.n-n.result c.m-m.result c.args.clocks c.args.samples.now store c.args.outputs.now
      (subst (Running net) (sym c.requires.store_value.0) (running_cleared net store c.requires.store_value.1)),
)

pub one_clock-requires-clause-store_ready : goal.one_clock-requires-clause-store_ready
one_clock-requires-clause-store_ready c = let N = c.args.schedule.now.netlist in let l = c.loop-clock in
    ready N.bytes.now N.read N.head N.head_read c.n-n.result c.m-m.result c.args.clocks c.n-n.ensures c.m-m.ensures c.args.samples.now c.args.store.now c.args.outputs.now c.requires.samples_len.0 c.requires.samples_len.1 c.requires.samples l.clock l.store l.outputs l.invariant.1 (omega arith)

pub one_clock-requires-clause-lengths : goal.one_clock-requires-clause-lengths
one_clock-requires-clause-lengths c = let N = c.args.schedule.now.netlist in let l = c.loop-clock in
    (l.invariant.0, rows-lent N.bytes.now N.read N.head N.head_read c.n-n.result c.m-m.result c.args.clocks c.n-n.ensures c.m-m.ensures c.args.samples.now c.args.store.now c.args.outputs.now c.requires.samples_len.0 c.requires.samples_len.1 c.requires.samples l.clock l.store l.outputs l.invariant.1 (omega arith))

pub loop-clock-preserved : goal.loop-clock-preserved
loop-clock-preserved c = let N = c.args.schedule.now.netlist in let l = c.loop-clock in
    rw add-one (c.one_clock.ensures.store_after.0, clocked-next N.bytes.now N.read N.head N.head_read c.n-n.result c.m-m.result c.args.clocks c.n-n.ensures c.m-m.ensures c.args.samples.now c.args.store.now c.args.outputs.now c.requires.samples_len.0 c.requires.samples_len.1 c.requires.samples l.clock l.store l.outputs l.invariant.1 (omega arith) c.one_clock.new.store c.one_clock.new.outputs c.one_clock.ensures.store_after.1 c.one_clock.ensures.outputs_after)

pub returns : goal.returns
returns c = let N = c.args.schedule.now.netlist in let l = c.loop-clock in
    let done = all-clocked N.bytes.now N.read N.head N.head_read c.n-n.result c.m-m.result c.args.clocks c.n-n.ensures c.m-m.ensures c.args.samples.now c.args.store.now c.args.outputs.now c.requires.samples_len.0 c.requires.samples_len.1 c.requires.samples l.clock l.store l.outputs l.invariant.1 (omega arith) in record { store_after = done.0; outputs_after = done.1 }
