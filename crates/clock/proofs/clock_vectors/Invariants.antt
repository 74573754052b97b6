-- `clock::clock_vectors` meets its contract. What is left to do is the vectors from this clock on. Assumes nothing.
use mathlib.Core.Path.{◌≡◌}
use lib.ListN.{length}
use Rattle.limits.specs.Limits.{max_operations}
use Rattle.layout_rules.specs.Places.{netlist_in}
use Rattle.clock.proofs.ListLaws.{Going}
use Rattle.clock.proofs.clock_vectors.Given as goal

abbrev pub invariant-loop-clock : goal.invariant-loop-clock
invariant-loop-clock l =
    (length l.values ≡ max_operations) × Going (netlist_in l.schedule.netlist.bytes.now) l.n l.m l.clocks l.samples l.initial.store l.initial.outputs l.store l.outputs l.clock
