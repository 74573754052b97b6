-- `clock_edge::shift_delays` meets its contract. What is left to do is the shift from the first symbol behind j entries on. Assumes nothing.
use Prim.Native.Nat.{◌+◌}
use Rattle.clock_rules.specs.Tables.{behind_entry}
use Rattle.clock_edge.proofs.ShiftLaws.{Left}
use lib.ListN.{length}
use Rattle.clock_edge.proofs.shift_delays.Given as goal

abbrev pub invariant-loop-symbol : goal.invariant-loop-symbol
invariant-loop-symbol l =
    let s = l.schedule in let operations = s.netlist.head.operations in
    Left s.longest.now l.samples operations (length l.samples + operations) l.initial.store l.store l.place (behind_entry s.waiting.now l.symbol-index)
