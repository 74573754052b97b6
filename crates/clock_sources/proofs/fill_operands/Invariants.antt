-- `clock_sources::fill_operands` meets its contract. The places of the operands of the operations before k are in the table. Assumes nothing.
use Rattle.clock_sources.proofs.SourceLaws.{OperandsBefore}
use Rattle.clock_sources.proofs.fill_operands.Given as goal

abbrev pub invariant-loop-k : goal.invariant-loop-k
invariant-loop-k l = OperandsBefore l.depths.netlist.bytes.now l.k l.operands
