-- `clock_sources::fill_outputs` meets its contract. The places of the outputs before i are in the table. Assumes nothing.
use Rattle.clock_sources.proofs.SourceLaws.{OutputsBefore}
use Rattle.clock_sources.proofs.fill_outputs.Given as goal

abbrev pub invariant-loop-i : goal.invariant-loop-i
invariant-loop-i l = OutputsBefore l.depths.netlist.bytes.now l.i l.sources
