-- `market::read_entries` meets its contract. Assumes nothing.
use lib.ListN.{length}
use Rattle.market.proofs.Reading.{ReadSoFar}
use Rattle.market.proofs.read_entries.Given as goal

abbrev pub invariant-loop-count : goal.invariant-loop-count
invariant-loop-count l = ReadSoFar l.text (length l.initial.words) l.words l.count l.bytes
