-- `netlist_tests::head_refusal` meets its contract. Assumes nothing.
use Rattle.netlist_tests.proofs.RecordLaws.{no_kind}
use Rattle.netlist_tests.proofs.head_refusal.Goals as goal

pub returns-then-bytes-lt4-clause-refusal : goal.returns-then-bytes-lt4-clause-refusal
returns-then-bytes-lt4-clause-refusal c = no_kind _ c.if-bytes-lt4.true
