-- `verilog::write_first` meets its contract. Assumes nothing.
use Rattle.std.proofs.Common.{◌≡◌, refl, eq-eqb, ne_eqb}
use Rattle.text.proofs.Wrote.{wrote_as, wrote_copy}
use Rattle.verilog_rules.specs.Text.{first_line}
use Rattle.verilog.proofs.write_first.Goals.{then-ports-eq0, else-ports-eq0}
use Rattle.verilog.proofs.write_first.Goals as goal

pub returns-clause-wrote : goal.returns-clause-wrote
returns-clause-wrote c =
    let line : c.if-ports-eq0.first.now ≡ first_line c.args.ports = elim c.if-ports-eq0.branch [
      | then-ports-eq0 w ↦ rw (w.first-is, eq-eqb c.args.ports 0 w.if-ports-eq0.true) refl
      | else-ports-eq0 w ↦ rw (w.first-is, ne_eqb c.args.ports 0 w.if-ports-eq0.false) refl
    ] in
    wrote_as line (wrote_copy _ _ _ _ c.copy.ensures.count c.copy.ensures.copied)
