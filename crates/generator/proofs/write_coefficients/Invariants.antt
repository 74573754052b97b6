-- `generator::write_coefficients` meets its contract. Assumes nothing.
use Rattle.std.proofs.Common.{◌≡◌}
use Rattle.generator.proofs.WriteLaws.{with_coefficients}
use Rattle.generator.proofs.write_coefficients.Given as goal

abbrev pub invariant-loop-index : goal.invariant-loop-index
invariant-loop-index l = with_coefficients l.buffer l.state l.count l.index ≡ with_coefficients l.initial.buffer l.seed l.count 0
