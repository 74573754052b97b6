-- `generator::upper_half` meets its contract. Assumes nothing.
use Rattle.std.proofs.Common.{refl}
use Rattle.generator.specs.Generator.{upper_half}
use Rattle.generator.proofs.upper_half.Goals as goal

pub returns : goal.returns
unfolding upper_half
returns c = refl
