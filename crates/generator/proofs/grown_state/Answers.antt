-- `generator::grown_state` meets its contract. Assumes nothing.
use Rattle.std.proofs.Common.{refl}
use Rattle.generator.specs.Generator.{grown}
use Rattle.generator.proofs.grown_state.Goals as goal

pub returns : goal.returns
unfolding grown
returns c = refl
