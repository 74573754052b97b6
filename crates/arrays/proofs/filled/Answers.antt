-- `arrays::filled` meets its contract. Assumes nothing.
use Rattle.std.specs.Prelude.{refl}
use Rattle.arrays.specs.Filled.{filled}
use Rattle.arrays.proofs.filled.Goals as goal

pub returns : goal.returns
unfolding filled
returns g c = refl
