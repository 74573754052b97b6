-- `compile_joins::join_operation` meets its contract: signs that are not equal differ. Assumes nothing.
use mathlib.Core.Bool.{xor}
use Rattle.std.proofs.Common.{arith}
use Rattle.std.proofs.lemmas.Grind.{common_steps}
use Rattle.compile_joins.proofs.join_operation.Goals as goal

pub returns : goal.returns
unfolding xor
returns c = grind (arith, common_steps)
