-- `elimination_order::rank` meets its contract. Assumes nothing.
use native.Mathlib.Omega.{arith}
use Rattle.elimination_rules.proofs.Rank.{divisor-key}
use Rattle.elimination_order.proofs.rank.Goals as goal

pub returns : goal.returns
returns c = rw (c.from-depth.ensures, c.max.ensures, c.from.ensures, c.from-2.ensures, c.divisor_of_key-d.ensures, divisor-key c.args.key) (omega arith)
