-- `integers::shifted` meets its contract. Assumes nothing.
use Rattle.integers.proofs.Held.{is, held, held_shl}
use Rattle.integers.proofs.shifted.Goals as goal

pub returns : goal.returns
returns c = is (held_shl c.args.s (held c.ranges.x) c.requires.1)
