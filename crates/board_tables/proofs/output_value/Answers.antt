-- `board_tables::output_value` meets its contract. Assumes nothing.
use mathlib.Core.Path.{refl}
use mir.Syntax.{w64}
use mir.Val.{of_z}
use Rattle.integers.proofs.Held.{Held, need_neg, held_neg, returned}
use Rattle.board_rules.specs.Machine.{shifted}
use Rattle.board_rules.proofs.Shifts.{shifted-asked, shifted-held, negation_fits, signed-none}
use Rattle.board_tables.proofs.output_value.Goals as goal
use Rattle.board_tables.proofs.output_value.Lts
use Rattle.board_tables.proofs.output_value.Reads
use Rattle.board_tables.proofs.output_value.Tie

pub shifted-x-requires : goal.shifted-x-requires
shifted-x-requires c = shifted-asked c.ranges.z c.requires

x : (c : Lts.After-shifted Tie.the-claims Reads.Pre Reads.Post) → Held w64 (of_z w64 c.shifted-x.result) (shifted c.args.z c.args.shift)
x c = shifted-held c.ranges.z c.requires c.shifted-x.type_inv c.shifted-x.ensures

pub overflow_sub-result : goal.overflow_sub-result
overflow_sub-result c = need_neg (x c.before.before) (negation_fits c.requires)

pub returns-then-sign-eq0 : goal.returns-then-sign-eq0
returns-then-sign-eq0 c = rw c.if-sign-eq0.true (returned (x c.before) refl)

pub returns-then-sign-eq1 : goal.returns-then-sign-eq1
returns-then-sign-eq1 c = rw c.if-sign-eq1.true (returned (held_neg (x c.before.before) (negation_fits c.requires)) refl)

pub returns-else-sign-eq1 : goal.returns-else-sign-eq1
returns-else-sign-eq1 c = let s = c in
    signed-none s.args.sign (shifted s.args.z s.args.shift) c.if-sign-eq0.false c.if-sign-eq1.false
