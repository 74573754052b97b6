-- `board_tables::combined` meets its contract. Assumes nothing.
use mathlib.Core.Path.{refl}
use mir.Syntax.{w64}
use mir.Val.{of_z}
use Rattle.integers.proofs.Held.{Held, need-+, need--, held-+, held--, returned}
use Rattle.board_rules.specs.Machine.{shifted}
use Rattle.board_rules.proofs.Shifts.{shifted-asked, shifted-held, sum_fits, difference-fits, joined-minus}
use Rattle.board_tables.proofs.combined.Goals as goal
use Rattle.board_tables.proofs.combined.Lts
use Rattle.board_tables.proofs.combined.Reads
use Rattle.board_tables.proofs.combined.Tie

pub shifted-x-requires : goal.shifted-x-requires
shifted-x-requires c = shifted-asked c.ranges.a c.requires.0

pub shifted-y-requires : goal.shifted-y-requires
shifted-y-requires c = shifted-asked c.ranges.b c.requires.1

module _ (c : Lts.After-shifted2 Tie.the-claims Reads.Pre Reads.Post) where
  abbrev s : Lts.Start Tie.the-claims Reads.Pre Reads.Post
  s = c.before.before

  x : Held w64 (of_z w64 c.shifted-x.result) (shifted s.args.a s.args.sa)
  x = shifted-held s.ranges.a s.requires.0 c.shifted-x.type_inv c.shifted-x.ensures

  y : Held w64 (of_z w64 c.shifted-y.result) (shifted s.args.b s.args.sb)
  y = shifted-held s.ranges.b s.requires.1 c.shifted-y.type_inv c.shifted-y.ensures

pub overflow_add-result : goal.overflow_add-result
overflow_add-result c = let s = c in need-+ (x c.before) (y c.before) (sum_fits s.requires.0 s.requires.1)

pub overflow_sub-result : goal.overflow_sub-result
overflow_sub-result c = let s = c in need-- (x c.before) (y c.before) (difference-fits s.requires.0 s.requires.1)

pub returns-then-sign-eq0 : goal.returns-then-sign-eq0
returns-then-sign-eq0 c = let s = c in
    rw c.if-sign-eq0.true (returned (held-+ (x c.before) (y c.before) (sum_fits s.requires.0 s.requires.1)) refl)

pub returns-else-sign-eq0 : goal.returns-else-sign-eq0
returns-else-sign-eq0 c = let s = c in
    returned (held-- (x c.before) (y c.before) (difference-fits s.requires.0 s.requires.1))
    (joined-minus s.args.sign (shifted s.args.a s.args.sa) (shifted s.args.b s.args.sb) c.if-sign-eq0.false)
