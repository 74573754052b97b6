-- `netlist_run::sample_fits` meets its contract. Assumes nothing.
use Prim.Native.Nat.{◌-◌}
use mathlib.Core.Path.{ap, ◌∙◌}
use native.Mathlib.Omega.{arith}
use lib.IntN.{pos}
use lib.Pow.{pow_mono}
use mir.Syntax.{w64}
use Rattle.integers.proofs.Held.{Held, is, held, held_nat, when_lt, when_ge}
use Rattle.board_rules.specs.Width.{positive_part, negative_part}
use Rattle.netlist_run.proofs.BoardLaws.{negative_fits, positive_fits}
use Rattle.netlist_run.proofs.sample_fits.Goals as goal

none : Held w64 0 (pos 0)
none = held_nat w64 0 (omega arith)

pub overflow_sub-s : goal.overflow_sub-s
overflow_sub-s c = omega (arith, c.requires.least)

pub scaled-half-requires : goal.scaled-half-requires
scaled-half-requires c = (omega (arith, c.requires.most), omega (arith, pow_mono {i = c.args.s - 1} {j = 63} (omega (arith, c.requires.most))))

pub returns-then-x-lt0 : goal.returns-then-x-lt0
returns-then-x-lt0 c = let f = c in let s = f in
    negative_fits s.args.s f.scaled-half.result f.scaled-half.ensures s.args.x c.negative_part.result (when_lt (held s.ranges.x) none c.if-x-lt0.true) (c.negative_part.ensures ∙ ap negative_part (is (held s.ranges.x)))

pub returns-else-x-lt0 : goal.returns-else-x-lt0
returns-else-x-lt0 c = let f = c in let s = f in
    positive_fits s.args.s f.scaled-half.result f.scaled-half.ensures s.args.x c.positive_part.result (when_ge (held s.ranges.x) none c.if-x-lt0.false) (c.positive_part.ensures ∙ ap positive_part (is (held s.ranges.x)))
