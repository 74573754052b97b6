-- `text::write_lines` meets its contract. Assumes nothing.
use Rattle.std.proofs.Common.{refl, arith}
use Rattle.text.proofs.Numbered.{lines_start, lines_more}
use Rattle.text.proofs.Wrote.{wrote_as, wrote_more}
use Rattle.text.proofs.write_lines.Goals as goal

pub loop-k-init : goal.loop-k-init
loop-k-init g c = (λ each w. lines_start c.args.text.now each, omega arith, refl)

pub loop-k-preserved : goal.loop-k-preserved
loop-k-preserved g c =
    let l = c.loop-k in
    let h = c.loop-k-test.true in (
      λ each w. wrote_as (lines_more each l.k) (wrote_more (l.invariant.0 each w) (w l.k _ _ _ h c.line-at.ensures)),
      omega (arith, l.invariant.1, c.requires.1.1.1 l.k _ _ _ h c.line-at.ensures),
      omega (arith, l.invariant.2),
    )
