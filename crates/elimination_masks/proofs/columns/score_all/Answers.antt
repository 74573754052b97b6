-- `elimination_masks::columns::score_all` meets its contract. Assumes nothing.
use mathlib.Core.Path.{sym, ap, ◌∙◌}
use lib.Count.{ones, ones-le}
use native.Mathlib.Omega.{arith}
use Rattle.limits.specs.Limits.{positions}
use Rattle.elimination_masks.proofs.Turns.{taken-all, score_next, score-end}
use Rattle.std.proofs.Common.{rules}
use Rattle.elimination_masks.proofs.columns.score_all.Goals as goal

pub loop-i-preserved : goal.loop-i-preserved
loop-i-preserved c =
    let h = c in
    let s = h in
    let o = c.occurrences_in-occurring.result in
    let few = ones-le positions o (search rules) in
    let all = ap ones (c.occurrences_in-occurring.ensures ∙ sym (taken-all s.args.d s.args.x s.args.y h.loop-i.i s.requires.2)) in
    let next = score_next s.args.d s.args.x s.args.y h.loop-i.i (omega arith) in
    (omega arith, omega arith)

pub returns : goal.returns
returns c =
    let h = c in
    let s = h in
    omega (arith, score-end s.args.d s.args.x s.args.y h.loop-i.i (omega arith))
