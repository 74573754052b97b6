-- `elimination_masks::columns::score_apart` meets its contract. Assumes nothing.
use Prim.Native.Nat.{ℕ}
use mathlib.Core.Path.{◌≡◌, sym, ap, ◌∙◌}
use lib.Count.{ones, ones-le}
use native.Mathlib.Omega.{arith}
use Rattle.limits.specs.Limits.{positions}
use Rattle.elimination_masks.specs.Masks.{apart_mask}
use Rattle.elimination_masks.proofs.Turns.{ones_none, apart_none, taken-apart, score_next, score-end}
use Rattle.std.proofs.Common.{rules}
use Rattle.elimination_masks.proofs.columns.score_apart.Goals as goal
use Rattle.elimination_masks.proofs.columns.score_apart.Goals.{then-occurring-ne0, else-occurring-ne0}

pub loop-i-preserved : goal.loop-i-preserved
loop-i-preserved c =
    let h = c in
    let s = h in
    let o = c.occurrences_in-occurring.result in
    let found = taken-apart s.args.d s.args.x s.args.y h.loop-i.i s.requires.2 in
    let next = score_next s.args.d s.args.x s.args.y h.loop-i.i (omega arith) in
    let of = ap (λ (mask : ℕ). apart_mask mask s.args.d.eb positions) c.occurrences_in-occurring.ensures in
    elim c.if-occurring-ne0.branch [
      | then-occurring-ne0 w ↦
          let few = ones-le positions w.apart.result (search rules) in
          let all = ap ones (w.apart.ensures ∙ of ∙ sym found) in
          (omega arith, omega arith)
      | else-occurring-ne0 w ↦
          let none : o ≡ 0 = omega arith in
          let nothing = ap ones (found ∙ sym of ∙ ap (λ (mask : ℕ). apart_mask mask s.args.d.eb positions) none ∙ apart_none s.args.d.eb positions) ∙ ones_none in
          (omega arith, omega arith)
    ]

pub returns : goal.returns
returns c =
    let h = c in
    let s = h in
    omega (arith, score-end s.args.d s.args.x s.args.y h.loop-i.i (omega arith))
