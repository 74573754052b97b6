-- `elimination_masks::columns::taken` meets its contract. Assumes nothing.
use Prim.Native.Nat.{ℕ}
use mathlib.Core.Path.{◌≡◌, sym, ap, ◌∙◌}
use native.Mathlib.Omega.{arith}
use Rattle.limits.specs.Limits.{positions}
use Rattle.elimination_masks.specs.Masks.{apart_mask, taken_in}
use Rattle.elimination_masks.proofs.Turns.{taken-all, taken-apart, taken_next}
use Rattle.elimination_masks.proofs.columns.taken.Goals as goal
use Rattle.elimination_masks.proofs.columns.taken.Goals.{else-d, then-d}

pub loop-i-preserved : goal.loop-i-preserved
loop-i-preserved c =
    let h = c in
    let s = h in
    let a = s.args in
    let o = c.occurrences_in-occurring.ensures in
    let apart = taken-apart a.d a.x a.y h.loop-i.i in
    let all = taken-all a.d a.x a.y h.loop-i.i in
    let found : c.if-d.out ≡ taken_in a.d a.x a.y h.loop-i.i = (elim c.if-d.branch [ then-d w ↦ w.out-is ∙ w.apart.ensures ∙ ap (λ (mask : ℕ). apart_mask mask a.d.eb positions) o ∙ sym (apart w.if-d.true) | else-d w ↦ w.out-is ∙ o ∙ sym (all w.if-d.false) ]) in
    taken_next a.d a.x a.y h.loop-i.i h.loop-i.out c.if-d.out (omega arith) found h.loop-i.invariant
