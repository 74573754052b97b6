-- `burn_in_text::write_lines` meets its contract. The lines of the seeds so far are written. Assumes nothing.
use Rattle.std.proofs.Common.{◌≡◌, ℕ, ◌+◌, ◌%◌, ◌^◌, refl, ap, ◌∙◌, subst, add-one, arith, length-drop, length-take}
use Rattle.text.specs.Wrote.{Wrote}
use Rattle.text.proofs.Wrote.{wrote_nothing, wrote_as, wrote_more}
use Rattle.burn_in_text.specs.BurnInText.{burn_in_lines, seed_count}
use Rattle.burn_in_text.proofs.Texts.{seed_next, lines_next}
use Rattle.burn_in_text.proofs.write_lines.Goals as goal

pub loop-init : goal.loop-init
unfolding burn_in_lines
loop-init c = (wrote_nothing c.args.text.now, omega arith, omega arith, omega arith, refl)

pub write_line-at-requires : goal.write_line-at-requires
write_line-at-requires c = simp (length-take, length-drop) (omega arith)

pub loop-preserved : goal.loop-preserved
loop-preserved c =
    let step = c.args.step in
    let l = c.loop in
    let line = c.write_line-at.ensures in
    rw add-one (
      wrote_as (lines_next step l.counter l.seed l.invariant.1) (wrote_more l.invariant.0 line.wrote),
      ap (λ (x : ℕ). (x + step) % 2 ^ 32) l.invariant.1 ∙ seed_next step l.counter,
      omega arith,
      omega (arith, line.upper_bound),
      omega arith,
    )

pub returns : goal.returns
returns c =
    let l = c.loop in
    let e : l.counter ≡ seed_count = omega arith in
    subst (λ (k : ℕ). Wrote c.args.text.now l.text l.at (burn_in_lines c.args.step k)) e l.invariant.0
