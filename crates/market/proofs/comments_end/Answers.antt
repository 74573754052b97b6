-- `market::comments_end` meets its contract. Assumes nothing.
use mathlib.Core.Path.{refl, sym, ap, ◌∙◌}
use native.Mathlib.Omega.{arith}
use Rattle.market_rules.specs.Forms.{is_comment}
use Rattle.market_rules.proofs.LineLaws.{line_part}
use Rattle.market.proofs.Comments.{comments_stop, comments_next, comment_longer}
use Rattle.market.proofs.comments_end.Goals as goal

pub loop-start-init : goal.loop-start-init
loop-start-init c = (c.requires, refl)

pub returns-then-not-is_comment : goal.returns-then-not-is_comment
returns-then-not-is_comment c =
    let text = c.args.text.now in
    let told = sym (ap is_comment (line_part text c.loop-start.place _ c.line_end-end.ensures.value)) ∙ sym c.if-not-is_comment.ensures in
    record { value = comments_stop text c.args.start c.loop-start.place c.loop-start.invariant.1 told; upper_bound = c.loop-start.invariant.0 }

pub loop-start-smaller : goal.loop-start-smaller
loop-start-smaller c =
    let text = c.args.text.now in
    let told = sym (ap is_comment (line_part text c.loop-start.place _ c.line_end-end.ensures.value)) ∙ sym c.if-not-is_comment.ensures in
    let longer = comment_longer text c.args.start c.loop-start.place c.loop-start.invariant.1 _ c.line_end-end.ensures.value told in
    omega (arith, longer, c.line_end-end.ensures.lower_bound.1)

pub loop-start-preserved : goal.loop-start-preserved
loop-start-preserved c =
    let text = c.args.text.now in
    let told = sym (ap is_comment (line_part text c.loop-start.place _ c.line_end-end.ensures.value)) ∙ sym c.if-not-is_comment.ensures in
    (c.line_end-end.ensures.lower_bound.1, comments_next text c.args.start c.loop-start.place c.loop-start.invariant.1 _ c.line_end-end.ensures.value told)
