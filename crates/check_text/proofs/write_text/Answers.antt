-- `check_text::write_text` meets its contract. Assumes nothing.
use Rattle.text.specs.Text.{ascii}
use Rattle.text.proofs.Wrote.{wrote_as, wrote_copy}
use Rattle.check_text.proofs.Texts.{text-refused, text-accepted}
use Rattle.check_text.proofs.write_text.Goals as goal

pub returns-then-answer-ne0 : goal.returns-then-answer-ne0
returns-then-answer-ne0 c =
    let k = c in
    let w = c.write_refused.ensures in
    wrote_as (text-refused _ _ k.check-answer.result k.check-answer.ensures c.if-answer-ne0.true) w.wrote

pub returns : goal.returns
returns c =
    let k = c in
    let w = c.copy.ensures in
    wrote_as (text-accepted _ _ k.check-answer.result k.check-answer.ensures c.if-answer-ne0.false)
    (wrote_copy _ (ascii "accepted\n") _ _ w.count w.copied)
