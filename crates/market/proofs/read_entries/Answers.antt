-- `market::read_entries` meets its contract. Assumes nothing.
use mathlib.Core.Path.{◌≡◌, sym, ap, ◌∙◌}
use native.Mathlib.Omega.{arith}
use lib.ListN.{length}
use lib.Seq.{set-get_or}
use Rattle.market_rules.specs.Forms.{is_entry, entry_value}
use Rattle.market_rules.specs.Market.{twos_complement}
use Rattle.market_rules.proofs.LineLaws.{line_part}
use Rattle.market.proofs.Reading.{read_none, behind-within, read_all, read_stop, read_next}
use Rattle.market.proofs.read_entries.Goals as goal

pub loop-count-init : goal.loop-count-init
loop-count-init c = read_none _ _ _

pub line_end-end-requires : goal.line_end-end-requires
line_end-end-requires c = behind-within _ _ _ _ _ c.loop-count.invariant

pub returns-in_default : goal.returns-in_default
returns-in_default c =
    let l = c.loop-count in
    let it = line_part c.args.text.now l.bytes _ c.line_end-end.ensures.value in
    rw (set-get_or l.words l.count 0) (read_stop _ _ _ _ _ l.invariant l.auto.words (sym (c.in_default.ensures.form ∙ ap is_entry it)))

pub loop-count-preserved : goal.loop-count-preserved
loop-count-preserved c =
    let l = c.loop-count in
    let it = line_part c.args.text.now l.bytes _ c.line_end-end.ensures.value in
    read_next _ _ _ _ _ l.invariant _ c.in-Some.entry c.loop-count-test.true l.auto.words c.line_end-end.ensures.value
    (sym (c.in-Some.ensures.form ∙ ap is_entry it))
    (c.in-Some.ensures.word ∙ ap (λ bytes. twos_complement (entry_value bytes)) it)

pub returns : goal.returns
returns c =
    let l = c.loop-count in
    let all : l.count ≡ length c.args.words.now = omega (arith, c.loop-count-test.false, l.auto.count-end) in
    read_all _ _ _ _ _ l.invariant all l.auto.words
