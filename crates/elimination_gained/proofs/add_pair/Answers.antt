-- `elimination_gained::add_pair` meets its contract. Assumes nothing.
use mathlib.Core.Path.{sym, ◌∙◌}
use native.Mathlib.Omega.{arith}
use Rattle.elimination_gained.proofs.Pairs.{divisor-fits}
use Rattle.elimination_gained.proofs.Pair.{pair-room, pair-added, pair-not-added}
use Rattle.elimination_gained.proofs.add_pair.Goals as goal

pub bounds-columns-d : goal.bounds-columns-d
bounds-columns-d c = let f = divisor-fits c.args.t c.args.u c.requires.0 c.requires.1 c.requires.2 in rw c.divisor_of-d.ensures f.0

pub bounds-columns-d-2 : goal.bounds-columns-d-2
bounds-columns-d-2 c = let f = divisor-fits c.args.t c.args.u c.requires.0 c.requires.1 c.requires.2 in rw c.divisor_of-d.ensures f.1

pub none_among-requires : goal.none_among-requires
none_among-requires c = let f = divisor-fits c.args.t c.args.u c.requires.0 c.requires.1 c.requires.2 in rw c.divisor_of-d.ensures (f.2, f.3)

pub key-requires : goal.key-requires
key-requires c = let f = divisor-fits c.args.t c.args.u c.requires.0 c.requires.1 c.requires.2 in rw c.divisor_of-d.ensures (omega (arith, f.0), omega (arith, f.1), omega (arith, f.2), omega (arith, f.3))

pub score-requires : goal.score-requires
score-requires c = let f = divisor-fits c.args.t c.args.u c.requires.0 c.requires.1 c.requires.2 in rw c.divisor_of-d.ensures (f.2, f.3)

pub push-requires : goal.push-requires
push-requires c = pair-room c.args.columns.now c.args.before.row c.args.t c.args.u c.divisor_of-d.result c.divisor_of-d.ensures c.below-asked.result (rw (sym c.co_divisor.ensures) c.below-asked.ensures) c.args.kept.now (sym c.none_among.ensures ∙ c.if-none_among.true) c.requires.3

pub returns-then-none_among : goal.returns-then-none_among
returns-then-none_among c =
    let f = divisor-fits c.args.t c.args.u c.requires.0 c.requires.1 c.requires.2 in
    c.push.ensures
    ∙ pair-added c.args.columns.now c.args.before.row c.args.t c.args.u c.divisor_of-d.result c.divisor_of-d.ensures c.below-asked.result (rw (sym c.co_divisor.ensures) c.below-asked.ensures) c.args.kept.now (sym c.none_among.ensures ∙ c.if-none_among.true)
    (rw c.divisor_of-d.ensures f) c.key.result c.score.result c.key.ensures c.score.ensures

pub returns-else-none_among : goal.returns-else-none_among
returns-else-none_among c = pair-not-added c.args.columns.now c.args.before.row c.args.t c.args.u c.divisor_of-d.result c.divisor_of-d.ensures c.below-asked.result (rw (sym c.co_divisor.ensures) c.below-asked.ensures) c.args.kept.now (sym c.none_among.ensures ∙ c.if-none_among.false)
