-- `elimination_columns::enter_row` meets its contract. Assumes nothing.
use mathlib.Core.Path.{◌∙◌}
use Rattle.std.proofs.Common.{rules}
use Rattle.elimination_columns.proofs.Entering.{terms_start, terms_next, term_within}
use Rattle.elimination_columns.proofs.enter_row.Goals as goal

pub loop-t-init : goal.loop-t-init
loop-t-init c =
    let a = c.args in
    terms_start a.i a.columns.now a.row.now c.into_iter-t-iterator.result.iter.rest.now (search rules)

pub enter_term-requires : goal.enter_term-requires
enter_term-requires c =
    let a = c.args in
    let l = c.loop-t in
    let (symbol, exponent) = term_within a.row.now l.t-iterator.iter.rest.now c.in-Some.t.now c.next.new.self.iter.rest.now c.in-Some.ensures.steps l.invariant.0 c.requires.1 in
    (c.requires.0, symbol, exponent)

pub loop-t-preserved : goal.loop-t-preserved
loop-t-preserved c =
    let a = c.args in
    let l = c.loop-t in
    let (whole, next) = terms_next a.row.now l.t-iterator.iter.rest.now c.in-Some.t.now c.next.new.self.iter.rest.now c.in-Some.ensures.steps l.invariant.0 a.i a.columns.now in
    (whole, c.enter_term.ensures ∙ rw l.invariant.1 next)

pub returns : goal.returns
returns c =
    let l = c.loop-t in
    rw c.in-None.ensures.steps.0 at l.invariant.1
