-- `elimination_gained::add_pairs_before` meets its contract. Assumes nothing.
use mathlib.Core.List.{List}
use native.Mathlib.Omega.{arith}
use lib.ListN.{get_or}
use Rattle.term.specs.declared.Term.{Term}
use Rattle.elimination_rows.specs.State.{no_term}
use Rattle.elimination_gained.proofs.Adding.{adding_room, adding_next, adding_end}
use Rattle.elimination_gained.proofs.Pairs.{pairs_left, pairs_next, pairs_end}
use Rattle.elimination_gained.proofs.add_pairs_before.Goals as goal

pub add_pair-requires : goal.add_pair-requires
add_pair-requires c =
    let a = c.args in
    let l = c.loop-h in
    let terms : List Term = a.terms.now in
    let u : Term = get_or terms a.j no_term in
    let visits = pairs_left a.before.row a.j terms u 0 in
    let next = pairs_next a.before.row a.j terms u no_term (omega (arith, c.requires.0.inside)) l.h (omega arith) in (
      c.requires.0.precede l.h (omega arith),
      c.requires.0.fit l.h (omega arith),
      c.requires.0.fit a.j (omega arith),
      adding_room a.columns.now a.kept.now visits l.kept _ l.invariant _ _ next c.requires.1,
    )

pub loop-h-preserved : goal.loop-h-preserved
loop-h-preserved c =
    let a = c.args in
    let l = c.loop-h in
    let terms : List Term = a.terms.now in
    let u : Term = get_or terms a.j no_term in
    let visits = pairs_left a.before.row a.j terms u 0 in
    let next = pairs_next a.before.row a.j terms u no_term (omega (arith, c.requires.0.inside)) l.h (omega arith) in
    adding_next a.columns.now a.kept.now visits l.kept _ l.invariant _ _ next c.add_pair.new.kept c.add_pair.ensures

pub returns : goal.returns
returns c =
    let a = c.args in
    let l = c.loop-h in
    let terms : List Term = a.terms.now in
    let u : Term = get_or terms a.j no_term in
    let visits = pairs_left a.before.row a.j terms u 0 in
    let end = pairs_end a.before.row a.j terms u no_term (omega (arith, c.requires.0.inside)) l.h (omega arith) in
    adding_end a.columns.now a.kept.now visits l.kept _ l.invariant end
