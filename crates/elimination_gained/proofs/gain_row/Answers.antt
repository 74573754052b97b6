-- `elimination_gained::gain_row` meets its contract. Assumes nothing.
use native.Mathlib.Omega.{arith}
use Rattle.elimination_rules.specs.Rows.{Row}
use Rattle.elimination_rows.specs.State.{no_term}
use Rattle.elimination_gained.proofs.Adding.{adding_left, adding_room, adding_next, adding_end}
use Rattle.elimination_gained.proofs.Pairs.{ordered-to, new_left, new_next, new_skips, new_end}
use Rattle.elimination_gained.proofs.gain_row.Goals as goal
use Rattle.elimination_gained.proofs.gain_row.Goals.{else-symbol, then-symbol}

pub add_pairs_before-requires : goal.add_pairs_before-requires
add_pairs_before-requires c =
    let a = c.args in
    let l = c.loop-j in
    let r : Row = a.row.now in
    let next = new_next a.symbol a.before.row r l.j no_term (omega arith) (omega (arith, c.symbol.ensures)) in
    (ordered-to l.j r c.requires.0 (omega arith), adding_room a.columns.now a.kept.now (new_left a.symbol a.before.row r 0) l.kept _ l.invariant _ _ next c.requires.1)

pub loop-j-preserved : goal.loop-j-preserved
loop-j-preserved c =
    let a = c.args in
    let l = c.loop-j in
    let r : Row = a.row.now in
    let visits = new_left a.symbol a.before.row r 0 in
    elim c.if-symbol.branch [
      | then-symbol w ↦ let next = new_next a.symbol a.before.row r l.j no_term (omega arith) (omega (arith, c.symbol.ensures)) in
          rw w.kept-is (adding_next a.columns.now a.kept.now visits l.kept _ l.invariant _ _ next w.add_pairs_before.new.kept w.add_pairs_before.ensures)
      | else-symbol w ↦ let next = new_skips a.symbol a.before.row r l.j no_term (omega arith) (omega (arith, c.symbol.ensures)) in
          rw w.kept-is (adding_left a.columns.now a.kept.now visits l.kept _ l.invariant _ next)
    ]

pub returns : goal.returns
returns c =
    let a = c.args in
    let l = c.loop-j in
    let r : Row = a.row.now in
    adding_end a.columns.now a.kept.now (new_left a.symbol a.before.row r 0) l.kept _ l.invariant (new_end a.symbol a.before.row r l.j (omega arith))
