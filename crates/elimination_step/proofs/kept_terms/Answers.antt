-- `elimination_step::kept_terms` meets its contract. Assumes nothing.
use mathlib.Core.Path.{sym, ◌∙◌}
use mathlib.Core.List.{[], ◌∷◌}
use native.Mathlib.Omega.{arith}
use lib.ListN.{get_or, length-append}
use Rattle.limits.specs.Limits.{positions}
use Rattle.bits.specs.Bits.{bits_of}
use Rattle.elimination_rows.specs.State.{row_terms, no_term}
use Rattle.elimination_rows.proofs.Members.{member_at}
use Rattle.elimination_step.proofs.Stepping.{kept_drops, kept_keeps, kept-end}
use Rattle.elimination_step.proofs.kept_terms.Goals as goal
use Rattle.elimination_step.proofs.kept_terms.Goals.{then-not-part_of_taken, else-not-part_of_taken}

pub part_of_taken-requires : goal.part_of_taken-requires
part_of_taken-requires c = c.requires.0 (get_or c.args.row.now c.loop-t.t-index no_term) (member_at c.args.row.now c.loop-t.t-index no_term c.loop-t-test.true)

pub loop-t-preserved : goal.loop-t-preserved
loop-t-preserved c =
    let a = c.args in
    let l = c.loop-t in
    let flags = bits_of a.taken positions in
    elim c.if-not-part_of_taken.branch [
      | then-not-part_of_taken w ↦ rw (w.kept-is, w.push.ensures) (
        omega (arith, l.invariant.0, length-append (row_terms l.kept) (get_or a.row.now l.t-index no_term ∷ [])),
        kept_keeps a.d flags a.row.now l.t-index no_term c.loop-t-test.true (row_terms l.kept) _ l.invariant.1 (sym c.part_of_taken.ensures ∙ w.if-not-part_of_taken.true),
      )
      | else-not-part_of_taken w ↦ rw w.kept-is (
        omega (arith, l.invariant.0),
        kept_drops a.d flags a.row.now l.t-index no_term c.loop-t-test.true (row_terms l.kept) _ l.invariant.1 (sym c.part_of_taken.ensures ∙ w.if-not-part_of_taken.false),
      )
    ]

pub returns : goal.returns
returns c =
    let a = c.args in
    let l = c.loop-t in
    sym (kept-end a.d (bits_of a.taken positions) a.row.now l.t-index (row_terms l.kept) (omega arith)) ∙ l.invariant.1
