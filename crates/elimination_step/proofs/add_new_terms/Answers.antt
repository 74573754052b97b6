-- `elimination_step::add_new_terms` meets its contract. Assumes nothing.
use mathlib.Core.Path.{sym, ◌∙◌}
use native.Mathlib.Omega.{arith}
use Rattle.limits.specs.Limits.{max_terms}
use Rattle.elimination_rules.specs.Lookup.{sign_at}
use Rattle.elimination_rows.specs.State.{row_terms}
use Rattle.elimination_step.proofs.Stepping.{new_passes, new_more, new_end, new_room}
use Rattle.elimination_step.proofs.add_new_terms.Goals as goal
use Rattle.elimination_step.proofs.add_new_terms.Goals.{else-bit_at, then-bit_at}

pub push-requires : goal.push-requires
push-requires c =
    let a = c.args in
    let l = c.loop-c in (
      omega arith,
      new_room a.symbol (sign_at a.row.now) a.d a.taken l.c (omega arith) (row_terms l.rest) _ l.invariant (sym c.bit_at.ensures ∙ c.if-bit_at.true) max_terms c.requires.1,
    )

pub loop-c-preserved : goal.loop-c-preserved
loop-c-preserved c =
    let a = c.args in
    let l = c.loop-c in
    let signs = sign_at a.row.now in
    elim c.if-bit_at.branch [
      | then-bit_at w ↦ rw (w.rest-is, w.push.ensures, w.new_term.ensures) (new_more a.symbol signs a.d a.taken l.c (omega arith) (row_terms l.rest) _ l.invariant (sym c.bit_at.ensures ∙ w.if-bit_at.true))
      | else-bit_at w ↦ rw w.rest-is (new_passes a.symbol signs a.d a.taken l.c (omega arith) (row_terms l.rest) _ l.invariant (sym c.bit_at.ensures ∙ w.if-bit_at.false))
    ]

pub returns : goal.returns
returns c =
    let a = c.args in
    let l = c.loop-c in
    sym (new_end a.symbol (sign_at a.row.now) a.d a.taken l.c (omega arith) (row_terms l.rest)) ∙ l.invariant
