-- `burn_in_text::write_outcome` meets its contract. Assumes nothing.
use Rattle.std.proofs.Common.{◌≡◌, ℕ, ◌≤◌, List, ◌++◌, length, take, sym, ap, ◌∙◌, arith, length-take-le}
use Rattle.arrays.proofs.FilledLaws.{length-filled}
use Rattle.layout_rules.specs.Places.{enough_bytes}
use Rattle.layout_rules.proofs.LittleEndian.{AreBytes}
use Rattle.netlist_rules.specs.declared.CheckAnswer.{CheckAnswer}
use Rattle.netlist_rules.specs.Check.{check_answer}
use Rattle.text.specs.Decimal.{number}
use Rattle.text.specs.Text.{ascii, refused_line}
use Rattle.text.proofs.Wrote.{wrote_as}
use Rattle.burn_in_text.specs.BurnInText.{outcome_text}
use Rattle.burn_in_text.proofs.Texts.{outcome_refused, netlist_part, check_refused, check_accepted}
use Rattle.burn_in_text.proofs.write_outcome.Goals as goal
use Rattle.burn_in_text.proofs.write_outcome.Lts
use Rattle.burn_in_text.proofs.write_outcome.Reads
use Rattle.burn_in_text.proofs.write_outcome.Tie

-- what is known once compile has answered
module _ (c : Lts.After-compile Tie.the-claims Reads.Pre Reads.Post Tie.handed_clauses) where
  abbrev known : Lts.After-shared_slice_known Tie.the-claims Reads.Pre Reads.Post Tie.handed_clauses
  known = c.before.before.before.before

  abbrev bytes : List ℕ
  bytes = known.args.matrix.now

  room : enough_bytes ≡ length c.filled-netlist.result
  room = sym (ap length c.filled-netlist.ensures ∙ length-filled 0 enough_bytes)

  all : AreBytes bytes
  all i = omega (arith, known.shared_slice_known-1.given i)

  refusal-text : (c.compile-compiled.result.refusal ≡ 0 → ⊥) → refused_line c.compile-compiled.result.refusal c.compile-compiled.result.place ≡ outcome_text bytes
  refusal-text = outcome_refused bytes all _ _ c.compile-compiled.result room c.compile-compiled.ensures.value c.compile-compiled.ensures.buffer_after

  part : c.compile-compiled.result.refusal ≡ 0 → c.compile-compiled.result.written ≤ length c.compile-compiled.new.buffer
  part = netlist_part bytes all _ _ c.compile-compiled.result room c.compile-compiled.ensures.value c.compile-compiled.ensures.buffer_after

  module _ (accepts : c.compile-compiled.result.refusal ≡ 0) (check : CheckAnswer)
      (checks : check ≡ check_answer bytes (take c.compile-compiled.result.written c.compile-compiled.new.buffer)) where
    check-text : (check.refusal ≡ 0 → ⊥) → refused_line check.refusal check.place ≡ outcome_text bytes
    check-text =
        check_refused bytes all _ _ c.compile-compiled.result room c.compile-compiled.ensures.value c.compile-compiled.ensures.buffer_after accepts check checks

    operations-text : check.refusal ≡ 0 → ascii "operations " ++ number c.compile-compiled.result.operations ++ ascii "\n" ≡ outcome_text bytes
    operations-text =
        check_accepted bytes all _ _ c.compile-compiled.result room c.compile-compiled.ensures.value c.compile-compiled.ensures.buffer_after accepts check checks

pub returns-then-compiled-ne0 : goal.returns-then-compiled-ne0
returns-then-compiled-ne0 c =
    let w = c.write_refused.ensures in
    record { wrote = wrote_as (refusal-text c.before.before.before.before.before.before.before.before c.if-compiled-ne0.true) w.wrote; upper_bound = w.upper_bound }

pub slice_bounds-netlist-end : goal.slice_bounds-netlist-end
slice_bounds-netlist-end c = part c.before.before.before.before c.if-compiled-ne0.false

pub slice_bounds-check-end : goal.slice_bounds-check-end
slice_bounds-check-end c =
    sym (length-take-le c.compile-compiled.result.written c.compile-compiled.new.buffer (part c.before.before.before.before.before c.if-compiled-ne0.false))

pub returns-then-checked-ne0 : goal.returns-then-checked-ne0
returns-then-checked-ne0 c =
    let k = c.check-checked in
    let w = c.write_refused-then-checked-ne0.ensures in
    record { wrote = wrote_as (check-text c.before.before.before.before.before.before.before.before.before.before.before.before c.if-compiled-ne0.false k.result k.ensures c.if-checked-ne0.true) w.wrote; upper_bound = w.upper_bound }

pub returns : goal.returns
returns c =
    let k = c.check-checked in
    let w = c.write_last.ensures in
    record { wrote = wrote_as (operations-text c.before.before.before.before.before.before.before.before.before.before.before.before.before.before c.if-compiled-ne0.false k.result k.ensures c.if-checked-ne0.false) w.wrote; upper_bound = omega (arith, w.upper_bound) }
