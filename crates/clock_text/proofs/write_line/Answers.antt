-- `clock_text::write_line` meets its contract. Assumes nothing.
use Prim.Native.Nat.{ℕ, ◌+◌, ◌*◌, ◌≤◌}
use mathlib.Core.Path.{◌≡◌, refl, sym, ◌∙◌}
use mathlib.Core.Bool.{true, false, ◌&&◌}
use mathlib.Core.List.{List, []}
use native.Mathlib.Omega.{arith}
use lib.Dec.{leb}
use lib.IntN.{ℤ}
use lib.ListN.{length}
use borrow.Author.Tests.{not-true, not-false}
use Rattle.limits.specs.Limits.{max_rows}
use Rattle.netlist_rules.proofs.Conditions.{and_says, at_most_says}
use Rattle.text.specs.Wrote.{text_in}
use Rattle.text.proofs.Wrote.{wrote_as, wrote_nothing, wrote_prefix, wrote_none, wrote_whole}
use Rattle.clock_text.specs.Lines.{clock_line, outputs_at, longest_clock_line, line_there, line_in}
use Rattle.clock_text.proofs.write_line.Goals as goal
use Rattle.clock_text.proofs.write_line.Lts
use Rattle.clock_text.proofs.write_line.Reads
use Rattle.clock_text.proofs.write_line.Tie

module _ (m : ℕ) (outputs : List ℤ) (t : ℕ) where
  no_line : (lent : ℕ) → line_there m (length outputs) t ≡ false → [] ≡ line_in lent m outputs t
  unfolding line_in
  no_line lent e = rw (e, line_in) refl

  line-is : (lent : ℕ) → line_there m (length outputs) t ≡ true → text_in longest_clock_line lent (clock_line (outputs_at m outputs t)) ≡ line_in lent m outputs t
  unfolding line_in
  line-is lent e = rw (e, line_in) refl

  bounds : line_there m (length outputs) t ≡ true → (m ≤ max_rows) × ((t ≤ length outputs) × (t * m + m ≤ length outputs))
  unfolding line_there
  bounds =
      let n : ℕ = length outputs in
      (and_says (leb m max_rows) (leb t n && leb (t * m + m) n) (at_most_says m max_rows)
      (and_says (leb t n) (leb (t * m + m) n) (at_most_says t n) (at_most_says (t * m + m) n))).0

pub returns-then-not-line_there : goal.returns-then-not-line_there
returns-then-not-line_there c = let r = c in let s = r in
    let none = wrote_as (no_line s.args.rows s.args.outputs.now s.args.clock (length s.args.text.now) (sym r.line_there.ensures ∙ not-true _ c.if-not-line_there.true-raw)) (wrote_nothing s.args.text.now) in
    record { wrote = none; prefix_length = wrote_prefix none }

-- the outputs are there
there : (c : Lts.Else1 Tie.the-claims Reads.Pre Reads.Post Tie.handed_clauses) → line_there c.args.rows (length c.args.outputs.now) c.args.clock ≡ true
there c = sym c.line_there.ensures ∙ not-false _ c.if-not-line_there.false-raw

pub returns-then-text-lt-LONGEST_CLOCK_LINE : goal.returns-then-text-lt-LONGEST_CLOCK_LINE
returns-then-text-lt-LONGEST_CLOCK_LINE c = let s = c in
    let none = wrote_as (line-is s.args.rows s.args.outputs.now s.args.clock (length s.args.text.now) (there c.before.before))
    (wrote_none longest_clock_line s.args.text.now (clock_line (outputs_at s.args.rows s.args.outputs.now s.args.clock)) c.if-text-lt-LONGEST_CLOCK_LINE.true).0 in
    record { wrote = none; prefix_length = wrote_prefix none }

pub write_there-requires : goal.write_there-requires
write_there-requires c = let a = c.args in
    let b = bounds a.rows a.outputs.now a.clock (there c.before.before) in
    record { rows_le_max_rows = (b.0, b.1.1); longest_clock_line_in_bounds = omega (arith, c.if-text-lt-LONGEST_CLOCK_LINE.false) }

pub returns : goal.returns
returns c = let a = c.args in
    let whole = wrote_whole longest_clock_line (omega (arith, c.if-text-lt-LONGEST_CLOCK_LINE.false)) c.write_there.ensures in
    let line = wrote_as (line-is a.rows a.outputs.now a.clock (length a.text.now) (there c.before.before.before.before.before.before)) whole.0 in
    record { wrote = line; prefix_length = wrote_prefix line }
