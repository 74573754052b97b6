-- `run_text::write_signed` meets its contract. Assumes nothing.
use Prim.Native.Nat.{ℕ, ◌≤◌}
use mathlib.Core.Path.{◌≡◌, ap, ◌∙◌}
use mathlib.Core.List.{◌++◌}
use native.Mathlib.Omega.{arith}
use lib.IntN.{pos}
use lib.ListN.{length, length-take, length-drop}
use lib.Signed.{◌≤ℤ◌, ◌<ℤ◌}
use mir.Syntax.{w64}
use Rattle.integers.proofs.Held.{Held, is, held, held_nat, when_lt, when_ge}
use Rattle.board_rules.specs.Width.{positive_part, negative_part}
use Rattle.text.specs.Decimal.{number}
use Rattle.text.specs.Text.{ascii}
use Rattle.text.proofs.Wrote.{wrote_copy, wrote_more, wrote_as}
use Rattle.run_text.proofs.Signed.{signed_positive, signed_negative, positive_digits, negative_digits}
use Rattle.run_text.proofs.write_signed.Goals as goal
use Rattle.run_text.proofs.write_signed.Lts
use Rattle.run_text.proofs.write_signed.Reads
use Rattle.run_text.proofs.write_signed.Tie

none : Held w64 0 (pos 0)
none = held_nat w64 0 (omega arith)

module _ (c : Lts.After-negative_part Tie.the-claims Reads.Pre Reads.Post Tie.handed_clauses) where
  abbrev s : Lts.Start Tie.the-claims Reads.Pre Reads.Post Tie.handed_clauses
  s = c.before.before.before.before.before.before.before.before.before

  negative : s.args.value <ℤ pos 0
  negative = when_lt (held s.ranges.value) none c.if-value-lt0.true

  part : c.negative_part.result ≡ negative_part s.args.value
  part = c.negative_part.ensures ∙ ap negative_part (is (held s.ranges.value))

  its-digits : length (number c.negative_part.result) ≤ 19
  its-digits = rw part (negative_digits s.args.value s.ranges.value)

module _ (c : Lts.After-positive_part Tie.the-claims Reads.Pre Reads.Post Tie.handed_clauses) where
  abbrev start : Lts.Start Tie.the-claims Reads.Pre Reads.Post Tie.handed_clauses
  start = c.before.before.before

  not_negative : pos 0 ≤ℤ start.args.value
  not_negative = when_ge (held start.ranges.value) none c.if-value-lt0.false

  positive-part : c.positive_part.result ≡ positive_part start.args.value
  positive-part = c.positive_part.ensures ∙ ap positive_part (is (held start.ranges.value))

  digits : length (number c.positive_part.result) ≤ 19
  digits = rw positive-part (positive_digits start.args.value start.ranges.value)

pub write_number-requires : goal.write_number-requires
write_number-requires c = let d = its-digits c.before in simp (length-take, length-drop) (omega arith)

pub returns-then-value-lt0 : goal.returns-then-value-lt0
returns-then-value-lt0 c =
    let n = c in
    let copied = c.copy-at in
    let wrote = c.write_number in record {
      wrote = wrote_as (ap (λ (k : ℕ). ascii "-" ++ number k) (part n.before.before.before.before.before) ∙ signed_negative (s n.before.before.before.before.before).args.value (negative n.before.before.before.before.before))
          (wrote_more (wrote_copy _ (ascii "-") _ _ copied.ensures.count copied.ensures.copied) wrote.ensures.wrote);
      upper_bound = omega (arith, copied.ensures.count, wrote.ensures.wrote.counted, its-digits n.before.before.before.before.before);
    }

pub write_number-requires-2 : goal.write_number-requires-2
write_number-requires-2 c = omega (arith, digits c.before)

pub returns : goal.returns
returns c =
    let p = c in
    let wrote = c.write_number-2 in
    record { wrote = wrote_as (ap number (positive-part p.before.before.before.before.before) ∙ signed_positive (start p.before.before.before.before.before).args.value (not_negative p.before.before.before.before.before)) wrote.ensures.wrote; upper_bound = wrote.ensures.upper_bound }
