-- `text::write_number` meets its contract. The loop's invariant: the digits left to work out, then those stored, are the number's.
-- Assumes nothing.
use Prim.Native.Nat.{ℕ, suc, ◌+◌, ◌-◌, ◌/◌, ◌%◌}
use mathlib.Core.Path.{◌≡◌, refl, ap, ◌∙◌}
use mathlib.Core.List.{◌++◌, append-nil}
use native.Mathlib.Omega.{arith}
use lib.ListN.{drop, set, length-set}
use Rattle.text.specs.Decimal.{number}
use Rattle.text.proofs.Decimal.{length-number, length_large, some-digit, digit-more, digits_part}
use Rattle.text.proofs.Wrote.{wrote_as, wrote_copy}
use Rattle.text.proofs.write_number.Goals as goal

pub loop-rest-init : goal.loop-rest-init
loop-rest-init c = (append-nil _, length-number 19 c.args.value (omega (arith, c.ranges.value)), omega arith, refl)

pub overflow_sub-start : goal.overflow_sub-start
overflow_sub-start c = let l = c.loop-rest in omega (arith, length_large l.rest (omega arith), some-digit (l.rest / 10))

pub loop-rest-preserved : goal.loop-rest-preserved
loop-rest-preserved c =
    let l = c.loop-rest in
    let before : suc (l.start - 1) ≡ l.start = omega (arith, overflow_sub-start c) in (
      ap (λ (k : ℕ). number (l.rest / 10) ++ drop k (set l.digits l.start (48 + l.rest % 10))) before
          ∙ digit-more l.rest l.start l.digits (omega arith) (omega arith)
          ∙ l.invariant.0,
      omega (arith, length_large l.rest (omega arith)),
      omega arith,
      length-set l.digits l.start (48 + l.rest % 10) ∙ l.invariant.3,
    )

pub copy-requires : goal.copy-requires
copy-requires c =
    let l = c.loop-rest in
    rw (digits_part c.args.value l.rest l.start 20 l.digits l.invariant.0 (omega arith) (omega arith) l.invariant.3)
    c.requires

pub returns-clause-wrote : goal.returns-clause-wrote
returns-clause-wrote c =
    let l = c.loop-rest in
    wrote_as (digits_part c.args.value l.rest l.start 20 l.digits l.invariant.0 (omega arith) (omega arith) l.invariant.3)
    (wrote_copy _ _ _ _ c.copy.ensures.count c.copy.ensures.copied)
