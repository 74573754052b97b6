-- `market_lines::read_digits` meets its contract. Assumes nothing.
use mathlib.Core.Path.{◌≡◌, sym, ◌∙◌}
use native.Mathlib.Omega.{arith}
use lib.ListN.{length}
use Rattle.market_lines.proofs.Scan.{digits_stop, digits_next, digits-end, no_digit}
use Rattle.market_lines.proofs.read_digits.Goals as goal

pub returns-then-not-is_ascii_digit : goal.returns-then-not-is_ascii_digit
returns-then-not-is_ascii_digit c =
    let none = no_digit c.args.bytes.now c.loop-end.end (omega arith) (sym c.is_ascii_digit.ensures.value ∙ c.if-not-is_ascii_digit.true) in
    let read = digits_stop c.args.bytes.now c.args.from c.loop-end.end c.loop-end.value c.loop-end.invariant.1 c.loop-end.invariant.0 none in
    record { end_value = read.0; end_in_bounds = omega arith; value_value = read.1 }

pub loop-end-preserved : goal.loop-end-preserved
loop-end-preserved c =
    let bytes = c.args.bytes.now in
    let next = digits_next bytes c.args.from c.loop-end.end c.loop-end.value c.loop-end.invariant.1 (omega arith) (sym c.is_ascii_digit.ensures.value ∙ c.if-not-is_ascii_digit.false) in
    (omega (arith, c.min-value.ensures), rw c.min-value.ensures next)

pub returns : goal.returns
returns c =
    let bytes = c.args.bytes.now in
    let all : c.loop-end.end ≡ length bytes = omega (arith, c.requires, c.loop-end-test.false, c.loop-end.auto.end-end) in
    let read = digits_stop bytes c.args.from c.loop-end.end c.loop-end.value c.loop-end.invariant.1 c.loop-end.invariant.0 (digits-end bytes c.loop-end.end c.loop-end-test.false) in
    record { end_value = sym all ∙ read.0; end_in_bounds = omega arith; value_value = read.1 }
