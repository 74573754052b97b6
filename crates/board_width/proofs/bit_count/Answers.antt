-- `board_width::bit_count` meets its contract. Assumes nothing.
use Prim.Native.Nat.{ℕ, ◌-◌, ◌^◌, ◌<◌}
use mathlib.Core.Path.{◌≡◌, sym, ◌∙◌}
use native.Mathlib.Omega.{arith}
use lib.Count.{count_leading_zeros, leading_le, leading_length}
use Rattle.board_rules.specs.Width.{bits}
use Rattle.board_rules.proofs.WidthLaws.{bits-only}
use Rattle.board_width.proofs.bit_count.Goals as goal

-- the zeros above a number and its bits make all bits
bits_left : (k m : ℕ) → m < 2 ^ k → k - count_leading_zeros k m ≡ bits m
bits_left k m h =
    let l = leading_length k m h in
    let e : k - count_leading_zeros k m ≡ l.0 = omega (arith, l.1) in
    e ∙ sym (bits-only m l.0 l.2 l.3)

pub overflow_sub-result : goal.overflow_sub-result
overflow_sub-result c = leading_le 64 c.args.m

pub returns : goal.returns
returns c = bits_left 64 c.args.m (omega arith)
