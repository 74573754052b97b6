-- A whole number in decimal, from its positive and its negative part, and outputs one a line.
-- Assumes nothing.
use Prim.Native.Nat.{ℕ, suc, ◌≤◌, ◌<◌}
use mathlib.Core.Path.{◌≡◌, refl, sym, ap, ◌∙◌}
use mathlib.Core.List.{List, ◌++◌}
use native.Mathlib.Omega.{arith}
use lib.IntN.{ℤ, pos, negsuc}
use lib.ListN.{length, get_or, take}
use lib.Seq.{take-suc}
use lib.Signed.{◌≤ℤ◌, ◌<ℤ◌}
use mir.Syntax.{w64}
use mir.Val.{SFits}
use Rattle.integers.proofs.Expression.{nat, below_parts}
use Rattle.board_rules.specs.Width.{positive_part, negative_part}
use Rattle.netlist_rules.proofs.ReadAccepts.{flat_snoc}
use Rattle.text.specs.Decimal.{number}
use Rattle.text.specs.Text.{ascii}
use Rattle.text.proofs.Decimal.{length-number}
use Rattle.run_text.specs.RunText.{signed_number, value_line, value_lines}

pub signed_positive : (z : ℤ) → pos 0 ≤ℤ z → number (positive_part z) ≡ signed_number z
signed_positive (pos k) h = refl
signed_positive (negsuc k) h = absurd h.le

pub signed_negative : (z : ℤ) → z <ℤ pos 0 → ascii "-" ++ number (negative_part z) ≡ signed_number z
signed_negative (pos k) h = absurd (omega (arith, below_parts (nat k) (nat 0) h))
signed_negative (negsuc k) h = refl

-- 2^63 has 19 digits
pub positive_digits : (z : ℤ) → SFits w64 z → length (number (positive_part z)) ≤ 19
positive_digits (pos k) f = length-number 18 k (omega (arith, f.sfits))
positive_digits (negsuc k) f = length-number 18 0 (omega arith)

pub negative_digits : (z : ℤ) → SFits w64 z → length (number (negative_part z)) ≤ 19
negative_digits (pos k) f = length-number 18 0 (omega arith)
negative_digits (negsuc k) f = length-number 18 (suc k) (omega (arith, f.sfits))

-- one line more
pub next_line : (outputs : List ℤ) (i : ℕ) (z : ℤ) → i < length outputs → z ≡ get_or outputs i (pos 0)
    → value_lines (take i outputs) ++ value_line z ≡ value_lines (take (suc i) outputs)
next_line outputs i z h e =
    ap (λ (y : ℤ). value_lines (take i outputs) ++ value_line y) e
    ∙ sym (flat_snoc value_line (take i outputs) (get_or outputs i (pos 0)))
    ∙ ap value_lines (sym (take-suc outputs i (pos 0) h))
