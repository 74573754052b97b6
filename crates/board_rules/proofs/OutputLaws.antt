-- An output's width: its entry's range, shifted, with the ends exchanged if it is minus; a zero output's is 1.
-- Assumes nothing.
use Prim.Native.Nat.{ℕ, zero, suc, pred, ◌+◌, ◌*◌, ◌-◌, ◌^◌, ◌≤◌, ◌<◌, max}
use mathlib.Core.List.{List}
use mathlib.Core.Path.{◌≡◌, refl, sym, ap, ap₂, ◌∙◌}
use native.Mathlib.Omega.{arith}
use lib.IntN.{ℤ}
use Rattle.layout_rules.specs.declared.Operation.{Operation}
use Rattle.layout_rules.specs.declared.Output.{Output}
use Rattle.board_rules.specs.Machine.{entry_at, shifted, with_sign, machine, unit, output_form}
use Rattle.board_rules.specs.Width.{positives, negatives, highest_of, lowest_of, bits_from, bits, width_of, width}
use Rattle.board_rules.specs.Table.{each_column, SmallRange}
use Rattle.board_rules.proofs.FormLaws.{output-columns}
use Rattle.board_rules.proofs.RangeLaws.{positives-shifted, negatives-shifted, positives-negated, negatives-negated, positives-none, negatives-none}

width-zero : (s : ℕ) → width_of s 0 0 ≡ 1
unfolding bits bits_from
width-zero s = let e : max (highest_of s 0 0) (pred (lowest_of s 0 0)) ≡ 0 = omega arith in rw e refl

module _ (f : ℕ → ℤ) (n s shift : ℕ) where
  -- the output's coefficients
  abbrev turned : ℕ → ℕ → ℤ
  turned sign j = with_sign sign (shifted (f j) shift)

  -- the entry's sums, shifted
  abbrev above : ℕ
  above = positives (each_column n f) * 2 ^ shift

  abbrev below : ℕ
  below = negatives (each_column n f) * 2 ^ shift

  pub plus_width : (sign : ℕ) → sign ≡ 0 → width_of s above below ≡ width s (each_column n (turned sign))
  unfolding width
  plus_width zero e = ap₂ (width_of s) (sym (positives-shifted f shift 0 n)) (sym (negatives-shifted f shift 0 n))
  plus_width (suc sign) e = absurd (omega arith)

  pub minus-width : (sign : ℕ) → (sign ≡ 0 → ⊥) → sign ≤ 1 → width_of s below above ≡ width s (each_column n (turned sign))
  unfolding width
  minus-width zero h l = absurd (h refl)
  minus-width (suc zero) h l = ap₂ (width_of s)
      (sym (positives-negated (λ i. shifted (f i) shift) 0 n ∙ negatives-shifted f shift 0 n))
      (sym (negatives-negated (λ i. shifted (f i) shift) 0 n ∙ positives-shifted f shift 0 n))
  minus-width (suc (suc sign)) h l = absurd (omega arith)

  pub zero-width : (sign : ℕ) → 1 < sign → 1 ≡ width s (each_column n (turned sign))
  unfolding width
  zero-width zero h = absurd (omega arith)
  zero-width (suc zero) h = absurd (omega arith)
  zero-width (suc (suc sign)) h = sym (rw (positives-none 0 n, negatives-none 0 n) (width-zero s))

  -- the sums of the output's coefficients are the entry's, shifted, in either order
  pub turned_spread : (sign : ℕ) → sign ≤ 1 → SmallRange s (each_column n (turned sign)) → 2 ^ (s - 1) * (above + below) < 2 ^ 62
  turned_spread zero l h = rw (sym (positives-shifted f shift 0 n), sym (negatives-shifted f shift 0 n)) h.spread
  turned_spread (suc zero) l h =
      let e : above + below ≡ positives (each_column n (turned 1)) + negatives (each_column n (turned 1)) = omega (
        arith,
        positives-negated (λ i. shifted (f i) shift) 0 n,
        negatives-shifted f shift 0 n,
        negatives-negated (λ i. shifted (f i) shift) 0 n,
        positives-shifted f shift 0 n,
      ) in
      rw e h.spread
  turned_spread (suc (suc sign)) l h = absurd (omega arith)

-- the width of a zero output is 1
pub zero-output-width : (s n : ℕ) (os : List Operation) (o : Output) → 1 < o.sign → width s (output_form n os o) ≡ 1
zero-output-width s n os o h =
    ap (width s) (output-columns n os o) ∙ sym (zero-width (λ j. entry_at (machine (unit n j) os) o.symbol) n s o.shift o.sign h)
