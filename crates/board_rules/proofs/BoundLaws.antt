-- Where entries have widths at most W and shifts are at most k, nothing wraps: what the calls on tables and values ask is met, for the
-- next operation's form and width, for an output's width, and for board values.
-- Assumes nothing.
use Prim.Native.Nat.{ℕ, ◌+◌, ◌-◌, ◌^◌, ◌≤◌, ◌<◌}
use mathlib.Core.Path.{◌≡◌, sym, ap, ◌∙◌}
use mathlib.Core.List.{List, [], ◌∷◌, ◌++◌}
use native.Mathlib.Omega.{arith}
use lib.IntN.{ℤ, pos, nat_abs}
use lib.ListN.{length, get_or}
use Rattle.limits.specs.Limits.{max_shift, max_width, max_compiled_width}
use Rattle.limits.specs.Size.{SampleWidth}
use Rattle.layout_rules.specs.declared.Operation.{Operation}
use Rattle.layout_rules.specs.declared.Output.{Output}
use Rattle.board_rules.specs.Machine.{entry_at, machine, entry_form}
use Rattle.board_rules.specs.Width.{Within, Samples, width}
use Rattle.board_rules.specs.Table.{table_coefficient, row, output_row, HoldsForms, Small, SmallForms, SmallRange}
use Rattle.board_rules.proofs.MachineLaws.{machine_keeps}
use Rattle.board_rules.proofs.FormLaws.{columns_at}
use Rattle.board_rules.proofs.WidthLaws.{within_wider, entry_width-is, width-from-one}
use Rattle.board_rules.proofs.RangeLaws.{width_coefficient, small, small-within, operation-range-small, output-range-small}
use Rattle.board_rules.proofs.TableLaws.{row_is, operation-row-is}

-- a sample's entry has at most the samples' width
pub sample-width : (s n : ℕ) (os : List Operation) (symbol : ℕ) → 1 ≤ s → symbol < n → width s (entry_form n os symbol) ≤ s
sample-width s n os symbol l h =
    (entry_width-is s n os symbol).least s l (λ xs x. rw (machine_keeps xs os symbol (omega (arith, x.count))) (x.within symbol h))

-- ---- room: below, widths up to W that are shifted by at most k leave room in 64 bits for the sum of two if W + k is at most 61

-- widths that are read, and compiled ones, do
pub widest-shifted : max_width + max_shift ≤ 61
widest-shifted = omega arith

pub compiled-shifted : {s : ℕ} → SampleWidth s → max_compiled_width s + max_shift ≤ 61
compiled-shifted w = omega (arith, w.most)

-- ---- values

-- an entry's value, over samples of s bits
pub entry_within : (s n W : ℕ) (os : List Operation) (symbol : ℕ) → width s (entry_form n os symbol) ≤ W → (xs : List ℤ) → Samples s n xs
    → Within W (entry_at (machine xs os) symbol)
entry_within s n W os symbol h xs x = within_wider W h ((entry_width-is s n os symbol).holds xs x)

pub entry_small : (s n W k : ℕ) (os : List Operation) (symbol shift : ℕ) → width s (entry_form n os symbol) ≤ W → shift ≤ k → W + k ≤ 61
    → (xs : List ℤ) → Samples s n xs → Small (entry_at (machine xs os) symbol) shift
entry_small s n W k os symbol shift h l m xs x =
    small-within W k (entry_at (machine xs os) symbol) shift (omega (arith, width-from-one s (entry_form n os symbol))) (omega arith) (entry_within s n W os symbol h xs x) l

-- ---- coefficients

module _ (s W k n : ℕ) (os : List Operation) (table : List ℤ) (H : HoldsForms n os table) where
  coefficient_small : (symbol shift j : ℕ) → symbol < n + length os → j < n → width s (entry_form n os symbol) ≤ W → shift ≤ k → W + k ≤ 61
      → Small (table_coefficient table symbol j) shift
  coefficient_small symbol shift j a h b l m =
      small W k (table_coefficient table symbol j) shift (omega (arith, width-from-one s (entry_form n os symbol))) (omega arith) size l
    where
      c : get_or (row table n symbol) j (pos 0) ≡ table_coefficient table symbol j
      c = columns_at 0 n (table_coefficient table symbol) j h ∙ ap (table_coefficient table symbol) (omega arith)

      size : nat_abs (table_coefficient table symbol j) ≤ 2 ^ (W - 1)
      size = rw (sym c) (width_coefficient s W (row table n symbol) (rw (row_is n os table H symbol a) b) j)

  -- what `append_form` asks
  pub forms-small : (o : Operation) → o.a < n + length os → o.b < n + length os
      → width s (entry_form n os o.a) ≤ W → width s (entry_form n os o.b) ≤ W → o.sa ≤ k → o.sb ≤ k → W + k ≤ 61 → SmallForms table n o
  forms-small o ha hb wa wb la lb m = record {
    first = λ j h. coefficient_small o.a o.sa j ha h wa la m;
    second = λ j h. coefficient_small o.b o.sb j hb h wb lb m;
  }

  -- what `entry_width` asks of an operation's form, once it is appended
  pub appended_range-small : 2 ≤ s → (o : Operation) → o.a < n + length os → o.b < n + length os
      → width s (entry_form n os o.a) ≤ W → width s (entry_form n os o.b) ≤ W → o.sa ≤ k → o.sb ≤ k → W + k ≤ 61
      → SmallRange s (entry_form n (os ++ (o ∷ [])) (n + length os))
  appended_range-small two o ha hb wa wb la lb m =
      rw (sym (operation-row-is n os table H o ha hb))
      (operation-range-small s W k n two m (table_coefficient table o.a) (table_coefficient table o.b) o.sign o.sa o.sb
      (rw (row_is n os table H o.a ha) wa) (rw (row_is n os table H o.b hb) wb) la lb)

  -- what `output_width` asks of an output's
  pub output-row-range-small : 2 ≤ s → (o : Output) → o.symbol < n + length os → width s (entry_form n os o.symbol) ≤ W → o.shift ≤ k → W + k ≤ 61
      → SmallRange s (output_row table n o)
  output-row-range-small two o h w l m =
      output-range-small s W k n two (omega arith) (table_coefficient table o.symbol) o.sign o.shift (rw (row_is n os table H o.symbol h) w) l
