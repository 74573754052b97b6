-- `board_width::sums_of` meets its contract. What is left to sum is the columns from j on. Assumes nothing.
use mathlib.Core.Path.{◌≡◌, refl, sym, subst, ap, ◌∙◌}
use Prim.Native.Nat.{ℕ, suc, ◌+◌, ◌-◌, ◌<◌}
use native.Mathlib.Omega.{arith}
use native.Mathlib.Numerals.{add-one}
use lib.IntN.{ℤ}
use mir.Syntax.{w64}
use mir.Val.{to_z, of_z}
use mir.ValLaws.{to_z-of_z}
use Rattle.board_width.specs.declared.Sums.{Sums}
use Rattle.board_rules.specs.Width.{positive_part, negative_part, positives, negatives}
use Rattle.board_rules.specs.Table.{table_coefficient, each_column_from}
use Rattle.board_width.proofs.sums_of.Goals as goal
use Rattle.board_width.proofs.sums_of.Lts
use Rattle.board_width.proofs.sums_of.Reads
use Rattle.board_width.proofs.sums_of.Tie

-- one column of what is left
left : (j n : ℕ) → j < n → n - j ≡ suc (n - suc j)
left j n h = omega arith

next-positives : (f : ℕ → ℤ) (j n : ℕ) → j < n → positives (each_column_from j (n - j) f) ≡ positive_part (f j) + positives (each_column_from (suc j) (n - suc j) f)
unfolding positives each_column_from
next-positives f j n h = rw (left j n h) refl

next-negatives : (f : ℕ → ℤ) (j n : ℕ) → j < n → negatives (each_column_from j (n - j) f) ≡ negative_part (f j) + negatives (each_column_from (suc j) (n - suc j) f)
unfolding negatives each_column_from
next-negatives f j n h = rw (left j n h) refl

none-positives : (f : ℕ → ℤ) (n : ℕ) → positives (each_column_from n (n - n) f) ≡ 0
unfolding positives each_column_from
none-positives f n = let e : n - n ≡ 0 = omega arith in rw e refl

none-negatives : (f : ℕ → ℤ) (n : ℕ) → negatives (each_column_from n (n - n) f) ≡ 0
unfolding negatives each_column_from
none-negatives f n = let e : n - n ≡ 0 = omega arith in rw e refl

pub loop-j-init : goal.loop-j-init
loop-j-init c = let e : c.args.n - 0 ≡ c.args.n = omega arith in rw e (omega arith, (omega arith, omega arith))

module _ (c : Lts.After-positive_part Tie.the-claims Reads.Pre Reads.Post goal.the-invariant-loop-j goal.the-decreases-loop-j Tie.handed_clauses) where
  abbrev L : Lts.At-loop Tie.the-claims Reads.Pre Reads.Post goal.the-invariant-loop-j goal.the-decreases-loop-j Tie.handed_clauses
  L = c.before.before.before

  abbrev f : ℕ → ℤ
  f = table_coefficient L.args.table.now L.args.symbol

  read : to_z w64 (of_z w64 (f L.loop-j.j)) ≡ f L.loop-j.j
  read = to_z-of_z w64 (f L.loop-j.j) (record { sfits = c.c-1.given })

  is_positive : c.positive_part-positives.result ≡ positive_part (f L.loop-j.j)
  is_positive = c.positive_part-positives.ensures ∙ ap positive_part read

pub overflow_add-positives : goal.overflow_add-positives
overflow_add-positives c = omega (arith, is_positive c, next-positives (f c) (L c).loop-j.j (L c).args.n (omega arith))

module _ (c : Lts.After-negative_part Tie.the-claims Reads.Pre Reads.Post goal.the-invariant-loop-j goal.the-decreases-loop-j Tie.handed_clauses) where
  is_negative : c.negative_part-negatives.result ≡ negative_part (f c.before (L c.before).loop-j.j)
  is_negative = c.negative_part-negatives.ensures ∙ ap negative_part (read c.before)

pub overflow_add-negatives : goal.overflow_add-negatives
overflow_add-negatives c = omega (arith, is_negative c, next-negatives (f c.before) (L c.before).loop-j.j (L c.before).args.n (omega arith))

pub loop-j-preserved : goal.loop-j-preserved
loop-j-preserved c = let l = L c.before in rw add-one (
  omega arith,
  (
    omega (arith, is_positive c.before, next-positives (f c.before) l.loop-j.j l.args.n (omega arith)),
    omega (arith, is_negative c, next-negatives (f c.before) l.loop-j.j l.args.n (omega arith)),
  ),
)

-- nothing is left
ends : {p r e : ℕ} → r ≡ 0 → p + r ≡ e → p ≡ e
ends {p} {r} {e} d h = omega arith

both : {p p' q q' : ℕ} → p ≡ p' → q ≡ q' → ◌≡◌ {A = Sums} record { positives = p; negatives = q } record { positives = p'; negatives = q' }
both d e = rw (d, e) refl

pub returns : goal.returns
returns c =
    let i = c.loop-j.invariant in
    let e : c.loop-j.j ≡ c.args.n = omega arith in
    let f = table_coefficient c.args.table.now c.args.symbol in
    both (ends (subst (λ (k : ℕ). positives (each_column_from k (c.args.n - k) f) ≡ 0) (sym e) (none-positives f c.args.n)) i.1.0) (ends (subst (λ (k : ℕ). negatives (each_column_from k (c.args.n - k) f) ≡ 0) (sym e) (none-negatives f c.args.n)) i.1.1)
