-- `board_width::output_width` meets its contract. Assumes nothing.
use mathlib.Core.Path.{◌≡◌, ap, ap₂, ◌∙◌}
use Prim.Native.Nat.{ℕ, ◌+◌, ◌*◌, ◌-◌, ◌^◌, ◌<◌}
use native.Mathlib.Omega.{arith}
use native.Mathlib.Nat.{mul-le-mul_left, mul-le-mul_right}
use lib.Pow.{pow_pos}
use lib.IntN.{ℤ}
use Rattle.board_width.specs.declared.Sums.{Sums}
use Rattle.board_rules.specs.Width.{positives, negatives, width_of}
use Rattle.board_rules.specs.Table.{table_coefficient, each_column}
use Rattle.board_rules.proofs.OutputLaws.{plus_width, minus-width, zero-width, turned_spread}
use Rattle.board_width.proofs.output_width.Goals as goal
use Rattle.board_width.proofs.output_width.Lts
use Rattle.board_width.proofs.output_width.Reads
use Rattle.board_width.proofs.output_width.Tie

-- what the spread bounds, over plain numbers
record Bounds (p q h S : ℕ) : Type 0 where
  sums : p + q < 2 ^ 62
  above : p * 2 ^ h < 2 ^ 64
  below : q * 2 ^ h < 2 ^ 64

bounds : (p q h s : ℕ) → 2 ^ (s - 1) * (p * 2 ^ h + q * 2 ^ h) < 2 ^ 62 → Bounds p q h s
bounds p q h s k =
    let a : p * 2 ^ h + q * 2 ^ h < 2 ^ 62 = omega (arith, mul-le-mul_right (p * 2 ^ h + q * 2 ^ h) (pow_pos (s - 1))) in
    record { sums = omega (arith, mul-le-mul_left p (pow_pos h), mul-le-mul_left q (pow_pos h)); above = omega arith; below = omega arith }

pub returns-then-o-gt1 : goal.returns-then-o-gt1
returns-then-o-gt1 c = let s = c in
    zero-width (table_coefficient s.args.table.now s.args.o.symbol) s.args.n s.args.s s.args.o.shift s.args.o.sign c.if-o-gt1.true

module _ (c : Lts.After-struct_known2 Tie.the-claims Reads.Pre Reads.Post Tie.handed_clauses) where
  abbrev s : Lts.Start Tie.the-claims Reads.Pre Reads.Post Tie.handed_clauses
  s = c.before.before.before

  abbrev f : ℕ → ℤ
  f = table_coefficient s.args.table.now s.args.o.symbol

  spread : 2 ^ (s.args.s - 1) * (positives (each_column s.args.n f) * 2 ^ s.args.o.shift + negatives (each_column s.args.n f) * 2 ^ s.args.o.shift) < 2 ^ 62
  spread = turned_spread f s.args.n s.args.s s.args.o.shift s.args.o.sign c.if-o-gt1.false s.requires.small_range

  bound : Bounds (positives (each_column s.args.n f)) (negatives (each_column s.args.n f)) s.args.o.shift s.args.s
  bound = bounds (positives (each_column s.args.n f)) (negatives (each_column s.args.n f)) s.args.o.shift s.args.s spread

pub sums_of-sums-requires : goal.sums_of-sums-requires
sums_of-sums-requires c = record { symbol_lt_max_symbols = ((s c).requires.symbol_lt_max_symbols.0, (s c).requires.symbol_lt_max_symbols.1.1); symbol_bound = (bound c).sums }

module _ (c : Lts.After-sums_of Tie.the-claims Reads.Pre Reads.Post Tie.handed_clauses) where
  above-is : c.sums_of-sums.result.positives ≡ positives (each_column (s c.before).args.n (f c.before))
  above-is = ap (λ (t : Sums). t.positives) c.sums_of-sums.ensures

  below-is : c.sums_of-sums.result.negatives ≡ negatives (each_column (s c.before).args.n (f c.before))
  below-is = ap (λ (t : Sums). t.negatives) c.sums_of-sums.ensures

pub scaled-positives-requires : goal.scaled-positives-requires
scaled-positives-requires c = ((s c.before).requires.symbol_lt_max_symbols.1.0, rw (above-is c) (bound c.before).above)

pub scaled-negatives-requires : goal.scaled-negatives-requires
scaled-negatives-requires c = ((s c.before.before).requires.symbol_lt_max_symbols.1.0, rw (below-is c.before) (bound c.before.before).below)

module _ (c : Lts.After-struct_known3 Tie.the-claims Reads.Pre Reads.Post Tie.handed_clauses) where
  abbrev k : Lts.After-struct_known2 Tie.the-claims Reads.Pre Reads.Post Tie.handed_clauses
  k = c.before.before.before.before

  above : c.scaled-positives.result ≡ positives (each_column (s k).args.n (f k)) * 2 ^ (s k).args.o.shift
  above = c.scaled-positives.ensures ∙ ap (λ (p : ℕ). p * 2 ^ (s k).args.o.shift) (above-is c.before.before.before)

  below : c.scaled-negatives.result ≡ negatives (each_column (s k).args.n (f k)) * 2 ^ (s k).args.o.shift
  below = c.scaled-negatives.ensures ∙ ap (λ (p : ℕ). p * 2 ^ (s k).args.o.shift) (below-is c.before.before.before)

-- what `width_of` asks
asked : (P : ℕ) {p q p' q' : ℕ} → p ≡ p' → q ≡ q' → P * (p' + q') < 2 ^ 62 → P * (p + q) < 2 ^ 62
asked P d e h = rw (d, e) h

scaled-spread : (c : Lts.After-struct_known3 Tie.the-claims Reads.Pre Reads.Post Tie.handed_clauses) → 2 ^ ((s (k c)).args.s - 1) * (c.scaled-positives.result + c.scaled-negatives.result) < 2 ^ 62
scaled-spread c = asked (2 ^ ((s (k c)).args.s - 1)) (above c) (below c) (spread (k c))

pub width_of-requires : goal.width_of-requires
width_of-requires c = record { le_s = (s (k c.before)).requires.le_s; q_bound = omega (arith, scaled-spread c.before) }

pub width_of-requires-else-o-eq0 : goal.width_of-requires-else-o-eq0
width_of-requires-else-o-eq0 c = record { le_s = (s (k c.before)).requires.le_s; q_bound = omega (arith, scaled-spread c.before) }

pub returns-then-o-eq0 : goal.returns-then-o-eq0
returns-then-o-eq0 c = let d = c in let t = s (k d.before.before) in
    c.width_of.ensures ∙ ap₂ (width_of t.args.s) (above d.before.before) (below d.before.before)
    ∙ plus_width (f (k d.before.before)) t.args.n t.args.s t.args.o.shift t.args.o.sign c.if-o-eq0.true

pub returns-else-o-eq0 : goal.returns-else-o-eq0
returns-else-o-eq0 c = let d = c in let t = s (k d.before.before) in
    c.width_of-else-o-eq0.ensures ∙ ap₂ (width_of t.args.s) (below d.before.before) (above d.before.before)
    ∙ minus-width (f (k d.before.before)) t.args.n t.args.s t.args.o.shift t.args.o.sign c.if-o-eq0.false (k d.before.before).if-o-gt1.false
