-- `board_width::width_of` meets its contract. Assumes nothing.
use mathlib.Core.Path.{◌≡◌, refl, ap, ◌∙◌}
use Prim.Native.Nat.{ℕ, zero, suc, pred, ◌+◌, ◌*◌, ◌-◌, ◌^◌, ◌≤◌, ◌<◌, max}
use native.Mathlib.Omega.{arith}
use native.Mathlib.Nat.{mul-le-mul_right}
use lib.Pow.{pow_pos}
use Rattle.board_rules.specs.Width.{bits, highest_of, lowest_of}
use Rattle.board_rules.proofs.WidthLaws.{bits-least}
use Rattle.board_width.proofs.width_of.Goals as goal
use Rattle.board_width.proofs.width_of.Lts
use Rattle.board_width.proofs.width_of.Reads
use Rattle.board_width.proofs.width_of.Tie

-- the ends of the range, where the samples are from −P to P − 1
record Ends (P p q spread : ℕ) : Type 0 where
  within : spread < 2 ^ 62
  above : p ≤ spread
  below : q ≤ spread
  high : spread - p ≡ (P - 1) * p + P * q
  low : spread - q ≡ P * p + (P - 1) * q

ends : (P p q spread : ℕ) → 0 < P → P * (p + q) < 2 ^ 62 → spread ≡ (p + q) * P → Ends P p q spread
ends zero p q spread z h e = absurd (omega arith)
ends (suc g) p q spread z h e =
    let d : suc g - 1 ≡ g = omega arith in
    record { within = omega arith; above = omega arith; below = omega arith; high = rw d (omega arith); low = rw d (omega arith) }

-- the end that is farther from 0, as the code has it
end_is : {P spread x r : ℕ} (p q : ℕ) → Ends P p q spread → x ≡ spread - q - 1 → r ≡ max (spread - p) x
    → r ≡ max ((P - 1) * p + P * q) (pred (P * p + (P - 1) * q))
end_is {P} p q d e f = let less : (y : ℕ) → y - 1 ≡ pred y = λ y. omega arith in f ∙ rw (e, d.high, d.low, less (P * p + (P - 1) * q)) refl

pub overflow_add-p : goal.overflow_add-p
overflow_add-p c = omega (arith, c.requires.q_bound, mul-le-mul_right (c.args.p + c.args.q) (pow_pos (c.args.s - 1)))

pub scaled-spread-requires : goal.scaled-spread-requires
scaled-spread-requires c = (omega arith, omega (arith, c.requires.q_bound))

module _ (c : Lts.After-scaled Tie.the-claims Reads.Pre Reads.Post Tie.handed_clauses) where
  abbrev s : ℕ
  s = c.args.s

  abbrev p : ℕ
  p = c.args.p

  abbrev q : ℕ
  q = c.args.q

  range : Ends (2 ^ (s - 1)) p q c.scaled-spread.result
  range = ends (2 ^ (s - 1)) p q c.scaled-spread.result (pow_pos (s - 1)) c.requires.q_bound c.scaled-spread.ensures

pub overflow_sub-high : goal.overflow_sub-high
overflow_sub-high c = omega (arith, (range c).above)

pub overflow_sub-low : goal.overflow_sub-low
overflow_sub-low c = omega (arith, (range c).below)

module _ (c : Lts.After-max Tie.the-claims Reads.Pre Reads.Post Tie.handed_clauses) where
  abbrev a : Lts.After-scaled Tie.the-claims Reads.Pre Reads.Post Tie.handed_clauses
  a = c.before.before

  end : c.max-end.result ≡ max (highest_of (s a) (p a) (q a)) (pred (lowest_of (s a) (p a) (q a)))
  end = end_is (p a) (q a) (range a) c.saturating_sub.ensures c.max-end.ensures

  end_fits : c.max-end.result < 2 ^ 62
  end_fits = omega (arith, c.max-end.ensures, c.saturating_sub.ensures, (range a).within)

pub overflow_add-result : goal.overflow_add-result
overflow_add-result c = omega (arith, c.bit_count.ensures, bits-least c.max-end.result 62 (end_fits c.before))

pub returns : goal.returns
returns c = omega (arith, c.bit_count.ensures ∙ ap bits (end c.before))
