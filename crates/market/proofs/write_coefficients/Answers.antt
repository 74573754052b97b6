-- `market::write_coefficients` meets its contract. Assumes nothing.
use Prim.Native.Nat.{ℕ, ◌≤◌}
use mathlib.Core.Path.{ap, ◌∙◌}
use native.Mathlib.Omega.{arith}
use lib.ListN.{length, get_or}
use Rattle.layout_rules.specs.Bytes.{little_endian}
use Rattle.layout_rules.specs.Matrix.{coefficient_place}
use Rattle.layout_rules.specs.Written.{written}
use Rattle.market_rules.specs.Market.{entry_index}
use Rattle.market.proofs.Coefficients.{coefficients-none, coefficient_next}
use Rattle.market.proofs.write_coefficients.Goals as goal

pub loop-k-init : goal.loop-k-init
loop-k-init c = coefficients-none _ c.args.buffer.now

pub loop-k-preserved : goal.loop-k-preserved
loop-k-preserved c =
    let words = c.args.words.now in
    let at : ℕ → ℕ = λ k. get_or words (entry_index c.args.m c.args.n k) 0 in
    let one = c.write_word.ensures ∙ ap (λ (place : ℕ). written c.loop-k.buffer place (little_endian (at c.loop-k.k))) c.coefficient_place.ensures in
    let room : coefficient_place (length words) ≤ length c.args.buffer.now = omega (arith, c.requires.words_len, c.requires.n_in_bounds) in
    coefficient_next at (length words) c.loop-k.k c.args.buffer.now c.loop-k.buffer c.write_word.new.buffer (omega arith) room c.loop-k.invariant one
