-- `generator::write_coefficients` meets its contract. Assumes nothing.
use Rattle.std.proofs.Common.{ℕ, ◌+◌, ◌≤◌, length, ap, ◌∙◌, ap₂, arith}
use mathlib.Core.List.{flat_map}
use Rattle.layout_rules.specs.Bytes.{little_endian}
use Rattle.layout_rules.specs.Matrix.{coefficient_place}
use Rattle.layout_rules.specs.Written.{written}
use Rattle.generator.specs.Generator.{upper_half, generated_words}
use Rattle.generator.proofs.WriteLaws.{with_coefficients, coefficient_next, coefficients-end}
use Rattle.generator.proofs.write_coefficients.Goals as goal

pub loop-index-preserved : goal.loop-index-preserved
loop-index-preserved c =
    let l = c.loop-index in
    let gives = c.upper_half.ensures ∙ ap upper_half c.grown_state-state.ensures in
    let one = c.write_word.ensures ∙ ap₂ (λ (at x : ℕ). written l.buffer at (little_endian x)) c.coefficient_place.ensures gives in
    let room : coefficient_place c.args.count ≤ length l.buffer = omega (arith, c.requires, l.auto.buffer) in
    ap (λ (x : ℕ). with_coefficients c.write_word.new.buffer x c.args.count (l.index + 1)) c.grown_state-state.ensures
    ∙ coefficient_next l.buffer c.write_word.new.buffer l.state c.args.count l.index c.loop-index-test.true room one
    ∙ l.invariant

pub returns : goal.returns
returns c =
    coefficients-end c.loop-index.buffer c.loop-index.state c.args.count c.loop-index.index c.loop-index-test.false ∙ c.loop-index.invariant
    ∙ ap (λ (k : ℕ). written c.args.buffer.now (coefficient_place 0) (flat_map little_endian (generated_words c.args.seed k))) (omega arith)
