-- `layout_matrix::coefficient` meets its contract. Assumes nothing.
use Rattle.std.proofs.Common.{ℕ, suc, ◌<◌, ◌≤◌, ◌≡◌, ◌-◌, ◌∙◌, ap, arith}
use native.Mathlib.Decide.{dec_lt}
use mir.Syntax.{w16}
use mir.Val.{to_z}
use lib.IntN.{negsuc, pos, ◌-ℤ◌}
use borrow.Author.Tests.{le-ltb}
use Rattle.std.proofs.lemmas.Int.{ints}
use Rattle.integers.proofs.Held.{call_result}
use Rattle.layout_rules.specs.Bytes.{word}
use Rattle.layout_rules.specs.Matrix.{signed_word, coefficient_at}
use Rattle.layout_rules.proofs.TwosComplement.{signed_low}
use Rattle.layout_matrix.proofs.coefficient.Goals as goal

high : (x : ℕ) → 32768 ≤ x → x < 65536 → negsuc (65536 - suc x) ≡ pos x -ℤ pos 65536
high x l h = omega (arith, ints)

signed : (x : ℕ) → x < 65536 → to_z w16 x ≡ signed_word x
unfolding signed_word
signed x fits = go (dec_lt x 32768)
  where
    go : Dec (x < 32768) → to_z w16 x ≡ signed_word x
    go (yes h) = signed_low w16 x h
    go (no h) = let l : 32768 ≤ x = omega arith in simp (le-ltb x 32768 l) (high x l fits)

pub returns : goal.returns
unfolding coefficient_at
returns c =
    let read = c.word_at.ensures ∙ ap (λ (place : ℕ). word c.args.bytes.now place) c.coefficient_place.ensures in
    call_result w16 c.cast_signed.type_inv (c.cast_signed.ensures ∙ signed _ (omega arith) ∙ ap signed_word read)
