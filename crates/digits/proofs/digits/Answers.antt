-- `digits::digits` meets its contract. The loop's invariant: the digits so far and those of what is left are the number's digits.
-- Assumes nothing.
use mathlib.Core.Path.{◌≡◌, refl, sym, ap, ◌∙◌}
use mathlib.Core.List.{List, [], ◌∷◌, ◌++◌, append_assoc, append-nil}
use Prim.Native.Nat.{ℕ, suc, ◌-◌, ◌≤◌, ◌<◌}
use native.Mathlib.Omega.{arith}
use native.Mathlib.Numerals.{add-one}
use lib.Dec.{lit≤}
use lib.IntN.{ℤ}
use lib.ListN.{length, take, set, length-set}
use lib.Seq.{take-suc-set, take_all}
use mir.Syntax.{w8, w16, w32}
use mir.Val.{SFits, to_z, of_z}
use Rattle.integers.proofs.Size.{fits_wider}
use Rattle.integers.proofs.Held.{is, held, held_cast, call_result}
use Rattle.digits.specs.Digits.{digit, rest, digits}
use Rattle.digits.proofs.digits.Goals as goal

-- a coefficient fits the wider type
wide : (c : goal.Start) → SFits w32 c.args.z
wide c = fits_wider w16 w32 c.args.z (lit≤ tt) c.ranges.z

pub loop-i-init : goal.loop-i-init
loop-i-init c = (omega arith, refl, refl)

-- one turn, over plain numbers
digits_next : (n : ℕ) (z d r : ℤ) → d ≡ digit z → r ≡ rest z → d ∷ digits n r ≡ digits (suc n) z
unfolding digits
digits_next n z d r e f = cc

turn : (i : ℕ) (left z d r : ℤ) (out : List ℤ) → i < length out → take i out ++ digits (length out - i) left ≡ digits (length out) z → d ≡ digit left → r ≡ rest left
    → take (suc i) (set out i d) ++ digits (length out - suc i) r ≡ digits (length out) z
turn i left z d r out l h e f =
    let ds : List ℤ = digits (length out - suc i) r in
    let one_more : length out - i ≡ suc (length out - suc i) = omega arith in
    ap (λ (front : List ℤ). front ++ ds) (take-suc-set out i d l) ∙ append_assoc (take i out) (d ∷ []) ds
    ∙ ap (λ (back : List ℤ). take i out ++ back) (digits_next (length out - suc i) left d r e f ∙ ap (λ (n : ℕ). digits n left) (sym one_more)) ∙ h

pub loop-i-preserved : goal.loop-i-preserved
loop-i-preserved c =
    let L = c.before.before.before in
    let room : L.loop-i.i < length L.loop-i.out = omega arith in
    rw (length-set, add-one) (
      omega arith,
      L.loop-i.invariant.1,
      turn L.loop-i.i (to_z w32 L.loop-i.left-bits) _ (to_z w8 (of_z w8 c.digit_of.result)) (to_z w32 (of_z w32 c.rest_of-left.result)) L.loop-i.out room L.loop-i.invariant.2
          (call_result w8 c.digit_of.type_inv c.digit_of.ensures) (call_result w32 c.rest_of-left.type_inv c.rest_of-left.ensures),
    )

-- after the last position
finished : (i n : ℕ) (left z : ℤ) (out : List ℤ) → length out ≡ n → n ≤ i → take i out ++ digits (length out - i) left ≡ digits (length out) z → out ≡ digits n z
unfolding digits
finished i n left z out e l h =
    let none_left : length out - i ≡ 0 = omega arith in
    sym (take_all i out (omega arith)) ∙ sym (append-nil (take i out)) ∙ ap (λ (m : ℕ). take i out ++ digits m left) (sym none_left) ∙ h ∙ ap (λ (m : ℕ). digits m z) e

pub returns : goal.returns
returns c =
    let L = c.before in
    finished L.loop-i.i _ (to_z w32 L.loop-i.left-bits) _ L.loop-i.out L.loop-i.invariant.1 (omega arith) L.loop-i.invariant.2
    ∙ ap (digits _) (is (held_cast w32 (held L.ranges.z) (wide L.before)))
