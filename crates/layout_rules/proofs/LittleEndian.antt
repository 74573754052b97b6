-- Laws of little-endian numbers and of lists of bytes.
-- Assumes nothing.
use Prim.Native.Nat.{ℕ, zero, suc, ◌+◌, ◌*◌, ◌/◌, ◌%◌, ◌<◌}
use mathlib.Core.Path.{◌≡◌, sym, ap, ap₂, subst, ◌∙◌}
use mathlib.Core.List.{List, [], ◌∷◌, ◌++◌}
use native.Mathlib.Omega.{arith}
use lib.ListN.{get_or, take, drop}
use lib.Seq.{get_or-drop}
use Rattle.layout_rules.specs.Bytes.{little_endian, word}

-- every element is a byte: what is known of lent bytes
abbrev pub AreBytes : List ℕ → Type 0
AreBytes bytes = (i : ℕ) → get_or bytes i 0 < 256

-- two bytes are a number below 65,536
pub word_below : (bytes : List ℕ) → AreBytes bytes → (place : ℕ) → word bytes place < 65536
word_below bytes all place = omega (arith, all place, all (place + 1))

-- a number's two bytes make the number
pub word_of : (x : ℕ) (rest : List ℕ) → word (little_endian x ++ rest) 0 ≡ x
word_of x rest = omega arith

-- a number behind so many bytes
pub word-drop : (b : List ℕ) (place i : ℕ) → word (drop place b) i ≡ word b (place + i)
word-drop b place i = ap₂ (λ (x y : ℕ). x + 256 * y) (get_or-drop place b i 0) (get_or-drop place b (i + 1) 0 ∙ ap (λ (k : ℕ). get_or b k 0) (omega arith))

-- two bytes are those of their number
pub low_byte : (low high : ℕ) → low < 256 → (low + 256 * high) % 256 ≡ low
low_byte low high l = omega arith

pub high_byte : (low high : ℕ) → low < 256 → (low + 256 * high) / 256 ≡ high
high_byte low high l = omega arith

-- a part of bytes is bytes
pub bytes_drop : (n : ℕ) (bytes : List ℕ) → AreBytes bytes → AreBytes (drop n bytes)
bytes_drop n bytes all i = subst (λ (x : ℕ). x < 256) (sym (get_or-drop n bytes i 0)) (all (n + i))

pub bytes_take : (n : ℕ) (bytes : List ℕ) → AreBytes bytes → AreBytes (take n bytes)
bytes_take zero bytes all i = omega arith
bytes_take (suc n) [] all i = omega arith
bytes_take (suc n) (x ∷ bytes) all zero = all zero
bytes_take (suc n) (x ∷ bytes) all (suc i) = bytes_take n bytes (λ j. all (suc j)) i
