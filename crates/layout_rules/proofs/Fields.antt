-- The fields of each kind of record: a written payload reads back, bytes of a payload's length are those of the fields read, and a
-- payload's bytes stand 4 behind the record's place.
-- Assumes nothing.
use Prim.Native.Nat.{ℕ, zero, suc, ◌+◌, ◌*◌, ◌-◌, ◌/◌, ◌%◌, ◌<◌}
use mathlib.Core.Path.{◌≡◌, refl, sym, ap, ap₂, ◌∙◌}
use mathlib.Core.Bool.{Bool, true, false, cond}
use mathlib.Core.List.{List, [], ◌∷◌, ◌++◌}
use native.Mathlib.Omega.{arith}
use lib.Dec.{eqb}
use lib.ListN.{length, get_or, drop}
use lib.Seq.{get_or-take, get_or-drop}
use borrow.Author.Tests.{eqb-true}
use Rattle.limits.specs.Limits.{unstated_width}
use Rattle.layout_rules.proofs.LittleEndian.{AreBytes, word_of, low_byte, high_byte}
use Rattle.layout_rules.specs.Bytes.{little_endian, word}
use Rattle.layout_rules.specs.Records.{head_length, width_head_length, head_length_of, head_payload, head_of, operation_payload, operation_of, output_payload, output_of, totals_payload, totals_of}
use Rattle.layout_rules.specs.Places.{payload_of}
use Rattle.layout_rules.specs.declared.Head.{Head}
use Rattle.layout_rules.specs.declared.Operation.{Operation}
use Rattle.layout_rules.specs.declared.Output.{Output}
use Rattle.layout_rules.specs.declared.Totals.{Totals}

-- ---- a written payload reads back

-- a head's bytes with the width stated or not
stating : Head → Bool → List ℕ
stating h unstated = h.m ∷ h.n ∷ little_endian h.operations ++ cond unstated [] (h.width ∷ [])

width_back : (h : Head) (t : Bool) → eqb h.width unstated_width ≡ t → get_or (stating h t) 4 unstated_width ≡ h.width
unfolding stating
width_back h true e = sym (eqb-true h.width unstated_width e)
width_back h false e = refl

pub head_back : (h : Head) → head_of (head_payload h) ≡ h
unfolding head_of head_payload stating
head_back h =
    ap₂ (λ (x w : ℕ). record { m = h.m; n = h.n; operations = x; width = w }) (word_of h.operations [])
    (width_back h (eqb h.width unstated_width) refl)

pub operation_back : (o : Operation) → operation_of (operation_payload o) ≡ o
unfolding operation_of operation_payload
operation_back o =
    ap₂ (λ (x y : ℕ). record { sign = o.sign; a = x; sa = o.sa; b = y; sb = o.sb; width = o.width }) (word_of o.a []) (word_of o.b [])

pub output_back : (o : Output) → output_of (output_payload o) ≡ o
unfolding output_of output_payload
output_back o = ap (λ (x : ℕ). record { sign = o.sign; symbol = x; shift = o.shift; width = o.width }) (word_of o.symbol [])

pub totals_back : (t : Totals) → totals_of (totals_payload t) ≡ t
unfolding totals_of totals_payload
totals_back t = ap₂ (λ (x y : ℕ). record { operations = x; depth = y }) (word_of t.operations []) (word_of t.depth [])

-- ---- bytes of a payload's length are those of the fields read

-- a list by its elements
elements : (ℕ → ℕ) → ℕ → List ℕ
elements f zero = []
elements f (suc k) = f 0 ∷ elements (λ i. f (suc i)) k

listed : (p : List ℕ) → elements (λ i. get_or p i 0) (length p) ≡ p
unfolding elements
listed [] = refl
listed (x ∷ p) = ap (λ (l : List ℕ). x ∷ l) (listed p)

-- within a list no default is taken
pub get_d_within : (p : List ℕ) (i d e : ℕ) → i < length p → get_or p i d ≡ get_or p i e
get_d_within [] i d e h = absurd (omega arith)
get_d_within (x ∷ p) zero d e h = refl
get_d_within (x ∷ p) (suc i) d e h = get_d_within p i d e (omega arith)

module _ (p : List ℕ) (all : AreBytes p) where
  low : (i : ℕ) → word p i % 256 ≡ get_or p i 0
  low i = low_byte (get_or p i 0) (get_or p (i + 1) 0) (all i)

  high : (i : ℕ) → word p i / 256 ≡ get_or p (i + 1) 0
  high i = high_byte (get_or p i 0) (get_or p (i + 1) 0) (all i)

  its_elements : (n : ℕ) → length p ≡ n → elements (λ i. get_or p i 0) n ≡ p
  its_elements n l = ap (elements (λ i. get_or p i 0)) (sym l) ∙ listed p

  stated-bytes : (t : Bool) → length p ≡ cond t head_length width_head_length - 4 → stating (head_of p) t ≡ p
  unfolding head_of stating elements
  stated-bytes true l = rw (low 2, high 2) (its_elements 4 l)
  stated-bytes false l = rw (low 2, high 2, get_d_within p 4 unstated_width 0 (omega arith)) (its_elements 5 l)

  pub head_bytes_lem : length p ≡ head_length_of (head_of p).width - 4 → head_payload (head_of p) ≡ p
  unfolding head_length_of head_payload stating
  head_bytes_lem l = stated-bytes (eqb (head_of p).width unstated_width) l

  pub operation-bytes : length p ≡ 8 → operation_payload (operation_of p) ≡ p
  unfolding operation_of operation_payload elements
  operation-bytes l = rw (low 1, high 1, low 4, high 4) (its_elements 8 l)

  pub output-bytes : length p ≡ 5 → output_payload (output_of p) ≡ p
  unfolding output_of output_payload elements
  output-bytes l = rw (low 1, high 1) (its_elements 5 l)

  pub totals-bytes : length p ≡ 4 → totals_payload (totals_of p) ≡ p
  unfolding totals_of totals_payload elements
  totals-bytes l = rw (low 0, high 0, low 2, high 2) (its_elements 4 l)

-- ---- a payload's bytes stand 4 behind the record's place

module _ (bytes : List ℕ) (place size : ℕ) where
  pub payload_byte : (i at : ℕ) → at ≡ place + 4 + i → i < size - 4 → get_or (payload_of bytes place size) i 0 ≡ get_or bytes at 0
  payload_byte i at e h =
      get_or-take (size - 4) (drop (place + 4) bytes) i 0 h ∙ get_or-drop (place + 4) bytes i 0 ∙ ap (λ (j : ℕ). get_or bytes j 0) (sym e)

  pub payload-word : (i at : ℕ) → at ≡ place + 4 + i → i + 1 < size - 4 → word (payload_of bytes place size) i ≡ word bytes at
  payload-word i at e h =
      ap₂ (λ (low high : ℕ). low + 256 * high) (payload_byte i at e (omega arith)) (payload_byte (i + 1) (at + 1) (omega arith) h)
