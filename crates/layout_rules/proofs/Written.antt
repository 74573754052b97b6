-- Writers one after another: each is lent the part of the buffer from its place on, or sets bytes of it, and a run of them is one equation
-- over the buffer.
-- Assumes nothing.
use Prim.Native.Nat.{ℕ, suc, ◌+◌, ◌*◌, ◌-◌, ◌≤◌, ◌<◌}
use mathlib.Core.Path.{◌≡◌, ap, sym, ◌∙◌}
use mathlib.Core.List.{List, [], ◌∷◌, ◌++◌, flat_map, append_assoc, append-nil}
use native.Mathlib.Omega.{arith}
use native.Mathlib.Nat.{add_assoc, add-zero, zero-add}
use native.Mathlib.Numerals.{add-one}
use lib.ListN.{length, take, drop, set, length-append, length-take, length-drop, drop_of_length-le, take-append-drop}
use lib.Seq.{set_split, take_at, drop-drop, take_all, length-take-le, drop-append-add}
use borrow.Rule.Slice.PartMut.{put_mid}
use Rattle.layout_rules.proofs.Lengths.{length_records}
use Rattle.layout_rules.specs.Written.{written}

-- what the caller of a writer that was lent `&mut buffer[place..]` holds: `last` is what the writer left of the part
pub written_part : (buffer : List ℕ) (place : ℕ) (bytes last : List ℕ) (n : ℕ) → length bytes ≡ n → place + n ≤ length buffer
    → last ≡ bytes ++ drop n (take (length buffer - place) (drop place buffer))
    → put_mid place (length buffer - place) buffer last ≡ written buffer place bytes
written_part buffer place bytes last n l h e =
    let whole : take (length buffer - place) (drop place buffer) ≡ drop place buffer = take_all (length buffer - place) (drop place buffer) (simp length-drop (omega arith)) in
    let none : drop (length buffer - place) (drop place buffer) ≡ [] = drop_of_length-le (drop place buffer) {i = length buffer - place} (simp length-drop (omega arith)) in
    rw (e, whole, none, drop-drop, append-nil, l)

-- at the buffer's start
pub written_start : (buffer bytes : List ℕ) (n : ℕ) → length bytes ≡ n → bytes ++ drop n buffer ≡ written buffer 0 bytes
written_start buffer bytes n l = rw (l, zero-add)

pub written-nothing : (buffer : List ℕ) (place : ℕ) → written buffer place [] ≡ buffer
written-nothing buffer place = rw add-zero (take-append-drop place buffer)

pub length-written : (buffer : List ℕ) (place : ℕ) (bytes : List ℕ) → place + length bytes ≤ length buffer → length (written buffer place bytes) ≡ length buffer
length-written buffer place bytes h = simp (length-append, length-take, length-drop) (omega arith)

written_byte : (buffer : List ℕ) (place x : ℕ) → place < length buffer → set buffer place x ≡ written buffer place (x ∷ [])
written_byte buffer place x h = rw add-one (set_split buffer place x h)

-- one record after another
pub written_after : (buffer : List ℕ) (place : ℕ) (first second : List ℕ) (next : ℕ) → place + length first ≡ next → next + length second ≤ length buffer
    → written (written buffer place first) next second ≡ written buffer place (first ++ second)
written_after buffer place first second next n h =
    let before : List ℕ = take place buffer ++ first in
    let behind : List ℕ = drop (place + length first) buffer in
    let before-length : length before ≡ next = length-append (take place buffer) first ∙ omega (arith, length-take-le place buffer (omega arith)) in
    let split : written buffer place first ≡ before ++ behind = sym (append_assoc (take place buffer) first behind) in
    let taken : take next (written buffer place first) ≡ before = ap (take next) split ∙ take_at before behind next before-length in
    let dropped : drop (next + length second) (written buffer place first) ≡ drop (place + length first + length second) buffer =
    ap (drop (next + length second)) split
    ∙ ap (λ (k : ℕ). drop (k + length second) (before ++ behind)) (sym before-length)
    ∙ drop-append-add before behind (length second)
    ∙ drop-drop (length second) (place + length first) buffer in
    rw (taken, dropped) (simp (append_assoc, length-append, add_assoc))

-- two bytes, set one after the other
pub written-bytes : (buffer : List ℕ) (place x y : ℕ) → place + 1 < length buffer → set (set buffer place x) (place + 1) y ≡ written buffer place (x ∷ y ∷ [])
written-bytes buffer place x y h =
    ap (λ (l : List ℕ). set l (place + 1) y) (written_byte buffer place x (omega arith))
    ∙ written_byte (written buffer place (x ∷ [])) (place + 1) y (omega (arith, length-written buffer place (x ∷ []) (omega arith)))
    ∙ written_after buffer place (x ∷ []) (y ∷ []) (place + 1) (omega arith) (omega arith)

-- ---- records of one length, one after another

module _ {A : Type 0} (bytes : A → List ℕ) (size : ℕ) (each : (x : A) → length (bytes x) ≡ size) where
  -- one record more of those that are left, at a place
  pub record_next : (buffer after : List ℕ) (place next : ℕ) (x : A) (xs : List A) → next ≡ place + size → place + size * suc (length xs) ≤ length buffer
      → after ≡ written buffer place (bytes x) → written after next (flat_map bytes xs) ≡ written buffer place (flat_map bytes (x ∷ xs))
  unfolding flat_map
  record_next buffer after place next x xs e h f =
      ap (λ (l : List ℕ). written l next (flat_map bytes xs)) f
      ∙ written_after buffer place (bytes x) (flat_map bytes xs) next (omega (arith, each x)) (omega (arith, length_records bytes size each xs))

  pub record-length : (buffer after : List ℕ) (place : ℕ) (x : A) → place + size ≤ length buffer → after ≡ written buffer place (bytes x) → length after ≡ length buffer
  record-length buffer after place x h f = ap length f ∙ length-written buffer place (bytes x) (omega (arith, each x))

  -- the same, as the caller of a writer holds the buffer
  pub part_next : (buffer last : List ℕ) (place next : ℕ) (x : A) (xs : List A) → next ≡ place + size → place + size * suc (length xs) ≤ length buffer
      → last ≡ bytes x ++ drop size (take (length buffer - place) (drop place buffer))
      → (length (put_mid place (length buffer - place) buffer last) ≡ length buffer)
      × (written (put_mid place (length buffer - place) buffer last) next (flat_map bytes xs) ≡ written buffer place (flat_map bytes (x ∷ xs)))
  part_next buffer last place next x xs e h f =
      let after : List ℕ = put_mid place (length buffer - place) buffer last in
      let room : place + size ≤ length buffer = omega arith in
      let is : after ≡ written buffer place (bytes x) = written_part buffer place (bytes x) last size (each x) room f in
      (record-length buffer after place x room is, record_next buffer after place next x xs e h is)

  pub records_none : (buffer : List ℕ) (place : ℕ) (xs : List A) → xs ≡ [] → buffer ≡ written buffer place (flat_map bytes xs)
  unfolding flat_map
  records_none buffer place xs e = sym (ap (λ (l : List A). written buffer place (flat_map bytes l)) e ∙ written-nothing buffer place)
