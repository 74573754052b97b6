-- A loop that writes a line for each of a list: what is written and what is left make the whole.
-- Assumes nothing.
use Prim.Native.Nat.{ℕ, suc, ◌+◌, ◌-◌, ◌<◌, ◌≤◌}
use mathlib.Core.Path.{◌≡◌, sym, ap, ap₂, ◌∙◌}
use mathlib.Core.List.{List, [], ◌++◌, append_assoc, append-nil}
use native.Mathlib.Omega.{arith}
use lib.ListN.{length, get_or, take, drop, drop_of_length-le}
use lib.Seq.{take_at, drop-cons}
use borrow.Rule.Slice.PartMut.{put_mid}
use Rattle.text.specs.Text.{lines}
use Rattle.text.specs.Wrote.{Wrote}
use Rattle.text.proofs.Wrote.{wrote_as, wrote_more, wrote_nothing}

-- the lines are numbered from the first number on
module _ {A : Type 0} (line : ℕ → A → List ℕ) (first : ℕ) (xs : List A) where
  -- the lines from number k on
  abbrev pub left : ℕ → List ℕ
  left k = lines line (first + k) (drop k xs)

  left_more : (k : ℕ) (x : A) → k < length xs → get_or xs k x ≡ x → left k ≡ line (first + k) x ++ left (k + 1)
  unfolding lines
  left_more k x h e =
      let next : suc (first + k) ≡ first + (k + 1) = omega arith in
      let behind : suc k ≡ k + 1 = omega arith in
      ap (lines line (first + k)) (drop-cons xs k x h)
      ∙ ap₂ (λ (y : A) (rest : List ℕ). line (first + k) y ++ rest) e (ap₂ (λ (n j : ℕ). lines line n (drop j xs)) next behind)

  left_none : (k : ℕ) → length xs ≤ k → left k ≡ []
  unfolding lines
  left_none k h = ap (lines line (first + k)) (drop_of_length-le xs {i = k} h)

  module _ (before : List ℕ) where
    -- in the text's first bytes stands what was written; with what is left it is the whole
    pub record Listed (text : List ℕ) (at k : ℕ) : Type 0 where
      pub done : Wrote before text at (take at text)
      pub all : take at text ++ left k ≡ lines line first xs

    pub listed_start : Listed before 0 0
    listed_start =
        let start : first + 0 ≡ first = omega arith in
        record { done = wrote_nothing before; all = ap (λ (n : ℕ). lines line n xs) start }

    -- the line of x, which stands at number k of the list
    pub listed_more : {text part : List ℕ} {at k number count : ℕ} {x : A} → Listed text at k
        → k < length xs
        → get_or xs k x ≡ x
        → number ≡ first + k
        → Wrote (take (length text - at) (drop at text)) part count (line number x)
        → Listed (put_mid at (length text - at) text part) (at + count) (k + 1)
    listed_more {text} {part} {at} {k} {number} {count} {x} l h there numbered w =
        let more : Wrote before (put_mid at (length text - at) text part) (at + count) (take at text ++ line number x) = wrote_more l.done w in
        let taken : take (at + count) (put_mid at (length text - at) text part) ≡ take at text ++ line number x =
        ap (take (at + count)) more.text ∙ take_at (take at text ++ line number x) _ (at + count) (sym more.counted) in
        record {
          done = wrote_as (sym taken) more;
          all = ap (λ (t : List ℕ). t ++ left (k + 1)) taken
              ∙ append_assoc (take at text) (line number x) (left (k + 1))
              ∙ ap (λ (n : ℕ). take at text ++ (line n x ++ left (k + 1))) numbered
              ∙ ap (λ (t : List ℕ). take at text ++ t) (sym (left_more k x h there))
              ∙ l.all;
        }

    pub listed_end : {text : List ℕ} {at k : ℕ} → Listed text at k → length xs ≤ k → Wrote before text at (lines line first xs)
    listed_end {text} {at} {k} l h =
        wrote_as (sym (append-nil (take at text)) ∙ ap (λ (t : List ℕ). take at text ++ t) (sym (left_none k h)) ∙ l.all) l.done
