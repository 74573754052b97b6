-- Lines one after another: they are the text, and the text from a line's place on has the lines from it on. The first lines that pass a
-- test, as many as there are.
-- Assumes nothing.
use Prim.Native.Nat.{ℕ, zero, suc, ◌+◌, ◌-◌, ◌≤◌, ◌<◌}
use mathlib.Core.Path.{◌≡◌, refl, sym, ap, ap₂, ◌∙◌}
use mathlib.Core.Bool.{Bool, true, false}
use mathlib.Core.List.{List, [], ◌∷◌, flatten}
use native.Mathlib.Decide.{dec_lt}
use native.Mathlib.Nat.{add_assoc, add-zero, zero-add}
use native.Mathlib.Omega.{arith}
use lib.Dec.{eqb}
use lib.ListN.{length, get_or, take, drop, length-append, length-drop, drop_of_length-le}
use lib.Seq.{drop-drop, take_all, take-append_seam, get_or-drop}
use Rattle.market_rules.specs.Lines.{line_feed, before_lines, lines, line, line_place, leading_count}

-- ---- all lines together

flatten_before : (b : ℕ) (ls : List (List ℕ)) → flatten (before_lines b ls) ≡ b ∷ flatten ls
unfolding flatten
flatten_before b [] = refl
flatten_before b (first ∷ more) = refl

pub lines_flatten : (text : List ℕ) → flatten (lines text) ≡ text
unfolding lines flatten
lines_flatten [] = refl
lines_flatten (b ∷ text) = go (eqb b line_feed) (lines_flatten text)
  where
    go : (t : Bool) → flatten (lines text) ≡ text → flatten (elim t [ true ↦ (b ∷ []) ∷ lines text | false ↦ before_lines b (lines text) ]) ≡ b ∷ text
    go true e = ap (λ (l : List ℕ). b ∷ l) e
    go false e = flatten_before b (lines text) ∙ ap (λ (l : List ℕ). b ∷ l) e

-- ---- the first line, and the lines behind it

behind-before : (b : ℕ) (text : List ℕ) (ls : List (List ℕ)) → lines (drop (length (get_or ls 0 [])) text) ≡ drop 1 ls → (ls ≡ [] → text ≡ [])
    → lines (drop (length (get_or (before_lines b ls) 0 [])) (b ∷ text)) ≡ drop 1 (before_lines b ls)
unfolding lines
behind-before b text [] e none = ap lines (none refl)
behind-before b text (first ∷ more) e none = e

no_lines : (text : List ℕ) → lines text ≡ [] → text ≡ []
no_lines text e = sym (lines_flatten text) ∙ ap flatten e ∙ (unfold flatten in refl)

pub lines-behind : (text : List ℕ) → lines (drop (length (line text 0)) text) ≡ drop 1 (lines text)
unfolding lines
lines-behind [] = refl
lines-behind (b ∷ text) = go (eqb b line_feed) (lines-behind text)
  where
    split : Bool → List (List ℕ)
    split t = elim t [ true ↦ (b ∷ []) ∷ lines text | false ↦ before_lines b (lines text) ]

    go : (t : Bool) → lines (drop (length (line text 0)) text) ≡ drop 1 (lines text)
        → lines (drop (length (get_or (split t) 0 [])) (b ∷ text)) ≡ drop 1 (split t)
    go true e = refl
    go false e = behind-before b text (lines text) e (no_lines text)

-- ---- places

flatten_step : (ls : List (List ℕ)) (k : ℕ) → length (flatten (take (suc k) ls)) ≡ length (get_or ls 0 []) + length (flatten (take k (drop 1 ls)))
unfolding flatten
flatten_step [] zero = refl
flatten_step [] (suc k) = refl
flatten_step (first ∷ more) k = length-append first (flatten (take k more))

-- a line's place, from the text behind the first line
pub place-behind : (text : List ℕ) (k : ℕ) → line_place text (suc k) ≡ length (line text 0) + line_place (drop (length (line text 0)) text) k
place-behind text k =
    flatten_step (lines text) k ∙ ap (λ (ls : List (List ℕ)). length (line text 0) + length (flatten (take k ls))) (sym (lines-behind text))

-- the text from a line's place on has the lines from it on
pub lines_from : (text : List ℕ) (k : ℕ) → lines (drop (line_place text k) text) ≡ drop k (lines text)
lines_from text zero = unfold flatten in refl
lines_from text (suc k) =
    let behind : List ℕ = drop (length (line text 0)) text in
    let next : 1 + k ≡ suc k = omega arith in
    ap (λ (p : ℕ). lines (drop p text)) (place-behind text k)
    ∙ ap lines (sym (drop-drop (line_place behind k) (length (line text 0)) text))
    ∙ lines_from behind k
    ∙ ap (drop k) (lines-behind text)
    ∙ drop-drop k 1 (lines text)
    ∙ ap (λ (j : ℕ). drop j (lines text)) next

pub line-from : (text : List ℕ) (k i : ℕ) → line (drop (line_place text k) text) i ≡ line text (k + i)
line-from text k i = ap (λ (ls : List (List ℕ)). get_or ls i []) (lines_from text k) ∙ get_or-drop k (lines text) i []

-- the place of a line counted from another
pub place-from : (text : List ℕ) (k i : ℕ) → line_place text (k + i) ≡ line_place text k + line_place (drop (line_place text k) text) i
place-from text zero i = unfold flatten in ap (line_place text) (zero-add i) ∙ sym (zero-add (line_place text i))
place-from text (suc k) i =
    let first = length (line text 0) in
    let behind : List ℕ = drop first text in
    let next : suc k + i ≡ suc (k + i) = omega arith in
    ap (line_place text) next
    ∙ place-behind text (k + i)
    ∙ ap (λ (p : ℕ). first + p) (place-from behind k i)
    ∙ sym (add_assoc first (line_place behind k) (line_place (drop (line_place behind k) behind) i))
    ∙ ap₂ (λ (p : ℕ) (rest : List ℕ). p + line_place rest i) (sym (place-behind text k))
    (drop-drop (line_place behind k) first text ∙ ap (λ (p : ℕ). drop p text) (sym (place-behind text k)))

-- that of the next line
place-second : (text : List ℕ) → line_place text 1 ≡ length (line text 0)
unfolding flatten
place-second text = place-behind text 0 ∙ add-zero (length (line text 0))

pub place_next : (text : List ℕ) (k : ℕ) → line_place text (k + 1) ≡ line_place text k + length (line (drop (line_place text k) text) 0)
place_next text k = place-from text k 1 ∙ ap (λ (p : ℕ). line_place text k + p) (place-second (drop (line_place text k) text))

-- the first line's bytes
first_taken : (ls : List (List ℕ)) → take (length (get_or ls 0 [])) (flatten ls) ≡ get_or ls 0 []
unfolding flatten
first_taken [] = refl
first_taken (first ∷ more) = take-append_seam first (flatten more)

pub line_taken : (text : List ℕ) → take (length (line text 0)) text ≡ line text 0
line_taken text = ap (take (length (line text 0))) (sym (lines_flatten text)) ∙ first_taken (lines text)

-- the part of a text that is the line at a place
pub line_part : (text : List ℕ) (place end : ℕ) → end ≡ place + length (line (drop place text) 0) → take (end - place) (drop place text) ≡ line (drop place text) 0
line_part text place end e =
    let size : end - place ≡ length (line (drop place text) 0) = omega (arith, e) in
    ap (λ (k : ℕ). take k (drop place text)) size ∙ line_taken (drop place text)

-- no place lies behind the text's end
taken-within : (ls : List (List ℕ)) (k : ℕ) → length (flatten (take k ls)) ≤ length (flatten ls)
unfolding flatten
taken-within ls zero = omega arith
taken-within [] (suc k) = omega arith
taken-within (first ∷ more) (suc k) =
    omega (arith, length-append first (flatten more), length-append first (flatten (take k more)), taken-within more k)

pub place-within : (text : List ℕ) (k : ℕ) → line_place text k ≤ length text
place-within text k = omega (arith, taken-within (lines text) k, ap length (lines_flatten text))

-- a line that is there starts before the text's end, and one that is missing at it
pub place-there : (text : List ℕ) (k : ℕ) → k < length (lines text) → line_place text k < length text
place-there text k h = go (dec_lt (line_place text k) (length text))
  where
    go : Dec (line_place text k < length text) → line_place text k < length text
    go (yes l) = l
    go (no l) =
        let none : drop (line_place text k) text ≡ [] = drop_of_length-le text {i = line_place text k} (omega arith) in
        let lines_none : drop k (lines text) ≡ [] = sym (lines_from text k) ∙ ap lines none ∙ (unfold lines in refl) in
        absurd (omega (arith, ap length lines_none, length-drop k (lines text)))

pub place_missing : (text : List ℕ) (k : ℕ) → length (lines text) ≤ k → line_place text k ≡ length text
place_missing text k h = ap (λ (ls : List (List ℕ)). length (flatten ls)) (take_all k (lines text) h) ∙ ap length (lines_flatten text)

-- ---- the first lines that pass a test

module _ (test : List ℕ → Bool) where
  abbrev leading : List (List ℕ) → ℕ
  leading = leading_count test

  abbrev counted : List (List ℕ) → Bool → ℕ
  counted more t = elim t [ true ↦ suc (leading more) | false ↦ 0 ]

  pub leading_one : (first : List ℕ) (more : List (List ℕ)) → test first ≡ true → leading (first ∷ more) ≡ suc (leading more)
  unfolding leading_count
  leading_one first more e = ap (counted more) e

  pub leading_none : (first : List ℕ) (more : List (List ℕ)) → test first ≡ false → leading (first ∷ more) ≡ 0
  unfolding leading_count
  leading_none first more e = ap (counted more) e

  pub leading_within : (ls : List (List ℕ)) → leading ls ≤ length ls
  unfolding leading_count
  leading_within [] = omega arith
  leading_within (first ∷ more) = go (test first) (leading_within more)
    where
      go : (t : Bool) → leading more ≤ length more → counted more t ≤ suc (length more)
      go true h = omega arith
      go false h = omega arith

  -- each of them passes it
  pub leading_passes : (ls : List (List ℕ)) (i : ℕ) → i < leading ls → test (get_or ls i []) ≡ true
  unfolding leading_count
  leading_passes [] i h = absurd (omega arith)
  leading_passes (first ∷ more) i h = go (test first) refl (leading_passes more) i h
    where
      go : (t : Bool) → test first ≡ t → ((i : ℕ) → i < leading more → test (get_or more i []) ≡ true)
          → (i : ℕ) → i < counted more t → test (get_or (first ∷ more) i []) ≡ true
      go true e each zero h = e
      go true e each (suc i) h = each i (omega arith)
      go false e each i h = absurd (omega arith)

  -- the next line, if there is one, does not
  pub leading_stops : (ls : List (List ℕ)) → leading ls < length ls → test (get_or ls (leading ls) []) ≡ false
  unfolding leading_count
  leading_stops [] h = absurd (omega arith)
  leading_stops (first ∷ more) h = go (test first) refl (leading_stops more) h
    where
      go : (t : Bool) → test first ≡ t → (leading more < length more → test (get_or more (leading more) []) ≡ false)
          → counted more t < suc (length more) → test (get_or (first ∷ more) (counted more t) []) ≡ false
      go true e none h = none (omega arith)
      go false e none h = e
