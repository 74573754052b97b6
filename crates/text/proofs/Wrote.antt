-- Writers one after another: each is lent the part of the text from its place on, and a run of them is one writer of all their lines.
-- Assumes nothing.
use Prim.Native.Nat.{ℕ, ◌+◌, ◌-◌, ◌≤◌, ◌<◌}
use mathlib.Core.Path.{◌≡◌, refl, sym, ap, subst, ◌∙◌}
use mathlib.Core.List.{List, [], ◌++◌, append_assoc, append-nil}
use native.Mathlib.Omega.{arith}
use borrow.Author.Tests.{lt-ltb, le-ltb}
use lib.ListN.{length, take, drop, length-append, length-drop, drop_of_length-le}
use lib.Seq.{length-take-le, take_at, drop_at, drop-drop, take_all}
use borrow.Rule.Slice.PartMut.{put_mid}
use Rattle.text.specs.Wrote.{Wrote, PrefixLength, text_in}

-- nothing is written yet
pub wrote_nothing : (before : List ℕ) → Wrote before before 0 []
wrote_nothing before = record { counted = refl; text = refl }

-- a whole slice copied to the text's start
pub wrote_copy : (before label after : List ℕ) (count : ℕ) → count ≡ length label → after ≡ label ++ drop (length label) before → Wrote before after count label
wrote_copy before label after count n e = record { counted = n; text = e }

-- the same line in other words
pub wrote_as : {before after line same : List ℕ} {count : ℕ} → line ≡ same → Wrote before after count line → Wrote before after count same
wrote_as {before} {after} {line} {same} {count} e w = subst (λ (l : List ℕ). Wrote before after count l) e w

-- behind what is written, the text is as it was
behind : {before after done : List ℕ} {count : ℕ} → Wrote before after count done → drop count after ≡ drop count before
behind {before} {after} {done} {count} w =
    ap (drop count) w.text
    ∙ drop_at done (drop (length done) before) count (sym w.counted)
    ∙ ap (λ (k : ℕ). drop k before) (sym w.counted)

-- a line written to the part from the place on is written behind what is done
pub wrote_more : {before text done part line : List ℕ} {place count : ℕ} → Wrote before text place done
    → Wrote (take (length text - place) (drop place text)) part count line
    → Wrote before (put_mid place (length text - place) text part) (place + count) (done ++ line)
wrote_more {before} {text} {done} {part} {line} {place} {count} w v = record {
  counted = omega (arith, w.counted, v.counted, length-append done line);
  text = ap (λ (l : List ℕ). l ++ (part ++ drop (length text - place) (drop place text))) front
      ∙ ap (λ (l : List ℕ). done ++ l) (rest ∙ ap (λ (l : List ℕ). line ++ l) old)
      ∙ sym (append_assoc done line (drop (length (done ++ line)) before));
}
  where
    h : place ≤ length text
    h = omega (arith, w.counted, ap length w.text, length-append done (drop (length done) before))

    front : take place text ≡ done
    front = ap (take place) w.text ∙ take_at done (drop (length done) before) place (sym w.counted)

    whole : take (length text - place) (drop place text) ≡ drop place text
    whole = take_all (length text - place) (drop place text) (simp length-drop (omega arith))

    none : drop (length text - place) (drop place text) ≡ []
    none = drop_of_length-le (drop place text) {i = length text - place} (simp length-drop (omega arith))

    rest : part ++ drop (length text - place) (drop place text) ≡ line ++ drop (length line) (drop place text)
    rest =
        ap (λ (l : List ℕ). part ++ l) none
        ∙ append-nil part
        ∙ v.text
        ∙ ap (λ (l : List ℕ). line ++ drop (length line) l) whole

    end : place + length line ≡ length (done ++ line)
    end = omega (arith, w.counted, length-append done line)

    old : drop (length line) (drop place text) ≡ drop (length (done ++ line)) before
    old =
        ap (drop (length line)) (behind w)
        ∙ drop-drop (length line) place before
        ∙ ap (λ (k : ℕ). drop k before) end

-- what is written can be lent
pub wrote_prefix : {before after line : List ℕ} {count : ℕ} → Wrote before after count line → PrefixLength count after
wrote_prefix {before} {after} {line} {count} w =
    let h : count ≤ length after = omega (arith, w.counted, ap length w.text, length-append line (drop (length line) before)) in
    (h, sym (length-take-le count after h))

-- a text that is written only where the longest one fits: nothing, or the text
pub wrote_none : (longest : ℕ) (before text : List ℕ) → length before < longest → Wrote before before 0 (text_in longest (length before) text) × PrefixLength 0 before
wrote_none longest before text h =
    let w : Wrote before before 0 (text_in longest (length before) text) = wrote_as (sym (rw (lt-ltb (length before) longest h, text_in))) (wrote_nothing before) in
    (w, wrote_prefix w)

pub wrote_whole : (longest : ℕ) {before after text : List ℕ} {count : ℕ} → longest ≤ length before → Wrote before after count text
    → Wrote before after count (text_in longest (length before) text) × PrefixLength count after
wrote_whole longest {before} {after} {text} {count} h w = (wrote_as (sym (rw (le-ltb (length before) longest h, text_in))) w, wrote_prefix w)
