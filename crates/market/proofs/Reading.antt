-- Entries, one after another: how many of a text's lines are, where the next line stands, and the numbers kept of them.
-- Assumes nothing.
use Prim.Native.Nat.{ℕ, zero, suc, ◌+◌, ◌-◌, ◌≤◌, ◌<◌}
use mathlib.Core.Path.{◌≡◌, refl, sym, ap, ◌∙◌}
use mathlib.Core.Bool.{true, false, true≢false}
use mathlib.Core.Logic.{⊎_elim}
use mathlib.Core.List.{List, [], ◌∷◌, flatten}
use native.Mathlib.Nat.{zero-add}
use native.Mathlib.Omega.{arith}
use lib.ListN.{length, get_or, take, drop, set}
use lib.Seq.{get_or-drop, get_or-set_same, get_or-set_other, drop-drop}
use Rattle.layout_rules.proofs.FirstRecords.{last_or_earlier}
use Rattle.market_rules.specs.Lines.{lines, line, line_place, leading_count}
use Rattle.market_rules.specs.Forms.{leading_digits, is_entry, entry_value}
use Rattle.market_rules.specs.Market.{leading_entry_count, twos_complement}
use Rattle.market.specs.Parts.{EntriesRead}
use Rattle.market_rules.proofs.LineLaws.{line-from, place_next, place-within, leading_one, leading_none}

-- a missing line is no entry
missing_none : is_entry [] ≡ false
unfolding is_entry leading_digits
missing_none = refl

entries-one : (k : ℕ) (ls : List (List ℕ)) → is_entry (get_or ls 0 []) ≡ true → leading_entry_count (take (suc k) ls) ≡ suc (leading_entry_count (take k (drop 1 ls)))
entries-one k [] e = absurd (true≢false (sym e ∙ missing_none))
entries-one k (first ∷ more) e = leading_one is_entry first (take k more) e

entries_stop : (k : ℕ) (ls : List (List ℕ)) → is_entry (get_or ls 0 []) ≡ false → leading_entry_count (take k ls) ≡ 0
entries_stop zero ls e = unfold leading_count in refl
entries_stop (suc k) [] e = unfold leading_count in refl
entries_stop (suc k) (first ∷ more) e = leading_none is_entry first (take k more) e

-- so many entries are read, with numbers for them, and the next line stands behind their bytes
pub record ReadSoFar (text : List ℕ) (wanted : ℕ) (words : List ℕ) (count behind : ℕ) : Type 0 where
  pub counted : leading_entry_count (take wanted (lines text)) ≡ count + leading_entry_count (take (wanted - count) (drop count (lines text)))
  pub placed : behind ≡ line_place text count
  pub told : (k : ℕ) → k < count → get_or words k 0 ≡ twos_complement (entry_value (get_or (lines text) k []))

pub read_none : (text : List ℕ) (wanted : ℕ) (words : List ℕ) → ReadSoFar text wanted words 0 0
read_none text wanted words =
    let all : wanted - 0 ≡ wanted = omega arith in record {
      counted = rw all (sym (zero-add (leading_entry_count (take wanted (lines text)))));
      placed = unfold flatten in refl;
      told = λ k h. absurd (omega arith);
    }

module _ (text : List ℕ) (wanted : ℕ) (words : List ℕ) (count behind : ℕ) (so_far : ReadSoFar text wanted words count behind) where
  pub behind-within : behind ≤ length text
  behind-within = omega (arith, so_far.placed, place-within text count)

  -- the next line
  next_line : line (drop behind text) 0 ≡ get_or (lines text) count []
  next_line =
      let same : count + 0 ≡ count = omega arith in
      ap (λ (p : ℕ). line (drop p text) 0) so_far.placed ∙ line-from text count 0 ∙ ap (λ (k : ℕ). get_or (lines text) k []) same

  first_left : get_or (drop count (lines text)) 0 [] ≡ line (drop behind text) 0
  first_left =
      let same : count + 0 ≡ count = omega arith in
      get_or-drop count (lines text) 0 [] ∙ ap (λ (k : ℕ). get_or (lines text) k []) same ∙ sym next_line

  read_are : (told : ℕ) → told ≡ count → length words ≡ wanted → count ≡ leading_entry_count (take wanted (lines text))
      → EntriesRead text words record { count = told; bytes = behind }
  read_are told same room whole = record {
    counted = same ∙ whole ∙ ap (λ (k : ℕ). leading_entry_count (take k (lines text))) (sym room);
    placed = so_far.placed ∙ ap (line_place text) (sym same);
    told = λ k h. so_far.told k (omega (arith, same));
  }

  -- as many as there is room for
  pub read_all : count ≡ wanted → length words ≡ wanted → EntriesRead text words record { count = length words; bytes = behind }
  unfolding leading_count
  read_all all room =
      let none : wanted - count ≡ 0 = omega arith in
      read_are (length words) (room ∙ sym all) room (sym (so_far.counted ∙ rw none (omega arith)))

  -- the next line is no entry
  pub read_stop : length words ≡ wanted → is_entry (line (drop behind text) 0) ≡ false → EntriesRead text words record { count = count; bytes = behind }
  read_stop room e =
      read_are count refl room (omega (arith, so_far.counted, entries_stop (wanted - count) (drop count (lines text)) (ap is_entry first_left ∙ e)))

  -- one more
  module _ (end word : ℕ) (more : count < wanted) (room : length words ≡ wanted) (is-end : end ≡ behind + length (line (drop behind text) 0))
      (e : is_entry (line (drop behind text) 0) ≡ true) (is_IsWord : word ≡ twos_complement (entry_value (line (drop behind text) 0))) where
    counted_next : leading_entry_count (take wanted (lines text)) ≡ count + 1 + leading_entry_count (take (wanted - (count + 1)) (drop (count + 1) (lines text)))
    counted_next =
        let left = wanted - (count + 1) in
        let one : wanted - count ≡ suc left = omega arith in
        let taken = entries-one left (drop count (lines text)) (ap is_entry first_left ∙ e) in
        let dropped = ap (λ (ls : List (List ℕ)). leading_entry_count (take left ls)) (drop-drop 1 count (lines text)) in
        omega (arith, so_far.counted, ap (λ (k : ℕ). leading_entry_count (take k (drop count (lines text)))) one, taken, dropped)

    placed_next : end ≡ line_place text (count + 1)
    placed_next = is-end ∙ ap (λ (p : ℕ). p + length (line (drop p text) 0)) so_far.placed ∙ sym (place_next text count)

    told_next : (k : ℕ) → k < count + 1 → get_or (set words count word) k 0 ≡ twos_complement (entry_value (get_or (lines text) k []))
    told_next k h =
        let next : count + 1 ≡ suc count = omega arith in
        ⊎_elim
        (λ l. get_or-set_other words count k word 0 (λ same. omega arith) ∙ so_far.told k l)
        (λ same. ap (λ (i : ℕ). get_or (set words count word) i 0) same ∙ get_or-set_same words count word 0 (omega arith) ∙ is_IsWord
        ∙ ap (λ (l : List ℕ). twos_complement (entry_value l)) next_line ∙ ap (λ (i : ℕ). twos_complement (entry_value (get_or (lines text) i []))) (sym same))
        (last_or_earlier k count (omega arith))

    pub read_next : ReadSoFar text wanted (set words count word) (count + 1) end
    read_next = record { counted = counted_next; placed = placed_next; told = told_next }
