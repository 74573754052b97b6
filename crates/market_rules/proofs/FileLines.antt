-- The lines of a text put together from lines, and what the lines of any text are: which are comments, and how many of them come first.
-- Assumes nothing.
use Prim.Native.Nat.{ℕ, zero, suc, ◌-◌, ◌≤◌, ◌<◌}
use mathlib.Core.Path.{◌≡◌, refl, sym, ap, ◌∙◌, subst}
use mathlib.Core.Bool.{Bool, true, false}
use mathlib.Core.Logic.{◌↔◌, ⊎_elim}
use mathlib.Core.List.{List, [], ◌∷◌, ◌++◌, flatten, append_assoc, append-nil}
use native.Mathlib.Omega.{arith}
use lib.Dec.{eqb}
use lib.IntN.{ℤ}
use lib.ListN.{length, get_or, take, length-append, drop_of_length-le, get_or-append}
use lib.Seq.{append_snoc, split_at, get_or-take, get_or_at, length-take-le}
use borrow.Author.Tests.{eqb-false, ne_eqb}
use Rattle.netlist_rules.proofs.Conditions.{and_says, same_says}
use Rattle.market_rules.specs.Lines.{line_feed, before_lines, lines, line}
use Rattle.market_rules.specs.Forms.{blank, percent, minus_sign, first_line, is_comment}
use Rattle.market_rules.specs.Market.{comment_count}
use Rattle.market_rules.specs.Tests.{Says, SizeLine, SignedLine}
use Rattle.market_rules.specs.File.{Comment}
use Rattle.market_rules.proofs.LineLaws.{lines_flatten, leading_one, leading_none}
use Rattle.market_rules.proofs.Spelling.{append-each}

-- ---- lines that end in a line feed

abbrev OtherByte : ℕ → Type 0
OtherByte b = b ≡ line_feed → ⊥

-- no byte is a line feed
abbrev WithinLine : List ℕ → Type 0
WithinLine words = (i : ℕ) → i < length words → OtherByte (get_or words i 0)

byte_within : (b : ℕ) (words : List ℕ) → OtherByte b → WithinLine words → WithinLine (b ∷ words)
byte_within b words other each zero h = other
byte_within b words other each (suc i) h = each i (omega arith)

-- a line feed behind bytes among which there is none
pub record IsLine (bytes : List ℕ) : Type 0 where
  pub words : List ℕ
  pub its_bytes : bytes ≡ words ++ (line_feed ∷ [])
  pub one_line : WithinLine words

pub line-some : (bytes : List ℕ) → IsLine bytes → 1 ≤ length bytes
line-some bytes is = omega (arith, ap length is.its_bytes, length-append is.words (line_feed ∷ []))

lines-words : (words rest : List ℕ) → WithinLine words → lines (words ++ (line_feed ∷ rest)) ≡ (words ++ (line_feed ∷ [])) ∷ lines rest
unfolding lines
lines-words [] rest each = refl
lines-words (b ∷ words) rest each =
    rw (ne_eqb b line_feed (each 0 (omega arith)), lines) (ap (before_lines b) (lines-words words rest (λ i h. each (suc i) (omega arith))))

pub first-of-lines : (l rest : List ℕ) → IsLine l → lines (l ++ rest) ≡ l ∷ lines rest
first-of-lines l rest is =
    ap (λ (x : List ℕ). lines (x ++ rest)) is.its_bytes
    ∙ ap lines (append_snoc is.words line_feed rest)
    ∙ lines-words is.words rest is.one_line
    ∙ ap (λ (x : List ℕ). x ∷ lines rest) (sym is.its_bytes)

pub lines-joined : (ls : List (List ℕ)) (rest : List ℕ) → ((k : ℕ) → k < length ls → IsLine (get_or ls k [])) → lines (flatten ls ++ rest) ≡ ls ++ lines rest
unfolding flatten
lines-joined [] rest each = refl
lines-joined (l ∷ ls) rest each =
    ap lines (append_assoc l (flatten ls) rest)
    ∙ first-of-lines l (flatten ls ++ rest) (each 0 (omega arith))
    ∙ ap (λ (more : List (List ℕ)). l ∷ more) (lines-joined ls rest (λ k h. each (suc k) (omega arith)))

-- as a file has them: a line, lines, one more, and lines
pub file-lines : (first : List ℕ) (between : List (List ℕ)) (next : List ℕ) (last : List (List ℕ)) → IsLine first
    → ((k : ℕ) → k < length between → IsLine (get_or between k [])) → IsLine next → ((k : ℕ) → k < length last → IsLine (get_or last k []))
    → lines (first ++ (flatten between ++ (next ++ flatten last))) ≡ first ∷ (between ++ (next ∷ last))
unfolding lines
file-lines first between next last is-first each-between is_next Each-last =
    first-of-lines first (flatten between ++ (next ++ flatten last)) is-first
    ∙ ap (λ (ls : List (List ℕ)). first ∷ ls) (lines-joined between (next ++ flatten last) each-between)
    ∙ ap (λ (ls : List (List ℕ)). first ∷ (between ++ ls)) (first-of-lines next (flatten last) is_next)
    ∙ ap (λ (ls : List (List ℕ)). first ∷ (between ++ (next ∷ ls)))
    (ap lines (sym (append-nil (flatten last))) ∙ lines-joined last [] Each-last ∙ append-nil last)

flatten_append : (xs ys : List (List ℕ)) → flatten (xs ++ ys) ≡ flatten xs ++ flatten ys
unfolding flatten
flatten_append [] ys = refl
flatten_append (x ∷ xs) ys = ap (λ (l : List ℕ). x ++ l) (flatten_append xs ys) ∙ sym (append_assoc x (flatten xs) (flatten ys))

pub lines-file : (text first : List ℕ) (between : List (List ℕ)) (next : List ℕ) (last : List (List ℕ)) → lines text ≡ first ∷ (between ++ (next ∷ last))
    → text ≡ first ++ (flatten between ++ (next ++ flatten last))
unfolding flatten
lines-file text first between next last e =
    sym (lines_flatten text) ∙ ap flatten e ∙ ap (λ (l : List ℕ). first ++ l) (flatten_append between (next ∷ last))

-- ---- the lines of any text

-- not empty, and no line feed before the last byte
pub record Whole (bytes : List ℕ) : Type 0 where
  pub some_byte : 1 ≤ length bytes
  pub before_last : (i : ℕ) → suc i < length bytes → OtherByte (get_or bytes i 0)

one_byte : (b : ℕ) → Whole (b ∷ [])
one_byte b = record { some_byte = omega arith; before_last = λ i h. absurd (omega arith) }

byte_before : (b : ℕ) (bytes : List ℕ) → OtherByte b → Whole bytes → Whole (b ∷ bytes)
byte_before b bytes other w = record { some_byte = omega arith; before_last = go }
  where
    go : (i : ℕ) → suc i < length (b ∷ bytes) → OtherByte (get_or (b ∷ bytes) i 0)
    go zero h = other
    go (suc i) h = w.before_last i (omega arith)

abbrev AllWhole : List (List ℕ) → Type 0
AllWhole ls = (k : ℕ) → k < length ls → Whole (get_or ls k [])

whole_before : (b : ℕ) (ls : List (List ℕ)) → OtherByte b → AllWhole ls → AllWhole (before_lines b ls)
whole_before b [] other each zero h = one_byte b
whole_before b [] other each (suc k) h = absurd (omega arith)
whole_before b (first ∷ more) other each zero h = byte_before b first other (each 0 (omega arith))
whole_before b (first ∷ more) other each (suc k) h = each (suc k) h

whole-behind : (b : ℕ) (ls : List (List ℕ)) → AllWhole ls → AllWhole ((b ∷ []) ∷ ls)
whole-behind b ls each zero h = one_byte b
whole-behind b ls each (suc k) h = each k (omega arith)

pub line-whole : (text : List ℕ) (k : ℕ) → k < length (lines text) → Whole (line text k)
unfolding lines
line-whole [] k h = absurd (omega arith)
line-whole (b ∷ text) k h = go (eqb b line_feed) refl (line-whole text) k h
  where
    go : (t : Bool) → eqb b line_feed ≡ t → AllWhole (lines text) → AllWhole (elim t [ true ↦ (b ∷ []) ∷ lines text | false ↦ before_lines b (lines text) ])
    go true e each = whole-behind b (lines text) each
    go false e each = whole_before b (lines text) (eqb-false b line_feed e) each

-- the last byte, and those before it
last-behind : (bytes : List ℕ) → 1 ≤ length bytes → bytes ≡ take (length bytes - 1) bytes ++ (get_or bytes (length bytes - 1) 0 ∷ [])
last-behind bytes some =
    split_at bytes (length bytes - 1) 0 (omega arith)
    ∙ ap (λ (l : List ℕ). take (length bytes - 1) bytes ++ get_or bytes (length bytes - 1) 0 ∷ l) (drop_of_length-le bytes {i = suc (length bytes - 1)} (omega arith))

pub whole-line : (bytes : List ℕ) → Whole bytes → get_or bytes (length bytes - 1) 0 ≡ line_feed → IsLine bytes
whole-line bytes w e =
    let size = length bytes - 1 in
    let first = length-take-le size bytes (omega arith) in
    record {
      words = take size bytes;
      its_bytes = last-behind bytes w.some_byte ∙ ap (λ (b : ℕ). take size bytes ++ (b ∷ [])) e;
      one_line = λ i h. subst OtherByte (sym (get_or-take size bytes i 0 (omega arith))) (w.before_last i (omega (arith, w.some_byte)));
    }

-- ---- the lines of a file end in a line feed

pub first-is-line : IsLine first_line
unfolding lines
first-is-line = whole-line first_line (line-whole first_line 0 (omega arith)) refl

digits-within : (digits : List ℕ) (value : ℕ) → Says digits value → WithinLine digits
digits-within digits value s i h e = omega (arith, (s.decimal-digits i h).0, e)

pub size-is-line : (bytes : List ℕ) (m n : ℕ) → SizeLine bytes m n → IsLine bytes
size-is-line bytes m n l = record {
  words = l.first ++ (blank ∷ l.second);
  its_bytes = l.its_bytes ∙ sym (append_assoc l.first (blank ∷ l.second) (line_feed ∷ []));
  one_line = append-each OtherByte l.first (blank ∷ l.second) (digits-within l.first m l.its_rows)
      (byte_within blank l.second (λ e. omega arith) (digits-within l.second n l.its_columns));
}

pub entry_is-line : (bytes : List ℕ) (z : ℤ) → SignedLine bytes z → IsLine bytes
entry_is-line bytes z l =
    let within = digits-within l.digits l.value l.its_value in
    ⊎_elim (λ e. record { words = l.digits; its_bytes = e.0; one_line = within })
    (λ e. record { words = minus_sign ∷ l.digits; its_bytes = e.0; one_line = byte_within minus_sign l.digits (λ e. omega arith) within }) l.its_sign

pub comment_is-line : (bytes : List ℕ) → Comment bytes → IsLine bytes
comment_is-line bytes c = record { words = percent ∷ c.rest; its_bytes = c.its_bytes; one_line = byte_within percent c.rest (λ e. omega arith) c.one_line }

-- ---- comments

comment_says : (bytes : List ℕ) → (is_comment bytes ≡ true) ↔ ((get_or bytes 0 0 ≡ percent) × (get_or bytes (length bytes - 1) 0 ≡ line_feed))
comment_says bytes =
    let last = get_or bytes (length bytes - 1) 0 in
    and_says (eqb (get_or bytes 0 0) percent) (eqb last line_feed) (same_says (get_or bytes 0 0) percent) (same_says last line_feed)

pub comment_tested : (bytes : List ℕ) → Comment bytes → is_comment bytes ≡ true
comment_tested bytes c =
    let whole = percent ∷ (c.rest ++ (line_feed ∷ [])) in
    let last : length whole - 1 ≡ length (percent ∷ c.rest) = omega (arith, length-append c.rest (line_feed ∷ [])) in
    ap is_comment c.its_bytes ∙ (comment_says whole).1 (refl, get_or_at (percent ∷ c.rest) line_feed [] 0 (length whole - 1) (sym last))

pub tested_comment : (bytes : List ℕ) → Whole bytes → is_comment bytes ≡ true → Comment bytes
tested_comment bytes w e = let l = whole-line bytes w ((comment_says bytes).0 e).1 in go l.words l.its_bytes l.one_line
  where
    first : (b : ℕ) (words : List ℕ) → bytes ≡ b ∷ words → b ≡ percent
    first b words is = sym (ap (λ (l : List ℕ). get_or l 0 0) is) ∙ ((comment_says bytes).0 e).0

    go : (words : List ℕ) → bytes ≡ words ++ (line_feed ∷ []) → WithinLine words → Comment bytes
    go [] is each = absurd (omega (arith, first line_feed [] is))
    go (b ∷ words) is each = record {
      rest = words;
      its_bytes = is ∙ ap (λ (x : ℕ). x ∷ (words ++ (line_feed ∷ []))) (first b (words ++ (line_feed ∷ [])) is);
      one_line = λ i h. each (suc i) (omega arith);
    }

-- a size line starts with a digit
pub size_no_comment : (bytes : List ℕ) (m n : ℕ) → SizeLine bytes m n → is_comment bytes ≡ false
size_no_comment bytes m n l =
    let rest = blank ∷ (l.second ++ (line_feed ∷ [])) in
    let digit = l.its_rows.decimal-digits 0 l.its_rows.one_or_more in
    let first = ap (λ (l : List ℕ). get_or l 0 0) l.its_bytes ∙ get_or-append l.first rest 0 0 l.its_rows.one_or_more in
    rw (ne_eqb (get_or bytes 0 0) percent (λ e. omega arith))

-- how many come first
pub comments-counted : (cs : List (List ℕ)) (next : List ℕ) (more : List (List ℕ)) → ((k : ℕ) → k < length cs → is_comment (get_or cs k []) ≡ true)
    → is_comment next ≡ false → comment_count (cs ++ (next ∷ more)) ≡ length cs
comments-counted [] next more each other = leading_none is_comment next more other
comments-counted (c ∷ cs) next more each other =
    leading_one is_comment c (cs ++ (next ∷ more)) (each 0 (omega arith)) ∙ ap suc (comments-counted cs next more (λ k h. each (suc k) (omega arith)) other)
