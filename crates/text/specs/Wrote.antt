-- What a writer leaves in the text that it was lent.
-- Assumes nothing.
use Rattle.std.specs.Prelude.{ℕ, ◌<◌, ◌≤◌, ◌≡◌, true, false, List, [], ◌++◌, ltb, length, take, drop}
use Rattle.std.specs.Borrow.{MutBor}

-- the line stands at the text's start and is counted; behind it the text is as it was
pub record Wrote (before after : List ℕ) (count : ℕ) (line : List ℕ) : Type 0 where
  pub counted : count ≡ length line
  pub text : after ≡ line ++ drop (length line) before

-- what may be a call for the line of a number below the count writes that line
abbrev pub WritesEach : (ℕ → MutBor (List ℕ) → ℕ → MutBor (List ℕ) → Type 0) → ℕ → (ℕ → List ℕ) → Type 0
WritesEach Call count line = (k : ℕ) (before after : MutBor (List ℕ)) (written : ℕ) → k < count → Call k before written after → Wrote before.now after.now written (line k)

-- nothing where fewer bytes are lent than the longest text needs
abbrev pub text_in : ℕ → ℕ → List ℕ → List ℕ
text_in longest lent text = elim (ltb lent longest) [ true ↦ [] | false ↦ text ]

-- a text has a first part of so many bytes. It adds nothing to `Wrote`, and is stated so that the proof of a part `&text[..count]` that is
-- lent finds it
abbrev pub PrefixLength : ℕ → List ℕ → Type 0
PrefixLength count text = (count ≤ length text) × (count ≡ length (take count text))
