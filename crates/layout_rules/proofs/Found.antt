-- The step over bytes that hold a record at its place finds it, and where the step accepts, the bytes are those of a record.
-- Assumes nothing.
use Prim.Native.Nat.{ℕ, suc, ◌+◌, ◌-◌, ◌/◌, ◌%◌, ◌<◌}
use mathlib.Core.Path.{◌≡◌, refl, sym, ap, ap₂, ◌∙◌, subst}
use mathlib.Core.Bool.{Bool, true, false, cond}
use mathlib.Core.List.{List, [], ◌∷◌, ◌++◌}
use native.Mathlib.Omega.{arith}
use native.Mathlib.Nat.{add-zero}
use lib.Dec.{eqb}
use lib.ListN.{length, get_or, take, drop, length-append, length-drop, take-append-drop}
use lib.Seq.{drop-drop, drop-cons, drop_at, take_at, length-take-le}
use borrow.Author.Tests.{eqb-true}
use Rattle.layout_rules.proofs.LittleEndian.{AreBytes, word_of, word-drop, bytes_take, bytes_drop}
use Rattle.layout_rules.proofs.Accepted.{AcceptedStep, not-refused, accepted-step, numbers_accepted, payload-accepted}
use Rattle.layout_rules.specs.Bytes.{word, record_bytes}
use Rattle.layout_rules.specs.Step.{remaining, step_refusal, step_numbers, payload_at}
use Rattle.layout_rules.specs.declared.StepNumbers.{StepNumbers}

-- an accepted step's numbers
abbrev pub accepted : ℕ → ℕ → StepNumbers
accepted kind next = record { refusal = 0; place = 0; kind = kind; next = next }

-- ---- a record that stands at a place is found

module _ (b : List ℕ) (place kind : ℕ) (payload behind : List ℕ) (there : drop place b ≡ record_bytes kind payload ++ behind) where
  word-there : (i : ℕ) → word b (place + i) ≡ word (record_bytes kind payload ++ behind) i
  word-there i = sym (word-drop b place i) ∙ ap (λ (l : List ℕ). word l i) there

  length-there : word b place ≡ 4 + length payload
  length-there = ap (word b) (sym (add-zero place)) ∙ word-there 0 ∙ word_of (4 + length payload) []

  kind-there : word b (place + 2) ≡ kind
  kind-there = word-there 2 ∙ word_of kind []

  remaining-there : remaining b place ≡ 4 + length payload + length behind
  remaining-there = sym (length-drop place b) ∙ ap length there ∙ omega (arith, length-append payload behind)

  accepted-there : 0 ≡ step_refusal b place
  accepted-there = not-refused b place (record {
    header = omega (arith, remaining-there);
    whole = omega (arith, remaining-there, length-there);
    least = omega (arith, length-there);
  })

  pub step_finds : step_numbers b place ≡ accepted kind (place + (4 + length payload))
  step_finds = sym (numbers_accepted b place (sym accepted-there)) ∙ ap₂ (λ (k l : ℕ). accepted k (place + l)) kind-there length-there

  pub behind-header : drop (place + 4) b ≡ payload ++ behind
  behind-header = sym (drop-drop 4 place b) ∙ ap (drop 4) there

  pub payload_found : payload_at b place ≡ payload
  payload_found =
      sym (payload-accepted b place (sym accepted-there))
      ∙ ap₂ take its_length behind-header
      ∙ take_at payload behind (length payload) refl
    where
      its_length : word b place - 4 ≡ length payload
      its_length = omega (arith, length-there)

  pub behind_found : drop (place + (4 + length payload)) b ≡ behind
  behind_found =
      ap (λ (k : ℕ). drop k b) end
      ∙ sym (drop-drop (length payload) (place + 4) b)
      ∙ ap (drop (length payload)) behind-header
      ∙ drop_at payload behind (length payload) refl
    where
      end : place + (4 + length payload) ≡ place + 4 + length payload
      end = omega arith

-- ---- where the step accepts, a record stands at the place

pub numbers_refusal : (b : List ℕ) (place : ℕ) → (step_numbers b place).refusal ≡ step_refusal b place
unfolding step_numbers
numbers_refusal b place = go (eqb (step_refusal b place) 0) refl
  where
    go : (t : Bool) → eqb (step_refusal b place) 0 ≡ t
        → (cond t (accepted (word b (place + 2)) (place + word b place)) (record { refusal = step_refusal b place; place = place; kind = 0; next = 0 })).refusal ≡ step_refusal b place
    go true e = sym (eqb-true (step_refusal b place) 0 e)
    go false e = refl

one_more : (b : List ℕ) (i k : ℕ) → i + 1 ≡ k → i < length b → drop i b ≡ get_or b i 0 ∷ drop k b
one_more b i k e h = let next : suc i ≡ k = omega arith in drop-cons b i 0 h ∙ ap (λ (j : ℕ). get_or b i 0 ∷ drop j b) next

module _ (b : List ℕ) (place : ℕ) (all : AreBytes b) (kind next : ℕ) (step : step_numbers b place ≡ accepted kind next) where
  none : step_refusal b place ≡ 0
  none = sym (numbers_refusal b place) ∙ ap (λ (s : StepNumbers). s.refusal) step

  numbers : accepted (word b (place + 2)) (place + word b place) ≡ accepted kind next
  numbers = numbers_accepted b place none ∙ step

  holds : AcceptedStep b place
  holds = accepted-step b place none

  length-payload : length (payload_at b place) ≡ word b place - 4
  length-payload =
      ap length (sym (payload-accepted b place none))
      ∙ length-take-le (word b place - 4) (drop (place + 4) b) (rw length-drop (omega (arith, holds.header, holds.whole)))

  pub next_place : next ≡ place + (4 + length (payload_at b place))
  next_place = omega (arith, ap (λ (s : StepNumbers). s.next) numbers, length-payload, holds.least)

  pub payload-bytes : AreBytes (payload_at b place)
  payload-bytes = subst AreBytes (payload-accepted b place none) (bytes_take (word b place - 4) (drop (place + 4) b) (bytes_drop (place + 4) b all))

  pub record-there : drop place b ≡ record_bytes kind (payload_at b place) ++ drop next b
  record-there =
      one_more b place (place + 1) refl (omega (arith, holds.header))
      ∙ ap₂ ◌∷◌ low-length (one_more b (place + 1) (place + 2) (omega arith) (omega (arith, holds.header))
      ∙ ap₂ ◌∷◌ high-length (one_more b (place + 2) (place + 2 + 1) refl (omega (arith, holds.header))
      ∙ ap₂ ◌∷◌ low-kind (one_more b (place + 2 + 1) (place + 4) (omega arith) (omega (arith, holds.header))
      ∙ ap₂ ◌∷◌ high-kind behind-header)))
    where
      whole_length : 4 + length (payload_at b place) ≡ word b place
      whole_length = omega (arith, length-payload, holds.least)

      low-length : get_or b place 0 ≡ (4 + length (payload_at b place)) % 256
      low-length = omega (arith, whole_length, all place)

      high-length : get_or b (place + 1) 0 ≡ (4 + length (payload_at b place)) / 256
      high-length = omega (arith, whole_length, all place)

      its_kind : word b (place + 2) ≡ kind
      its_kind = ap (λ (s : StepNumbers). s.kind) numbers

      low-kind : get_or b (place + 2) 0 ≡ kind % 256
      low-kind = omega (arith, its_kind, all (place + 2))

      high-kind : get_or b (place + 2 + 1) 0 ≡ kind / 256
      high-kind = omega (arith, its_kind, all (place + 2))

      end : place + 4 + (word b place - 4) ≡ next
      end = omega (arith, ap (λ (s : StepNumbers). s.next) numbers, holds.least)

      behind-header : drop (place + 4) b ≡ payload_at b place ++ drop next b
      behind-header =
          sym (take-append-drop (word b place - 4) (drop (place + 4) b))
          ∙ ap₂ ◌++◌ (payload-accepted b place none) (drop-drop (word b place - 4) (place + 4) b ∙ ap (λ (k : ℕ). drop k b) end)
