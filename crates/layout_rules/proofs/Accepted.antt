-- The step's refusals, each from what holds where it applies, and what an accepted step is.
-- Assumes nothing.
use Prim.Native.Nat.{ℕ, ◌+◌, ◌-◌, ◌<◌, ◌≤◌}
use mathlib.Core.Path.{◌≡◌}
use mathlib.Core.List.{List, []}
use native.Mathlib.Omega.{arith}
use lib.Dec.{ltb}
use lib.ListN.{take, drop}
use borrow.Author.Tests.{lt-ltb, le-ltb, eq-eqb, ne_eqb, ltb-false}
use Rattle.layout_rules.proofs.Refusal.{passed}
use Rattle.layout_rules.specs.Bytes.{word}
use Rattle.layout_rules.specs.Step.{remaining, step_refusal, step_numbers, payload_at, payload_start}

-- a whole record stands at a place
pub record AcceptedStep (b : List ℕ) (place : ℕ) : Type 0 where
  pub header : 4 ≤ remaining b place
  pub whole : word b place ≤ remaining b place
  pub least : 4 ≤ word b place

module _ (b : List ℕ) (place : ℕ) where
  pub no_header : remaining b place < 4 → 7 ≡ step_refusal b place
  unfolding step_refusal
  no_header h = simp (lt-ltb (remaining b place) 4 h)

  pub overrun : 4 ≤ remaining b place → remaining b place < word b place → 7 ≡ step_refusal b place
  unfolding step_refusal
  overrun h o = simp (le-ltb (remaining b place) 4 h, lt-ltb (remaining b place) (word b place) o)

  pub below-least : 4 ≤ remaining b place → word b place ≤ remaining b place → word b place < 4 → 8 ≡ step_refusal b place
  unfolding step_refusal
  below-least h w l = simp (le-ltb (remaining b place) 4 h, le-ltb (remaining b place) (word b place) w, lt-ltb (word b place) 4 l)

  pub not-refused : AcceptedStep b place → 0 ≡ step_refusal b place
  unfolding step_refusal
  not-refused a = simp (le-ltb (remaining b place) 4 a.header, le-ltb (remaining b place) (word b place) a.whole, le-ltb (word b place) 4 a.least)

  pub accepted-step : step_refusal b place ≡ 0 → AcceptedStep b place
  unfolding step_refusal
  accepted-step e =
      let past_header = passed (ltb (remaining b place) 4) 7 _ (omega arith) e in
      let past_overrun = passed (ltb (remaining b place) (word b place)) 7 _ (omega arith) past_header.1 in
      let past_least = passed (ltb (word b place) 4) 8 0 (omega arith) past_overrun.1 in
      record {
        header = ltb-false (remaining b place) 4 past_header.0;
        whole = ltb-false (remaining b place) (word b place) past_overrun.0;
        least = ltb-false (word b place) 4 past_least.0;
      }

  -- ---- the whole answer

  pub numbers_refused : (step_refusal b place ≡ 0 → ⊥) → record { refusal = step_refusal b place; place = place; kind = 0; next = 0 } ≡ step_numbers b place
  unfolding step_numbers
  numbers_refused n = simp (ne_eqb (step_refusal b place) 0 n)

  pub numbers_accepted : step_refusal b place ≡ 0 → record { refusal = 0; place = 0; kind = word b (place + 2); next = place + word b place } ≡ step_numbers b place
  unfolding step_numbers
  numbers_accepted e = simp (eq-eqb (step_refusal b place) 0 e)

  pub payload-refused : (step_refusal b place ≡ 0 → ⊥) → [] ≡ payload_at b place
  unfolding payload_at
  payload-refused n = simp (ne_eqb (step_refusal b place) 0 n)

  pub payload-accepted : step_refusal b place ≡ 0 → take (word b place - 4) (drop (place + 4) b) ≡ payload_at b place
  unfolding payload_at
  payload-accepted e = simp (eq-eqb (step_refusal b place) 0 e)

  pub start-refused : (step_refusal b place ≡ 0 → ⊥) → (start : ℕ × ℕ) → start ≡ payload_start b place start
  unfolding payload_start
  start-refused n start = simp (ne_eqb (step_refusal b place) 0 n)

  pub start-accepted : step_refusal b place ≡ 0 → (start : ℕ × ℕ) → (start.0, place + 4 + start.1) ≡ payload_start b place start
  unfolding payload_start
  start-accepted e start = simp (eq-eqb (step_refusal b place) 0 e)
