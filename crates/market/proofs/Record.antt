-- The record of the entries' numbers: its length, and what is answered and left in the buffer where it fits and where it does not.
-- Assumes nothing.
use Prim.Native.Nat.{ℕ, ◌*◌, ◌≤◌, ◌<◌}
use mathlib.Core.Path.{◌≡◌, sym, ap, ◌∙◌}
use mathlib.Core.List.{List, ◌++◌, flat_map}
use native.Mathlib.Omega.{arith}
use lib.ListN.{length, get_or, drop}
use borrow.Author.Tests.{lt-ltb, le-ltb}
use Rattle.layout_rules.specs.Bytes.{little_endian}
use Rattle.layout_rules.specs.Matrix.{matrix_length, coefficient_place}
use Rattle.layout_rules.specs.Places.{first_records}
use Rattle.layout_rules.specs.Written.{written}
use Rattle.layout_rules.proofs.FirstRecords.{length-first}
use Rattle.layout_rules.proofs.MatrixRecord.{matrix-record-length}
use Rattle.layout_matrix.specs.Head.{matrix_head}
use Rattle.layout_matrix.proofs.HeadLaws.{record-written}
use Rattle.market_rules.specs.declared.MarketAnswer.{MarketAnswer}
use Rattle.market_rules.specs.Market.{entry_index, market_refused}
use Rattle.market.specs.Parts.{record_of, record_answer, record_buffer}

-- the coefficients' numbers
abbrev pub coefficients : ℕ → ℕ → List ℕ → List ℕ
coefficients m n words = first_records (λ k. get_or words (entry_index m n k) 0) (m * n)

pub length-coefficients : (m n : ℕ) (words : List ℕ) → length (coefficients m n words) ≡ m * n
length-coefficients m n words = length-first (λ k. get_or words (entry_index m n k) 0) (m * n)

pub record-length : (m n : ℕ) (words : List ℕ) → length (record_of m n words) ≡ matrix_length m n
unfolding record_of
record-length m n words = matrix-record-length m n (coefficients m n words) (length-coefficients m n words)

coefficients-written : (m n : ℕ) (words buffer with_head : List ℕ) → length (record_of m n words) ≤ length buffer
    → with_head ≡ matrix_head m n ++ drop (coefficient_place 0) buffer
    → written with_head (coefficient_place 0) (flat_map little_endian (coefficients m n words)) ≡ record_of m n words ++ drop (length (record_of m n words)) buffer
coefficients-written m n words buffer with_head room e =
    unfold record_of in
    record-written m n (coefficients m n words) buffer with_head (length-coefficients m n words) (omega (arith, room, record-length m n words)) e

module _ (bytes buffer : List ℕ) where
  abbrev Leaves : MarketAnswer → List ℕ → Type 0
  Leaves answer after = (answer ≡ record_answer bytes (length buffer)) × (after ≡ record_buffer bytes buffer)

  pub record-refused : length buffer < length bytes → Leaves (market_refused 6 0) buffer
  unfolding record_answer record_buffer
  record-refused h = let e = lt-ltb (length buffer) (length bytes) h in (sym (rw (e, record_answer)), sym (rw (e, record_buffer)))

  record-fits : length bytes ≤ length buffer → Leaves record { refusal = 0; place = 0; written = length bytes } (bytes ++ drop (length bytes) buffer)
  unfolding record_answer record_buffer
  record-fits h = let e = le-ltb (length buffer) (length bytes) h in (sym (rw (e, record_answer)), sym (rw (e, record_buffer)))

-- what is left once head and coefficients are written
pub record_left : (m n : ℕ) (words buffer with_head after : List ℕ) (size : ℕ) → size ≡ length (record_of m n words) → size ≤ length buffer
    → with_head ≡ matrix_head m n ++ drop (coefficient_place 0) buffer → after ≡ written with_head (coefficient_place 0) (flat_map little_endian (coefficients m n words))
    → (record { refusal = 0; place = 0; written = size } ≡ record_answer (record_of m n words) (length buffer))
    × (after ≡ record_buffer (record_of m n words) buffer)
record_left m n words buffer with_head after size is-size fits head written__all =
    let room : length (record_of m n words) ≤ length buffer = omega arith in
    let both = record-fits (record_of m n words) buffer room in (
      ap (λ (k : ℕ). record { refusal = 0; place = 0; written = k }) is-size ∙ both.0,
      written__all ∙ coefficients-written m n words buffer with_head room head ∙ both.1,
    )
