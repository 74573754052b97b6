-- Document 01, "Reading, checking, running": the header that a record begins with.
-- Assumes nothing.
use Rattle.std.specs.Prelude.{ℕ, ◌+◌, ◌≤◌, ◌≡◌, List, length}
use Rattle.layout_rules.specs.Bytes.{word}
use Rattle.layout_step.specs.declared.Header.{Header}

-- the header of a record that stands at a place with its whole length, which counts the header
pub record HeaderAt (bytes : List ℕ) (place : ℕ) (h : Header) : Type 0 where
  pub kind_read : h.kind ≡ word bytes (place + 2)
  pub length_read : h.length ≡ word bytes place
  pub least : 4 ≤ h.length
  pub whole : place + h.length ≤ length bytes
