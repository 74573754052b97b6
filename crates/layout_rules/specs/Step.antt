-- Document 01, "Reading, checking, running": the step over a record.
-- Assumes nothing.
use Rattle.std.specs.Prelude.{ℕ, ◌+◌, ◌-◌, cond, List, [], ltb, eqb, length, take, drop}
use Rattle.layout_rules.specs.Bytes.{word}
use Rattle.layout_rules.specs.declared.StepAnswer.{StepAnswer}
use Rattle.layout_rules.specs.declared.StepNumbers.{StepNumbers}

-- how many bytes remain at a place; none past the end
abbrev pub remaining : List ℕ → ℕ → ℕ
remaining bytes place = length bytes - place

-- 7: under 4 bytes remain, or the length exceeds what remains; 8: the length is below 4; 0: neither
unfoldable pub step_refusal : List ℕ → ℕ → ℕ
step_refusal bytes place =
    cond (ltb (remaining bytes place) 4)
    7
    (cond (ltb (remaining bytes place) (word bytes place)) 7 (cond (ltb (word bytes place) 4) 8 0))

-- an accepted step: refusal 0 at place 0, the kind, the next place; a refusal: its place is the place given, kind 0 and next place 0
unfoldable pub step_numbers : List ℕ → ℕ → StepNumbers
step_numbers bytes place =
    let refusal = step_refusal bytes place in
    cond (eqb refusal 0)
    (record { refusal = 0; place = 0; kind = word bytes (place + 2); next = place + word bytes place })
    (record { refusal = refusal; place = place; kind = 0; next = 0 })

-- an accepted step: what follows length and kind, up to the next place; a refusal: an empty part
unfoldable pub payload_at : List ℕ → ℕ → List ℕ
payload_at bytes place = cond (eqb (step_refusal bytes place) 0) (take (word bytes place - 4) (drop (place + 4) bytes)) []

-- where the part starts, as a block of memory and an offset in it, given where the bytes do: 4 bytes behind the record's start; document 01
-- leaves open where the empty part of a refusal starts, here where the bytes do
unfoldable pub payload_start : List ℕ → ℕ → ℕ × ℕ → ℕ × ℕ
payload_start bytes place start = cond (eqb (step_refusal bytes place) 0) (start.0, place + 4 + start.1) start

-- the numbers that a step hands back beside the part
abbrev pub numbers_of : StepAnswer → StepNumbers
numbers_of s = record { refusal = s.refusal; place = s.place; kind = s.kind; next = s.next }
