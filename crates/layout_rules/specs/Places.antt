-- Document 01, "Netlist and board machine": where the records of a netlist stand behind a head of a given length, and the records that
-- stand in bytes.
-- Assumes nothing.
use Rattle.std.specs.Prelude.{ℕ, zero, suc, ◌+◌, ◌*◌, ◌-◌, cond, List, [], ◌∷◌, ◌++◌, eqb, length, take, drop}
use Rattle.limits.specs.Limits.{max_rows, max_operations}
use Rattle.layout_rules.specs.Bytes.{word}
use Rattle.layout_rules.specs.Records.{Netlist, head_kind, head_length, width_head_kind, width_head_length, head_of, operation_length, operation_of, output_length, output_of, totals_length, totals_of}
use Rattle.layout_rules.specs.declared.Head.{Head}
use Rattle.layout_rules.specs.declared.Operation.{Operation}
use Rattle.layout_rules.specs.declared.Output.{Output}
use Rattle.layout_rules.specs.declared.Totals.{Totals}

-- ---- places

-- the operations stand behind the head, the outputs behind the operations, the totals behind the outputs
abbrev pub operation_place : ℕ → ℕ → ℕ
operation_place head k = head + operation_length * k

abbrev pub output_place : ℕ → ℕ → ℕ → ℕ
output_place head operations i = operation_place head operations + output_length * i

abbrev pub totals_place : ℕ → ℕ → ℕ → ℕ
totals_place head operations outputs = output_place head operations outputs

-- and nothing behind the totals
abbrev pub netlist_length : ℕ → ℕ → ℕ → ℕ
netlist_length head operations outputs = totals_place head operations outputs + totals_length

-- "6,137 bytes always suffice."
abbrev pub enough_bytes : ℕ
enough_bytes = netlist_length width_head_length max_operations max_rows

-- ---- the fields of the records in bytes, each of its kind's length

-- what follows length and kind in a record of a length at a place
abbrev pub payload_of : List ℕ → ℕ → ℕ → List ℕ
payload_of bytes place size = take (size - 4) (drop (place + 4) bytes)

-- kind and length of the head that is due: where the kind there is 6, the one that states a width
unfoldable pub head_kind_in : List ℕ → ℕ
head_kind_in bytes = cond (eqb (word bytes 2) width_head_kind) width_head_kind head_kind

unfoldable pub head_length_in : List ℕ → ℕ
head_length_in bytes = cond (eqb (word bytes 2) width_head_kind) width_head_length head_length

abbrev pub head_at : List ℕ → Head
head_at bytes = head_of (payload_of bytes 0 (head_length_in bytes))

abbrev pub operation_at : List ℕ → ℕ → Operation
operation_at bytes k = operation_of (payload_of bytes (operation_place (head_length_in bytes) k) operation_length)

-- output i behind so many operations
abbrev pub output_at : List ℕ → ℕ → ℕ → Output
output_at bytes operations i = output_of (payload_of bytes (output_place (head_length_in bytes) operations i) output_length)

abbrev pub totals_at : List ℕ → ℕ → Totals
totals_at bytes place = totals_of (payload_of bytes place totals_length)

-- ---- the netlist in bytes

-- the first k of what there is for each number
unfoldable pub first_records : {A : Type 0} → (ℕ → A) → ℕ → List A
first_records fields zero = []
first_records fields (suc k) = first_records fields k ++ (fields k ∷ [])

abbrev pub first_operations : List ℕ → ℕ → List Operation
first_operations bytes k = first_records (operation_at bytes) k

abbrev pub first_outputs : List ℕ → ℕ → ℕ → List Output
first_outputs bytes operations k = first_records (output_at bytes operations) k

-- as many as the head says
abbrev pub operations_in : List ℕ → List Operation
operations_in bytes = first_operations bytes (head_at bytes).operations

abbrev pub outputs_in : List ℕ → List Output
outputs_in bytes = first_outputs bytes (length (operations_in bytes)) (head_at bytes).m

abbrev pub totals_place_in : List ℕ → ℕ
totals_place_in bytes = totals_place (head_length_in bytes) (length (operations_in bytes)) (length (outputs_in bytes))

abbrev pub netlist_in : List ℕ → Netlist
netlist_in bytes =
    record { head = head_at bytes; operations = operations_in bytes; outputs = outputs_in bytes; totals = totals_at bytes (totals_place_in bytes) }
