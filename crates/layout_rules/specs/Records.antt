-- Document 01, "Netlist and board machine": a netlist as data, and its records as bytes.
-- Assumes nothing.
use Rattle.std.specs.Prelude.{ℕ, cond, eqb, get_or}
use mathlib.Core.List.{List, [], ◌∷◌, ◌++◌, flat_map}
use Rattle.limits.specs.Limits.{unstated_width}
use Rattle.layout_rules.specs.Bytes.{little_endian, word, record_bytes}
use Rattle.layout_rules.specs.declared.Head.{Head}
use Rattle.layout_rules.specs.declared.Operation.{Operation}
use Rattle.layout_rules.specs.declared.Output.{Output}
use Rattle.layout_rules.specs.declared.Totals.{Totals}

-- a netlist's records, in their order
pub record Netlist : Type 0 where
  pub head : Head
  pub operations : List Operation
  pub outputs : List Output
  pub totals : Totals

-- the netlist of no bytes, for samples of s bits: "a head with m, n and operations 0, then totals of 0"
abbrev pub netlist_without_rows : ℕ → Netlist
netlist_without_rows s =
    record {
      head = record { m = 0; n = 0; operations = 0; width = s };
      operations = [];
      outputs = [];
      totals = record { operations = 0; depth = 0 };
    }

-- ---- the payload of each kind, field by field

-- "with the width as its last byte"; 16 is not written
abbrev pub stated_width : ℕ → List ℕ
stated_width s = cond (eqb s unstated_width) [] (s ∷ [])

-- m, n (1 byte each), operations (2 bytes), and the sample width (1) unless it is 16
unfoldable pub head_payload : Head → List ℕ
head_payload h = h.m ∷ h.n ∷ little_endian h.operations ++ stated_width h.width

-- 0 add or 1 subtract (1 byte), A (2 bytes), sA (1), B (2), sB (1), width (1)
unfoldable pub operation_payload : Operation → List ℕ
operation_payload o = o.sign ∷ little_endian o.a ++ o.sa ∷ little_endian o.b ++ o.sb ∷ o.width ∷ []

-- 0 plus, 1 minus or 2 zero (1 byte), symbol (2), shift (1), width (1)
unfoldable pub output_payload : Output → List ℕ
output_payload o = o.sign ∷ little_endian o.symbol ++ o.shift ∷ o.width ∷ []

-- operations, depth (2 bytes each)
unfoldable pub totals_payload : Totals → List ℕ
totals_payload t = little_endian t.operations ++ little_endian t.depth

-- ---- the records: "kind 2, head, length 8", or "kind 6, length 9"; "kind 3, operation, length 12", "kind 4, output, length 9",
-- "kind 5, totals, length 8"

abbrev pub head_kind : ℕ
head_kind = 2

abbrev pub head_length : ℕ
head_length = 8

-- the head that states a width
abbrev pub width_head_kind : ℕ
width_head_kind = 6

abbrev pub width_head_length : ℕ
width_head_length = 9

-- the head of a netlist for samples of s bits
unfoldable pub head_kind_of : ℕ → ℕ
head_kind_of s = cond (eqb s unstated_width) head_kind width_head_kind

unfoldable pub head_length_of : ℕ → ℕ
head_length_of s = cond (eqb s unstated_width) head_length width_head_length

abbrev pub head_bytes : Head → List ℕ
head_bytes h = record_bytes (head_kind_of h.width) (head_payload h)

abbrev pub operation_kind : ℕ
operation_kind = 3

abbrev pub operation_length : ℕ
operation_length = 12

abbrev pub operation_bytes : Operation → List ℕ
operation_bytes o = record_bytes operation_kind (operation_payload o)

abbrev pub output_kind : ℕ
output_kind = 4

abbrev pub output_length : ℕ
output_length = 9

abbrev pub output_bytes : Output → List ℕ
output_bytes o = record_bytes output_kind (output_payload o)

abbrev pub totals_kind : ℕ
totals_kind = 5

abbrev pub totals_length : ℕ
totals_length = 8

abbrev pub totals_bytes : Totals → List ℕ
totals_bytes t = record_bytes totals_kind (totals_payload t)

-- the head, the operations, the outputs, the totals
unfoldable pub netlist_bytes : Netlist → List ℕ
netlist_bytes n = head_bytes n.head ++ (flat_map operation_bytes n.operations ++ (flat_map output_bytes n.outputs ++ totals_bytes n.totals))

-- ---- the fields of a payload of each kind

-- where no width is stated, it is 16
unfoldable pub head_of : List ℕ → Head
head_of p = record { m = get_or p 0 0; n = get_or p 1 0; operations = word p 2; width = get_or p 4 unstated_width }

unfoldable pub operation_of : List ℕ → Operation
operation_of p = record { sign = get_or p 0 0; a = word p 1; sa = get_or p 3 0; b = word p 4; sb = get_or p 6 0; width = get_or p 7 0 }

unfoldable pub output_of : List ℕ → Output
output_of p = record { sign = get_or p 0 0; symbol = word p 1; shift = get_or p 3 0; width = get_or p 4 0 }

unfoldable pub totals_of : List ℕ → Totals
totals_of p = record { operations = word p 0; depth = word p 2 }
