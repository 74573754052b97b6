-- One output of a netlist as it is read behind the operations: its refusal, and that its coefficients are small.
-- Assumes nothing.
use mathlib.Core.Path.{◌≡◌, sym, ap, ap₂, ◌∙◌}
use Prim.Native.Nat.{ℕ, ◌+◌}
use mathlib.Core.Bool.{true, false}
use mathlib.Core.List.{List}
use native.Mathlib.Omega.{arith}
use lib.IntN.{ℤ}
use lib.ListN.{length}
use Rattle.limits.specs.Size.{SampleWidth}
use Rattle.layout_rules.specs.declared.Operation.{Operation}
use Rattle.layout_rules.specs.declared.Output.{Output}
use Rattle.layout_rules.specs.Records.{output_kind, output_length, output_of}
use Rattle.layout_rules.specs.Places.{output_place, payload_of, head_length_in, operation_at, output_at, first_operations}
use Rattle.layout_rules.proofs.FirstRecords.{length-first}
use Rattle.board_rules.specs.Width.{width}
use Rattle.board_rules.specs.Table.{output_row, SmallRange}
use Rattle.board_rules.specs.Netlist.{OutputOperand}
use Rattle.netlist_rules.specs.Read.{record_refusal, output_in_range, output_refusal, output_width, width_right}
use Rattle.netlist_rules.specs.Exact.{read_limits}
use Rattle.netlist_rules.proofs.Conditions.{output_says}
use Rattle.netlist_read.specs.Tables.{FormsHeld}
use Rattle.netlist_tests.proofs.RecordLaws.{output-outside, output_wide, output-accepted, output_record_refusal}
use Rattle.netlist_read.proofs.HeldLaws.{output-row-width, output-range}

-- the record due for output i behind k operations is there, and its fields are read
pub record OutputThere (b : List ℕ) (k i : ℕ) (o : Output) : Type 0 where
  due : output_record_refusal b k i ≡ 0
  read : o ≡ output_at b k i

module _ (b : List ℕ) (k i start place : ℕ) (behind : start ≡ head_length_in b) (at : place ≡ output_place start k i) where
  placed : place ≡ output_place (head_length_in b) k i
  placed = omega arith

  pub output-record : {r : ℕ} → r ≡ record_refusal b place output_kind output_length → r ≡ output_record_refusal b k i
  output-record e = e ∙ ap (λ (p : ℕ). record_refusal b p output_kind output_length) placed

  pub output-read : {o : Output} → 0 ≡ record_refusal b place output_kind output_length → o ≡ output_of (payload_of b place output_length) → OutputThere b k i o
  output-read d e = record { due = sym (output-record d); read = e ∙ ap (λ (p : ℕ). output_of (payload_of b p output_length)) placed }

module _ (b : List ℕ) (s n k i : ℕ) {o : Output} (T : OutputThere b k i o) where
  abbrev os : List Operation
  os = first_operations b k

  counted : length (first_operations b k) ≡ k
  counted = length-first (operation_at b) k

  pub output-out : false ≡ output_in_range (n + k) o → 9 ≡ output_refusal b s n (first_operations b k) i
  output-out e = output-outside b s n k os counted i T.due (ap (output_in_range (n + k)) (sym T.read) ∙ sym e)

  module _ (inside : true ≡ output_in_range (n + k) o) (w : SampleWidth s) (forms : List ℤ) (H : FormsHeld b s n k forms) where
    in_range : output_in_range (n + k) (output_at b k i) ≡ true
    in_range = ap (output_in_range (n + k)) (sym T.read) ∙ sym inside

    operand : OutputOperand (read_limits s) (n + k) (output_at b k i)
    operand = ((output_says s (n + k) (output_at b k i)).0 in_range).operand

    pub output-small : SmallRange s (output_row forms n o)
    output-small = rw T.read (output-range b s n k w forms H (output_at b k i) operand)

    module _ {v : ℕ} (worked-out : v ≡ width s (output_row forms n o)) where
      is-width : v ≡ output_width s n (first_operations b k) (output_at b k i)
      is-width = worked-out ∙ ap (λ (x : Output). width s (output_row forms n x)) T.read ∙ output-row-width b s n k w forms H (output_at b k i) operand

      compared : width_right (output_at b k i).width (output_width s n (first_operations b k) (output_at b k i)) ≡ width_right o.width v
      compared = sym (ap₂ width_right (ap (λ (x : Output). x.width) T.read) is-width)

      pub output-too_wide : false ≡ width_right o.width v → 10 ≡ output_refusal b s n (first_operations b k) i
      output-too_wide e = output_wide b s n k os counted i T.due in_range (compared ∙ sym e)

      pub output-fine : true ≡ width_right o.width v → 0 ≡ output_refusal b s n (first_operations b k) i
      output-fine e = output-accepted b s n k os counted i T.due in_range (compared ∙ sym e)
