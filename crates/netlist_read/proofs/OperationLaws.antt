-- One operation of a netlist as it is read behind those before it: its refusal, and what the tables hold with it.
-- Assumes nothing.
use mathlib.Core.Path.{◌≡◌, sym, ap, ap₂, ◌∙◌}
use Prim.Native.Nat.{ℕ, suc, ◌+◌, ◌≤◌, ◌<◌}
use mathlib.Core.Bool.{true, false}
use mathlib.Core.List.{List}
use native.Mathlib.Omega.{arith}
use lib.IntN.{ℤ}
use lib.ListN.{get_or, set}
use Rattle.limits.specs.Limits.{max_columns, max_operations}
use Rattle.limits.specs.Size.{SampleWidth}
use Rattle.layout_rules.specs.declared.Operation.{Operation}
use Rattle.layout_rules.specs.Records.{operation_kind, operation_length, operation_of}
use Rattle.layout_rules.specs.Places.{operation_place, payload_of, head_length_in, operation_at, first_operations}
use Rattle.board_rules.specs.Machine.{operation_depth}
use Rattle.board_rules.specs.Width.{width}
use Rattle.board_rules.specs.Table.{row, form_appended, SmallForms, SmallRange}
use Rattle.board_rules.specs.Netlist.{OperationLimits}
use Rattle.netlist_rules.specs.Read.{record_refusal, operation_in_range, operation_refusal, operation_width, width_right}
use Rattle.netlist_rules.specs.Exact.{read_limits}
use Rattle.netlist_read.specs.Tables.{FormsHeld, DepthsHeld}
use Rattle.netlist_rules.proofs.Conditions.{operation_says}
use Rattle.netlist_tests.proofs.RecordLaws.{width_says, operation-outside, operation_wide, operation-accepted, operation_record_refusal}
use Rattle.netlist_read.proofs.HeldLaws.{operands_small, appended_width, appended_range, forms_appended, depth-asked, depths_appended}

-- the record due for operation k is there, and its fields are read
pub record OperationThere (b : List ℕ) (k : ℕ) (o : Operation) : Type 0 where
  due : operation_record_refusal b k ≡ 0
  read : o ≡ operation_at b k

module _ (b : List ℕ) (k start place : ℕ) (behind : start ≡ head_length_in b) (at : place ≡ operation_place start k) where
  placed : place ≡ operation_place (head_length_in b) k
  placed = omega arith

  pub operation-record : {r : ℕ} → r ≡ record_refusal b place operation_kind operation_length → r ≡ operation_record_refusal b k
  operation-record e = e ∙ ap (λ (p : ℕ). record_refusal b p operation_kind operation_length) placed

  pub operation-read : {o : Operation} → 0 ≡ record_refusal b place operation_kind operation_length → o ≡ operation_of (payload_of b place operation_length) → OperationThere b k o
  operation-read d e = record { due = sym (operation-record d); read = e ∙ ap (λ (p : ℕ). operation_of (payload_of b p operation_length)) placed }

module _ (b : List ℕ) (s n k : ℕ) {o : Operation} (T : OperationThere b k o) where
  pub operation-out : false ≡ operation_in_range (n + k) o → 9 ≡ operation_refusal b s n (first_operations b k)
  operation-out e = operation-outside b s n k T.due (ap (operation_in_range (n + k)) (sym T.read) ∙ sym e)

  module _ (inside : true ≡ operation_in_range (n + k) o) where
    in_range : operation_in_range (n + k) (operation_at b k) ≡ true
    in_range = ap (operation_in_range (n + k)) (sym T.read) ∙ sym inside

    limits : OperationLimits (read_limits s) (n + k) (operation_at b k)
    limits = (operation_says s (n + k) (operation_at b k)).0 in_range

    module _ (w : SampleWidth s) (forms : List ℤ) (H : FormsHeld b s n k forms) where
      pub operands-held : SmallForms forms n o
      operands-held = rw T.read (operands_small b s n k w forms H (operation_at b k) limits)

      module _ (l : n ≤ max_columns) (m : k < max_operations) {new : List ℤ} (is : new ≡ form_appended forms n o (n + k)) where
        appended : new ≡ form_appended forms n (operation_at b k) (n + k)
        appended = is ∙ ap (λ (x : Operation). form_appended forms n x (n + k)) T.read

        pub row-small : SmallRange s (row new n (n + k))
        row-small = rw appended (appended_range b s n k w forms H (operation_at b k) limits l m)

        module _ {v : ℕ} (worked-out : v ≡ width s (row new n (n + k))) where
          is-width : v ≡ operation_width s n (first_operations b k) (operation_at b k)
          is-width = worked-out ∙ ap (λ (t : List ℤ). width s (row t n (n + k))) appended ∙ appended_width b s n k w forms H (operation_at b k) limits l m

          compared : width_right (operation_at b k).width (operation_width s n (first_operations b k) (operation_at b k)) ≡ width_right o.width v
          compared = sym (ap₂ width_right (ap (λ (x : Operation). x.width) T.read) is-width)

          pub operation-too_wide : false ≡ width_right o.width v → 10 ≡ operation_refusal b s n (first_operations b k)
          operation-too_wide e = operation_wide b s n k T.due in_range (compared ∙ sym e)

          module _ (right : true ≡ width_right o.width v) where
            pub operation-fine : 0 ≡ operation_refusal b s n (first_operations b k)
            operation-fine = operation-accepted b s n k T.due in_range (compared ∙ sym right)

            pub forms-next : FormsHeld b s n (suc k) new
            forms-next = rw appended (forms_appended b s n k w forms H limits l m ((width_says _ _).0 (compared ∙ sym right)).1)

    module _ (table : List ℕ) (D : DepthsHeld b n k table) (l : n ≤ max_columns) (m : k < max_operations) where
      pub depths-asked : (get_or table o.a 0 < 65535) × (get_or table o.b 0 < 65535)
      depths-asked = rw T.read (depth-asked b n k table D (operation_at b k) limits m)

      pub depths-next : {d : ℕ} → d ≡ operation_depth table o → DepthsHeld b n (suc k) (set table (n + k) d)
      depths-next e = rw (e ∙ ap (operation_depth table) T.read) (depths_appended b n k table D limits l m)
