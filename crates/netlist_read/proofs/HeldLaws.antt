-- The tables lent to the parts of read: what they hold at the start and after one operation more, and what the calls on them ask.
-- Assumes nothing.
use Prim.Native.Nat.{ℕ, suc, ◌+◌, ◌≤◌, ◌<◌, max}
use mathlib.Core.Path.{◌≡◌, refl, sym, ◌∙◌, ap}
use mathlib.Core.List.{List, [], ◌∷◌, ◌++◌}
use native.Mathlib.Omega.{arith}
use native.Mathlib.Decide.{dec_lt}
use lib.IntN.{ℤ}
use lib.ListN.{length, get_or, set, take, length-append}
use lib.Seq.{take-suc}
use Rattle.limits.specs.Limits.{max_columns, max_shift, max_operations, max_width, max_symbols}
use Rattle.limits.specs.Size.{SampleWidth}
use Rattle.layout_rules.specs.declared.Operation.{Operation}
use Rattle.layout_rules.specs.declared.Output.{Output}
use Rattle.layout_rules.specs.Places.{operation_at, first_records, first_operations}
use Rattle.layout_rules.proofs.FirstRecords.{length-first}
use Rattle.board_rules.specs.Machine.{entry_form, output_form, operation_depth, largest, depth}
use Rattle.board_rules.specs.Width.{width}
use Rattle.board_rules.specs.Table.{filled, Small, table_coefficient, row, output_row, form_appended, forms_started, HoldsForms, SmallForms, SmallRange, forms_length}
use Rattle.board_rules.specs.Netlist.{OperationLimits, OutputOperand}
use Rattle.board_rules.proofs.FormLaws.{entry_form_keeps}
use Rattle.board_rules.proofs.DepthLaws.{largest_snoc}
use Rattle.board_rules.proofs.TableLaws.{started_holds, row_is, output-row-is, appended_holds, operands_fit}
use Rattle.board_rules.proofs.TableLaws as tables
use Rattle.board_rules.proofs.BoundLaws.{sample-width, widest-shifted, forms-small, appended_range-small, output-row-range-small}
use Rattle.netlist_rules.specs.Read.{operation_width, output_width}
use Rattle.netlist_rules.specs.Exact.{read_limits}
use Rattle.netlist_read.specs.Tables.{FormsHeld, DepthsHeld}

-- ---- no operation yet

module _ (b : List ℕ) (n : ℕ) (l : n ≤ max_columns) where
  pub forms_started_lem : (s : ℕ) → SampleWidth s → (forms : List ℤ) → length forms ≡ forms_length → FormsHeld b s n 0 (forms_started forms n)
  unfolding first_records
  forms_started_lem s w forms r = record {
    coefficients = started_holds n forms l r;
    narrow = λ symbol h. omega (arith, w.most, sample-width s n [] symbol (omega (arith, w.least)) (omega arith));
  }

  pub depths_started : (table : List ℕ) → table ≡ filled max_symbols 0 → DepthsHeld b n 0 table
  unfolding first_records
  depths_started table e = tables.depths_started n table (omega arith) e

-- ---- coefficients

module _ (b : List ℕ) (s n k : ℕ) (w : SampleWidth s) (forms : List ℤ) (H : FormsHeld b s n k forms) where
  abbrev before : List Operation
  before = first_operations b k

  count : length (first_operations b k) ≡ k
  count = length-first (operation_at b) k

  module _ (o : Operation) (L : OperationLimits (read_limits s) (n + k) o) where
    first : o.a < n + length (first_operations b k)
    first = omega (arith, count, L.first_earlier)

    second : o.b < n + length (first_operations b k)
    second = omega (arith, count, L.second_earlier)

    pub operands_small : SmallForms forms n o
    operands_small = forms-small s max_width max_shift n before forms H.coefficients o first second
        (H.narrow o.a L.first_earlier) (H.narrow o.b L.second_earlier) (omega (arith, L.first-shift)) (omega (arith, L.second-shift)) widest-shifted

    module _ (l : n ≤ max_columns) (m : k < max_operations) where
      pub appended_coefficients : HoldsForms n (first_operations b k ++ (o ∷ [])) (form_appended forms n o (n + k))
      appended_coefficients = rw count at (appended_holds n before forms H.coefficients o first second l (omega (arith, count)))

      appended_row : row (form_appended forms n o (n + k)) n (n + k) ≡ entry_form n (first_operations b k ++ (o ∷ [])) (n + k)
      appended_row = row_is n (first_operations b k ++ (o ∷ [])) (form_appended forms n o (n + k)) appended_coefficients (n + k)
          (omega (arith, length-append (first_operations b k) (o ∷ []), count))

      -- the width of the row that was appended is the operation's
      pub appended_width : width s (row (form_appended forms n o (n + k)) n (n + k)) ≡ operation_width s n (first_operations b k) o
      appended_width = rw count (ap (width s) appended_row)

      pub appended_range : SmallRange s (row (form_appended forms n o (n + k)) n (n + k))
      appended_range = rw appended_row (rw count at (appended_range-small s max_width max_shift n before forms H.coefficients (omega (arith, w.least)) o first second
          (H.narrow o.a L.first_earlier) (H.narrow o.b L.second_earlier) (omega (arith, L.first-shift)) (omega (arith, L.second-shift)) widest-shifted))

  module _ (L : OperationLimits (read_limits s) (n + k) (operation_at b k)) (l : n ≤ max_columns) (m : k < max_operations) where
    pub forms_appended : operation_width s n (first_operations b k) (operation_at b k) ≤ max_width → FormsHeld b s n (suc k) (form_appended forms n (operation_at b k) (n + k))
    unfolding first_records
    forms_appended narrow = record {
      coefficients = appended_coefficients (operation_at b k) L l m;
      narrow = λ symbol h. go symbol h (dec_lt symbol (n + k));
    }
      where
        go : (symbol : ℕ) → symbol < n + suc k → Dec (symbol < n + k) → width s (entry_form n (first_operations b k ++ (operation_at b k ∷ [])) symbol) ≤ max_width
        go symbol h (yes e) =
            rw (entry_form_keeps n (first_operations b k) (operation_at b k ∷ []) symbol (omega (arith, count, e))) (H.narrow symbol e)
        go symbol h (no e) = let last : symbol ≡ n + k = omega arith in rw last (rw count at narrow)

  -- an output's coefficients
  module _ (o : Output) (L : OutputOperand (read_limits s) (n + k) o) where
    pub output-row-held : output_row forms n o ≡ output_form n (first_operations b k) o
    output-row-held = output-row-is n before forms H.coefficients o (omega (arith, count, L.symbol))

    pub output-row-width : width s (output_row forms n o) ≡ output_width s n (first_operations b k) o
    output-row-width = ap (width s) output-row-held

    -- none of the entry's coefficients wraps when it is shifted, as those of an operation with that operand twice
    pub output_coefficient_small : (j : ℕ) → j < n → Small (table_coefficient forms o.symbol j) o.shift
    output_coefficient_small j h =
        (forms-small s max_width max_shift n before forms H.coefficients (record { sign = 0; a = o.symbol; sa = o.shift; b = o.symbol; sb = o.shift; width = 0 })
        (omega (arith, count, L.symbol)) (omega (arith, count, L.symbol)) (H.narrow o.symbol L.symbol) (H.narrow o.symbol L.symbol) (omega (arith, L.shift)) (omega (arith, L.shift)) widest-shifted).first j h

    pub output-range : SmallRange s (output_row forms n o)
    output-range = output-row-range-small s max_width max_shift n before forms H.coefficients (omega (arith, w.least)) o (omega (arith, count, L.symbol))
        (H.narrow o.symbol L.symbol) (omega (arith, L.shift)) widest-shifted

-- ---- depths

module _ (b : List ℕ) (n k : ℕ) (table : List ℕ) (D : DepthsHeld b n k table) where
  abbrev operations : List Operation
  operations = first_operations b k

  length-operations : length (first_operations b k) ≡ k
  length-operations = length-first (operation_at b) k

  pub depth-asked : {s : ℕ} (o : Operation) → OperationLimits (read_limits s) (n + k) o → k < max_operations → (get_or table o.a 0 < 65535) × (get_or table o.b 0 < 65535)
  depth-asked o L m =
      operands_fit n operations table D o (omega (arith, length-operations, L.first_earlier)) (omega (arith, length-operations, L.second_earlier)) (omega (arith, length-operations))

  pub depths_appended : {s : ℕ} → OperationLimits (read_limits s) (n + k) (operation_at b k) → n ≤ max_columns → k < max_operations
      → DepthsHeld b n (suc k) (set table (n + k) (operation_depth table (operation_at b k)))
  unfolding first_records
  depths_appended L l m =
      let o = operation_at b k in
      rw length-operations at (tables.depths_appended n operations table D o (omega (arith, length-operations, L.first_earlier)) (omega (arith, length-operations, L.second_earlier)) (omega (arith, length-operations)))

  -- the largest of them is the netlist's
  pub depth-held : largest (take (n + k) table) ≡ depth n (first_operations b k)
  unfolding depth
  depth-held = ap (λ (j : ℕ). largest (take (n + j) table)) (sym length-operations) ∙ ap largest D.held

pub largest-none : (l : List ℕ) → 0 ≡ largest (take 0 l)
unfolding largest
largest-none l = refl

pub largest_next : (l : List ℕ) (i : ℕ) → i < length l → max (largest (take i l)) (get_or l i 0) ≡ largest (take (suc i) l)
largest_next l i h = sym (ap largest (take-suc l i 0 h) ∙ largest_snoc (take i l) (get_or l i 0))
