-- Checking: coefficients are compared column by column, rows one after another, and the answer goes by the parts of check.
-- Assumes nothing.
use Prim.Native.Nat.{ℕ, zero, suc, ◌+◌, ◌*◌, ◌-◌, ◌≤◌, ◌<◌}
use mathlib.Core.Path.{◌≡◌, refl, sym, ap, ap₂, ◌∙◌, subst}
use mathlib.Core.Bool.{Bool, true, false, ◌&&◌}
use mathlib.Core.List.{List, []}
use mathlib.Core.Logic.{◌⊎◌, inl, inr}
use native.Mathlib.Omega.{arith}
use native.Mathlib.Nat.{mul-le-mul}
use lib.Dec.{eqb}
use lib.IntN.{ℤ, pos, negsuc}
use lib.ListN.{length, get_or, drop, drop_of_length-le}
use lib.Seq.{drop-cons}
use borrow.Author.Tests.{eq-eqb, ne_eqb}
use Rattle.limits.specs.Limits.{max_rows, max_columns, max_symbols}
use Rattle.layout_rules.specs.declared.Head.{Head}
use Rattle.layout_rules.specs.declared.Operation.{Operation}
use Rattle.layout_rules.specs.declared.Output.{Output}
use Rattle.layout_rules.specs.Matrix.{matrix_refusal, rows, columns, coefficient_place, matrix, coefficient_at, coefficients_from}
use Rattle.layout_rules.specs.Records.{Netlist}
use Rattle.layout_rules.specs.Places.{head_at, operation_at, output_at, operations_in, outputs_in}
use Rattle.board_rules.specs.Machine.{output_form}
use Rattle.layout_rules.proofs.MatrixRefusal.{AcceptedMatrix, accepted-matrix}
use Rattle.layout_rules.proofs.MatrixRows.{matrix-row, matrix-length, coefficient_there}
use Rattle.layout_rules.proofs.FirstRecords.{length-first, get_d_first}
use Rattle.board_rules.specs.Table.{each_column_from, output_row}
use Rattle.netlist_rules.specs.declared.CheckAnswer.{CheckAnswer}
use Rattle.netlist_rules.specs.Read.{Reading, refused, accepted, read_netlist}
use Rattle.netlist_rules.specs.Check.{checked, same_integer, same_row, rows_answer, match_answer, check_answer}
use Rattle.netlist_rules.specs.Exact.{SameSize}
use Rattle.netlist_read.specs.Tables.{NetlistHeld}
use Rattle.netlist_check.specs.Compared.{RowReady}
use Rattle.netlist_read.proofs.HeldLaws.{output-row-held, output_coefficient_small}
use Rattle.netlist_read.proofs.NetlistLaws.{head-limits, output-there}

-- ---- integers

same_self : (x : ℤ) → same_integer x x ≡ true
same_self (pos a) = eq-eqb a a refl
same_self (negsuc a) = eq-eqb a a refl

pub integers_same : (x y : ℤ) → x ≡ y → same_integer x y ≡ true
integers_same x y e = subst (λ z. same_integer x z ≡ true) e (same_self x)

pub integers_differ : (x y : ℤ) → (x ≡ y → ⊥) → same_integer x y ≡ false
integers_differ (pos a) (pos b) h = ne_eqb a b (λ e. h (ap pos e))
integers_differ (pos a) (negsuc b) h = refl
integers_differ (negsuc a) (pos b) h = refl
integers_differ (negsuc a) (negsuc b) h = ne_eqb a b (λ e. h (ap negsuc e))

-- ---- one row: the columns that are left

module _ (f : ℕ → ℤ) (m : List ℕ) (index n : ℕ) where
  abbrev columns_left : ℕ → Bool
  columns_left j = same_row (each_column_from j (n - j) f) (coefficients_from m (index + j) (n - j))

  pub columns-start : same_row (each_column_from 0 (n - 0) f) (coefficients_from m (index + 0) (n - 0)) ≡ same_row (each_column_from 0 n f) (coefficients_from m index n)
  columns-start =
      let all : n - 0 ≡ n = omega arith in
      let here : index + 0 ≡ index = omega arith in
      rw (all, here) refl

  column_next : (j : ℕ) → j < n → columns_left j ≡ (same_integer (f j) (coefficient_at m (index + j)) && columns_left (suc j))
  unfolding same_row each_column_from coefficients_from
  column_next j h =
      let less : n - j ≡ suc (n - suc j) = omega arith in
      let further : index + j + 1 ≡ index + suc j = omega arith in
      rw less (ap (λ (i : ℕ). same_integer (f j) (coefficient_at m (index + j)) && same_row (each_column_from (suc j) (n - suc j) f) (coefficients_from m i (n - suc j))) further)

  pub column-same : (j : ℕ) → j < n → f j ≡ coefficient_at m (index + j) → columns_left j ≡ columns_left (suc j)
  column-same j h e = column_next j h ∙ ap (λ t. t && columns_left (suc j)) (integers_same (f j) (coefficient_at m (index + j)) e)

  pub column-differs : (j : ℕ) → j < n → (f j ≡ coefficient_at m (index + j) → ⊥) → columns_left j ≡ false
  column-differs j h e = column_next j h ∙ ap (λ t. t && columns_left (suc j)) (integers_differ (f j) (coefficient_at m (index + j)) e)

  pub columns-end : (j : ℕ) → n ≤ j → columns_left j ≡ true
  unfolding same_row each_column_from coefficients_from
  columns-end j h = let none : n - j ≡ 0 = omega arith in rw none refl

-- ---- the rows that are left

abbrev after_row : ℕ → CheckAnswer → Bool → CheckAnswer
after_row i later t = elim t [ true ↦ later | false ↦ checked 14 i ]

module _ (n : ℕ) (os : List Operation) (outputs : List Output) (rs : List (List ℤ)) (d : Output) where
  row_next : (i : ℕ) → i < length outputs → i < length rs
      → rows_answer n os i (drop i outputs) (drop i rs)
      ≡ after_row i (rows_answer n os (suc i) (drop (suc i) outputs) (drop (suc i) rs)) (same_row (output_form n os (get_or outputs i d)) (get_or rs i []))
  unfolding rows_answer
  row_next i h k = rw (drop-cons outputs i d h, drop-cons rs i [] k) refl

  pub row_same : (i : ℕ) → i < length outputs → i < length rs → same_row (output_form n os (get_or outputs i d)) (get_or rs i []) ≡ true
      → rows_answer n os i (drop i outputs) (drop i rs) ≡ rows_answer n os (suc i) (drop (suc i) outputs) (drop (suc i) rs)
  row_same i h k e = row_next i h k ∙ ap (after_row i (rows_answer n os (suc i) (drop (suc i) outputs) (drop (suc i) rs))) e

  pub row-differs : (i : ℕ) → i < length outputs → i < length rs → same_row (output_form n os (get_or outputs i d)) (get_or rs i []) ≡ false
      → rows_answer n os i (drop i outputs) (drop i rs) ≡ checked 14 i
  row-differs i h k e = row_next i h k ∙ ap (after_row i (rows_answer n os (suc i) (drop (suc i) outputs) (drop (suc i) rs))) e

  pub rows_end : (i : ℕ) → length outputs ≤ i → rows_answer n os i (drop i outputs) (drop i rs) ≡ checked 0 0
  unfolding rows_answer
  rows_end i h = rw (drop_of_length-le outputs h) refl

-- output i's coefficients in the table against row i
module _ (b m : List ℕ) (forms : List ℤ) (H : NetlistHeld b forms) (i : ℕ) (h : i < (head_at b).m) where
  pub row_compared : i < rows m → columns m ≡ (head_at b).n
      → same_row (output_row forms (head_at b).n (output_at b (head_at b).operations i)) (coefficients_from m (i * (head_at b).n) (head_at b).n)
      ≡ same_row (output_form (head_at b).n (operations_in b) (get_or (outputs_in b) i (output_at b 0 0))) (get_or (matrix m) i [])
  row_compared l e = ap₂ same_row
      (output-row-held b (head_at b).width (head_at b).n (head_at b).operations (head-limits b H.read).width forms H.forms-held (output_at b (head_at b).operations i) (output-there b H.read i h).1.operand
      ∙ ap (output_form (head_at b).n (operations_in b)) (sym output-is))
      (ap (λ (c : ℕ). coefficients_from m (i * c) c) (sym e) ∙ sym (matrix-row m i l))
    where
      output-is : get_or (outputs_in b) i (output_at b 0 0) ≡ output_at b (head_at b).operations i
      output-is = get_d_first (output_at b (length (operations_in b))) (head_at b).m i (output_at b 0 0) h
          ∙ ap (λ (k : ℕ). output_at b k i) (length-first (operation_at b) (head_at b).operations)

  pub row_ready : AcceptedMatrix m → i < rows m → columns m ≡ (head_at b).n → RowReady m (i * (head_at b).n) (head_at b).n forms (output_at b (head_at b).operations i)
  row_ready a l e = record {
    there = λ j k. subst (λ (c : ℕ). coefficient_place (i * c + j) + 1 < length m) e (coefficient_there m a i j l (omega (arith, e, k)));
    small = output_coefficient_small b (head_at b).width (head_at b).n (head_at b).operations (head-limits b H.read).width forms H.forms-held (output_at b (head_at b).operations i) (output-there b H.read i h).1.operand;
  }

-- the same of a netlist's head and its output as they were read
module _ (b m : List ℕ) (forms : List ℤ) (H : NetlistHeld b forms) (due : matrix_refusal m ≡ 0) (h : Head) (is : h ≡ head_at b) (S : SameSize m h)
  where
    module _ (i : ℕ) (inside : i < h.m) {n : ℕ} {o : Output} (counted : n ≡ h.n) (read : o ≡ output_at b h.operations i) where
      among : i < (head_at b).m
      among = subst (λ (x : Head). i < x.m) is inside

      row : i < rows m
      row = omega (arith, S.same_rows)

      n-is : n ≡ (head_at b).n
      n-is = counted ∙ ap (λ (x : Head). x.n) is

      same : columns m ≡ (head_at b).n
      same = S.same-columns ∙ ap (λ (x : Head). x.n) is

      o-is : o ≡ output_at b (head_at b).operations i
      o-is = read ∙ ap (λ (x : Head). output_at b x.operations i) is

      pub row_asked : (n ≤ max_columns) × ((i * n ≤ max_rows * max_columns) × (o.symbol < max_symbols))
      row_asked =
          let L = head-limits b H.read in
          let few : n ≤ max_columns = omega (arith, n-is, L.limits.columns-most) in
          let below : i ≤ max_rows = omega (arith, among, L.limits.rows-most) in
          let operand : o.symbol < (head_at b).n + (head_at b).operations = rw o-is (output-there b H.read i among).1.operand.symbol in
          (few, (mul-le-mul below few, omega (arith, operand, L.limits.columns-most, L.few)))

      pub read_row-ready : RowReady m (i * n) n forms o
      read_row-ready = rw (o-is, n-is) (row_ready b m forms H i among (accepted-matrix m due) row same)

      abbrev left : ℕ → CheckAnswer
      left j = rows_answer (head_at b).n (operations_in b) j (drop j (outputs_in b)) (drop j (matrix m))

      compared : same_row (output_form (head_at b).n (operations_in b) (get_or (outputs_in b) i (output_at b 0 0))) (get_or (matrix m) i []) ≡ same_row (output_row forms n o) (coefficients_from m (i * n) n)
      compared = rw (o-is, n-is) (sym (row_compared b m forms H i among row same))

      output-among : i < length (outputs_in b)
      output-among = omega (arith, among, length-first (output_at b (length (operations_in b))) (head_at b).m)

      row-among : i < length (matrix m)
      row-among = omega (arith, row, matrix-length m)

      pub read_row-differs : false ≡ same_row (output_row forms n o) (coefficients_from m (i * n) n) → checked 14 i ≡ left i
      read_row-differs e = sym (row-differs (head_at b).n (operations_in b) (outputs_in b) (matrix m) (output_at b 0 0) i output-among row-among (compared ∙ sym e))

      pub read_row-same : true ≡ same_row (output_row forms n o) (coefficients_from m (i * n) n) → left (suc i) ≡ left i
      read_row-same e = sym (row_same (head_at b).n (operations_in b) (outputs_in b) (matrix m) (output_at b 0 0) i output-among row-among (compared ∙ sym e))

    pub read_rows-end : (i : ℕ) → h.m ≤ i → checked 0 0 ≡ rows_answer (head_at b).n (operations_in b) i (drop i (outputs_in b)) (drop i (matrix m))
    read_rows-end i l =
        sym (rows_end (head_at b).n (operations_in b) (outputs_in b) (matrix m) (output_at b 0 0) i
        (omega (arith, length-first (output_at b (length (operations_in b))) (head_at b).m, ap (λ (x : Head). x.m) is)))

-- ---- the answer

abbrev after_netlist : List ℕ → Reading Netlist → CheckAnswer
after_netlist m x = elim x [ refused r place ↦ checked r place | accepted net ↦ match_answer m net ]

abbrev after_matrix : ℕ → CheckAnswer → CheckAnswer
after_matrix r later = elim r [ suc s ↦ checked (suc s) 0 | zero ↦ later ]

abbrev after_sizes : CheckAnswer → Bool → CheckAnswer
after_sizes later t = elim t [ false ↦ checked 13 0 | true ↦ later ]

stays : (r : ℕ) (later : CheckAnswer) → (r ≡ 0 → ⊥) → checked r 0 ≡ after_matrix r later
stays zero later h = absurd (h refl)
stays (suc r) later h = refl

module _ (m b : List ℕ) where
  by_parts : after_matrix (matrix_refusal m) (after_netlist m (read_netlist b)) ≡ check_answer m b
  unfolding check_answer
  by_parts = refl

  pub matrix_declines : (matrix_refusal m ≡ 0 → ⊥) → checked (matrix_refusal m) 0 ≡ check_answer m b
  matrix_declines h = stays (matrix_refusal m) (after_netlist m (read_netlist b)) h ∙ by_parts

  module _ (due : matrix_refusal m ≡ 0) where
    behind-matrix : after_netlist m (read_netlist b) ≡ check_answer m b
    behind-matrix = ap (λ (r : ℕ). after_matrix r (after_netlist m (read_netlist b))) (sym due) ∙ by_parts

    pub netlist_declines : {r place : ℕ} → read_netlist b ≡ refused r place → checked r place ≡ check_answer m b
    netlist_declines e = sym (ap (after_netlist m) e) ∙ behind-matrix

    module _ (net : Netlist) (reads : read_netlist b ≡ accepted net) where
      sizes : (t : Bool) → (eqb (rows m) net.head.m && eqb (columns m) net.head.n) ≡ t
          → after_sizes (rows_answer net.head.n net.operations 0 net.outputs (matrix m)) t ≡ check_answer m b
      unfolding match_answer
      sizes t e =
          ap (after_sizes (rows_answer net.head.n net.operations 0 net.outputs (matrix m))) (sym e)
          ∙ ap (after_netlist m) (sym reads) ∙ behind-matrix

      pub sizes-differ : ((rows m ≡ net.head.m → ⊥) ⊎ ((rows m ≡ net.head.m) × (columns m ≡ net.head.n → ⊥))) → checked 13 0 ≡ check_answer m b
      sizes-differ (inl h) = sizes false (ap (λ t. t && eqb (columns m) net.head.n) (ne_eqb (rows m) net.head.m h))
      sizes-differ (inr h) = sizes false (ap₂ ◌&&◌ (eq-eqb (rows m) net.head.m h.0) (ne_eqb (columns m) net.head.n h.1))

      pub sizes_agree : rows m ≡ net.head.m → columns m ≡ net.head.n
          → rows_answer net.head.n net.operations 0 net.outputs (matrix m) ≡ check_answer m b
      sizes_agree d e = sizes true (ap₂ ◌&&◌ (eq-eqb (rows m) net.head.m d) (eq-eqb (columns m) net.head.n e))
