-- Document 01, "Netlist and board machine": a netlist's records written one after another, with the widths and depths that the tables give.
-- Assumes nothing.
use Prim.Native.Nat.{ℕ, zero, suc, ◌+◌, ◌*◌, ◌-◌, ◌≤◌, ◌<◌, max}
use mathlib.Core.Path.{◌≡◌, refl, sym, ap, ap₂, ◌∙◌, subst}
use mathlib.Core.List.{List, [], ◌∷◌, ◌++◌, flat_map, map, append_assoc}
use native.Mathlib.Omega.{arith}
use lib.IntN.{ℤ, pos}
use lib.ListN.{length, get_or, take, drop, set, take-append-drop, drop_of_length-le, length-append, length-map, length-drop}
use lib.Seq.{drop-cons, take-suc, length-take-le}
use Rattle.limits.specs.Limits.{max_columns, max_shift, max_symbols, max_compiled_width}
use Rattle.limits.specs.Size.{SampleWidth}
use Rattle.layout_rules.specs.declared.Operation.{Operation}
use Rattle.layout_rules.specs.declared.Output.{Output}
use Rattle.layout_rules.specs.Records.{Netlist, head_length_of, head_bytes, operation_length, operation_bytes, output_length, output_bytes, totals_length, totals_bytes, netlist_bytes}
use Rattle.layout_rules.specs.Places.{operation_place, output_place}
use Rattle.layout_rules.specs.Written.{written}
use borrow.Rule.Slice.PartMut.{put_mid}
use Rattle.layout_rules.proofs.Written.{written_part, written_start, written_after, length-written, part_next, records_none}
use Rattle.layout_rules.proofs.Lengths.{length-head, length-operation, length-output, length-totals, length_records}
use Rattle.board_rules.specs.Machine.{entry_form, operation_depth, depth}
use Rattle.board_rules.specs.Width.{width}
use Rattle.board_rules.specs.Table.{forms_length, table_coefficient, row, operation_coefficient, operation_row, form_appended, HoldsForms, HoldsDepths, SmallForms, SmallRange}
use Rattle.board_rules.proofs.FormLaws.{columns_at, columns-same, length-columns, entry_form_keeps}
use Rattle.board_rules.proofs.TableLaws.{sets_inside, operation-row-is, output-row-is, appended_holds, operands_fit, operation-depth_at, depths_appended}
use Rattle.board_rules.proofs.DepthLaws.{depth_snoc}
use Rattle.board_rules.proofs.BoundLaws.{compiled-shifted, forms-small, appended_range-small, output-row-range-small}
use Rattle.compile_lists.specs.Lists.{no_operation, no_output}
use Rattle.compile_rules.specs.Compile.{with_width, with_widths, output_with_width}
use Rattle.compile_rules.specs.Compiled.{compiled_limits}
use Rattle.compile_write.specs.Tables.{Writable, EarlierOperations, EarlierOutputs, WritableOutputs, with_table_width}
use Rattle.compile_rules.proofs.Counts.{length_with_widths}

-- ---- a row that is written is read back

pub appended_row : (table : List ℤ) (n : ℕ) (o : Operation) (symbol : ℕ) → n ≤ max_columns → symbol < max_symbols → length table ≡ forms_length
    → row (form_appended table n o symbol) n symbol ≡ operation_row table n o
appended_row table n o symbol l h r =
    columns-same 0 n (table_coefficient (form_appended table n o symbol) symbol) (operation_coefficient table o)
    (λ j k.
    let inside : j < n = omega arith in
    let first : 0 + j ≡ j = omega arith in
    sets_inside (pos 0) (operation_row table n o) table (symbol * max_columns) j (omega (arith, length-columns 0 n (operation_coefficient table o)))
    (omega (arith, length-columns 0 n (operation_coefficient table o)))
    ∙ columns_at 0 n (operation_coefficient table o) j inside
    ∙ ap (operation_coefficient table o) first)

-- ---- operations with their widths

module _ (s n : ℕ) (os : List Operation) where
  -- the operations with widths, over samples of s bits, from one on
  abbrev pub recorded_from : ℕ → List Operation
  recorded_from k = with_widths s n os (n + k) (drop k os)

  with_widths-cons : (symbol : ℕ) (o : Operation) (ps : List Operation)
      → with_widths s n os symbol (o ∷ ps) ≡ with_width (width s (entry_form n os symbol)) o ∷ with_widths s n os (suc symbol) ps
  unfolding with_widths
  with_widths-cons symbol o ps = refl

  with_widths-none : (symbol : ℕ) (ps : List Operation) → ps ≡ [] → with_widths s n os symbol ps ≡ []
  unfolding with_widths
  with_widths-none symbol ps e = ap (with_widths s n os symbol) e

  pub recorded_next : (k : ℕ) → k < length os
      → recorded_from k ≡ with_width (width s (entry_form n os (n + k))) (get_or os k no_operation) ∷ recorded_from (suc k)
  recorded_next k h =
      let symbol : suc (n + k) ≡ n + suc k = omega arith in
      ap (with_widths s n os (n + k)) (drop-cons os k no_operation h)
      ∙ with_widths-cons (n + k) (get_or os k no_operation) (drop (suc k) os)
      ∙ ap (λ (j : ℕ). with_width (width s (entry_form n os (n + k))) (get_or os k no_operation) ∷ with_widths s n os j (drop (suc k) os)) symbol

  pub recorded-end : (k : ℕ) → length os ≤ k → recorded_from k ≡ []
  recorded-end k h = with_widths-none (n + k) (drop k os) (drop_of_length-le os {i = k} h)

  pub length-recorded : (k : ℕ) → k ≤ length os → length (recorded_from k) + k ≡ length os
  length-recorded k h = omega (arith, length_with_widths s n os (n + k) (drop k os), length_dropped k os h)
    where
      length_dropped : (k : ℕ) (os : List Operation) → k ≤ length os → length (drop k os) + k ≡ length os
      length_dropped zero os h = omega arith
      length_dropped (suc k) [] h = absurd (omega arith)
      length_dropped (suc k) (o ∷ os) h = omega (arith, length_dropped k os (omega arith))

  -- ---- the operation of index k, where the table holds the forms of those before it

  module _ (bits : SampleWidth s) (w : Writable (compiled_limits s) n os) (table : List ℤ) (k : ℕ) (h : k < length os) (H : HoldsForms n (take k os) table) where
    abbrev o : Operation
    o = get_or os k no_operation

    counted : n + length (take k os) ≡ n + k
    counted = ap (λ (l : ℕ). n + l) (length-take-le k os (omega arith))

    up_to : take k os ++ (o ∷ []) ≡ take (suc k) os
    up_to = sym (take-suc os k no_operation h)

    first_below : o.a < n + length (take k os)
    first_below = omega (arith, counted, (w.operation k h).first_earlier)

    second_below : o.b < n + length (take k os)
    second_below = omega (arith, counted, (w.operation k h).second_earlier)

    first-shift : o.sa ≤ max_shift
    first-shift = omega (arith, (w.operation k h).first-shift)

    second-shift : o.sb ≤ max_shift
    second-shift = omega (arith, (w.operation k h).second-shift)

    -- an earlier entry's form is that among all operations
    early : (symbol : ℕ) → symbol < n + length (take k os) → width s (entry_form n (take k os) symbol) ≤ max_compiled_width s
    early symbol l =
        let whole : entry_form n os symbol ≡ entry_form n (take k os) symbol = ap (λ (ps : List Operation). entry_form n ps symbol) (sym (take-append-drop k os)) ∙ entry_form_keeps n (take k os) (drop k os) symbol l in
        omega (arith, w.narrow symbol (omega (arith, counted)), ap (width s) whole)

    pub small-forms : SmallForms table n (get_or os k no_operation)
    small-forms = forms-small s (max_compiled_width s) max_shift n (take k os) table H o first_below second_below (early o.a first_below) (early o.b second_below)
        first-shift second-shift (compiled-shifted bits)

    row_entry : operation_row table n (get_or os k no_operation) ≡ entry_form n (take k os ++ (o ∷ [])) (n + length (take k os))
    row_entry = operation-row-is n (take k os) table H o first_below second_below

    pub small-range : SmallRange s (operation_row table n (get_or os k no_operation))
    small-range = subst (SmallRange s) (sym row_entry)
        (appended_range-small s (max_compiled_width s) max_shift n (take k os) table H (omega (arith, bits.most)) o first_below second_below (early o.a first_below) (early o.b second_below)
        first-shift second-shift (compiled-shifted bits))

    -- its coefficients are those of its symbol among all operations
    pub row_form : operation_row table n (get_or os k no_operation) ≡ entry_form n os (n + k)
    row_form =
        row_entry
        ∙ ap₂ (entry_form n) up_to counted
        ∙ sym (entry_form_keeps n (take (suc k) os) (drop (suc k) os) (n + k) (omega (arith, length-take-le (suc k) os (omega arith))))
        ∙ ap (λ (ps : List Operation). entry_form n ps (n + k)) (take-append-drop (suc k) os)

    pub holds_next : HoldsForms n (take (suc k) os) (form_appended table n (get_or os k no_operation) (n + k))
    holds_next =
        subst (λ (ps : List Operation). HoldsForms n ps (form_appended table n o (n + k))) up_to
        (subst (λ (j : ℕ). HoldsForms n (take k os ++ (o ∷ [])) (form_appended table n o j)) counted
        (appended_holds n (take k os) table H o first_below second_below w.inputs (omega (arith, counted, w.few, w.inputs))))

    -- its record is the next of those that are left, behind a head of any length
    pub operation-written : (head : ℕ) (buffer last : List ℕ) (p : Operation) (place : ℕ) → p ≡ get_or os k no_operation → place ≡ operation_place head k
        → operation_place head (length os) ≤ length buffer
        → last ≡ operation_bytes (with_width (width s (operation_row table n p)) p) ++ drop operation_length (take (length buffer - place) (drop place buffer))
        → written (put_mid place (length buffer - place) buffer last) (operation_place head (suc k)) (flat_map operation_bytes (recorded_from (suc k)))
        ≡ written buffer (operation_place head k) (flat_map operation_bytes (recorded_from k))
    operation-written head buffer last p place e at room f =
        let x : Operation = with_width (width s (entry_form n os (n + k))) o in
        let same : with_width (width s (operation_row table n p)) p ≡ x =
        ap (λ (q : Operation). with_width (width s (operation_row table n q)) q) e ∙ ap (λ (cs : List ℤ). with_width (width s cs) o) row_form in
        let is : last ≡ operation_bytes x ++ drop operation_length (take (length buffer - place) (drop place buffer)) =
        f ∙ ap (λ (q : Operation). operation_bytes q ++ drop operation_length (take (length buffer - place) (drop place buffer))) same in
        let both = part_next operation_bytes operation_length length-operation buffer last place (operation_place head (suc k)) x (recorded_from (suc k)) (omega arith)
        (omega (arith, length-recorded (suc k) h)) is in
        both.1 ∙ ap₂ (λ (j : ℕ) (l : List Operation). written buffer j (flat_map operation_bytes l)) at (sym (recorded_next k h))

-- ---- depths, whatever the sample width

module _ (n : ℕ) (os : List Operation) (w : EarlierOperations n os) (table : List ℕ) (k : ℕ) (h : k < length os) (H : HoldsDepths n (take k os) table) where
  up_to_next : take k os ++ (get_or os k no_operation ∷ []) ≡ take (suc k) os
  up_to_next = sym (take-suc os k no_operation h)

  length_front : length (take k os) ≡ k
  length_front = length-take-le k os (omega arith)

  first_earlier : (get_or os k no_operation).a < n + length (take k os)
  first_earlier = omega (arith, length_front, w.first_earlier k h)

  second_earlier : (get_or os k no_operation).b < n + length (take k os)
  second_earlier = omega (arith, length_front, w.second_earlier k h)

  pub earlier_depths : (get_or table (get_or os k no_operation).a 0 < 65535) × (get_or table (get_or os k no_operation).b 0 < 65535)
  earlier_depths = operands_fit n (take k os) table H (get_or os k no_operation) first_earlier second_earlier (omega (arith, length_front, w.few))

  pub depths_next : HoldsDepths n (take (suc k) os) (set table (n + k) (operation_depth table (get_or os k no_operation)))
  depths_next =
      let o : Operation = get_or os k no_operation in
      rw (← up_to_next)
      (subst (λ (j : ℕ). HoldsDepths n (take k os ++ (o ∷ [])) (set table (n + j) (operation_depth table o))) length_front
      (depths_appended n (take k os) table H o first_earlier second_earlier (omega (arith, length_front, w.few, w.inputs))))

  pub depth_next : max (depth n (take k os)) (operation_depth table (get_or os k no_operation)) ≡ depth n (take (suc k) os)
  depth_next =
      let o : Operation = get_or os k no_operation in
      ap (max (depth n (take k os))) (operation-depth_at n (take k os) table H o first_earlier second_earlier) ∙ sym (depth_snoc n (take k os) o) ∙ ap (depth n) up_to_next

-- ---- outputs

-- behind a head of any length and so many operations
module _ (head : ℕ) (f : Output → Output) (outputs : List Output) (operations i : ℕ) where
  pub output-written : i < length outputs → (buffer last : List ℕ) (o : Output) (place : ℕ) → o ≡ get_or outputs i no_output → place ≡ output_place head operations i
      → output_place head operations (length outputs) ≤ length buffer
      → last ≡ output_bytes (f o) ++ drop output_length (take (length buffer - place) (drop place buffer))
      → written (put_mid place (length buffer - place) buffer last) (output_place head operations (suc i)) (flat_map output_bytes (map f (drop (suc i) outputs)))
      ≡ written buffer (output_place head operations i) (flat_map output_bytes (map f (drop i outputs)))
  output-written h buffer last o place e at room g =
      let both = part_next output_bytes output_length length-output buffer last place (output_place head operations (suc i)) (f o) (map f (drop (suc i) outputs)) (omega arith)
      (omega (arith, length-map (drop (suc i) outputs) f, length-drop (suc i) outputs)) g in
      both.1
      ∙ ap₂ (λ (j : ℕ) (p : Output). written buffer j (flat_map output_bytes (f p ∷ map f (drop (suc i) outputs)))) at e
      ∙ ap (λ (l : List Output). written buffer (output_place head operations i) (flat_map output_bytes (map f l))) (sym (drop-cons outputs i no_output h))

  pub outputs-written : length outputs ≤ i → (buffer : List ℕ) → buffer ≡ written buffer (output_place head operations i) (flat_map output_bytes (map f (drop i outputs)))
  outputs-written h buffer =
      records_none output_bytes output_length length-output buffer (output_place head operations i) (map f (drop i outputs)) (ap (map f) (drop_of_length-le outputs {i = i} h))

-- an output's width in a table that holds the forms is its width among the operations
module _ (s n : ℕ) (os : List Operation) (table : List ℤ) (H : HoldsForms n os table) (bits : SampleWidth s) (w : Writable (compiled_limits s) n os) (outputs : List Output)
    (later : EarlierOutputs (compiled_limits s) n os outputs) where
  pub outputs_writable : WritableOutputs s table n outputs
  outputs_writable = record {
    inputs = w.inputs;
    symbol = λ i h. omega (arith, (later i h).symbol, w.few, w.inputs);
    shift = λ i h. omega (arith, (later i h).shift);
    range = λ i h. output-row-range-small s (max_compiled_width s) max_shift n os table H (omega (arith, bits.most)) (get_or outputs i no_output) (later i h).symbol (w.narrow (get_or outputs i no_output).symbol (later i h).symbol) (omega (arith, (later i h).shift)) (compiled-shifted bits);
  }

same_map : {A B : Type 0} (f g : A → B) (d : A) (l : List A) → ((i : ℕ) → i < length l → f (get_or l i d) ≡ g (get_or l i d)) → map f l ≡ map g l
same_map f g d [] e = refl
same_map f g d (x ∷ l) e = ap₂ ◌∷◌ (e 0 (omega arith)) (same_map f g d l (λ i h. e (suc i) (omega arith)))

pub table-widths : (s n : ℕ) (os : List Operation) (table : List ℤ) → HoldsForms n os table → (outputs : List Output) → EarlierOutputs (compiled_limits s) n os outputs
    → map (with_table_width s n table) outputs ≡ map (output_with_width s n os) outputs
table-widths s n os table H outputs later = same_map (with_table_width s n table) (output_with_width s n os) no_output outputs
    (λ i h.
    let o : Output = get_or outputs i no_output in
    ap (λ (cs : List ℤ). record { sign = o.sign; symbol = o.symbol; shift = o.shift; width = width s cs }) (output-row-is n os table H o (later i h).symbol))

-- ---- the whole netlist

module _ (net : Netlist) (buffer : List ℕ) where
  abbrev head : ℕ
  head = head_length_of net.head.width

  abbrev operation_records : List ℕ
  operation_records = flat_map operation_bytes net.operations

  abbrev output_records : List ℕ
  output_records = flat_map output_bytes net.outputs

  netlist-bytes : ((head_bytes net.head ++ operation_records) ++ output_records) ++ totals_bytes net.totals ≡ netlist_bytes net
  unfolding netlist_bytes
  netlist-bytes =
      append_assoc (head_bytes net.head ++ operation_records) output_records (totals_bytes net.totals)
      ∙ append_assoc (head_bytes net.head) operation_records (output_records ++ totals_bytes net.totals)

  -- head, operations, outputs, totals, one after another
  pub netlist-written : (after-head after-operations after-outputs last : List ℕ) (place end : ℕ)
      → place ≡ operation_place head (length net.operations) → end ≡ output_place head (length net.operations) (length net.outputs)
      → end + totals_length ≤ length buffer
      → after-head ≡ head_bytes net.head ++ drop head buffer
      → after-operations ≡ written after-head head operation_records
      → after-outputs ≡ written after-operations place output_records
      → last ≡ totals_bytes net.totals ++ drop totals_length (take (length after-outputs - end) (drop end after-outputs))
      → put_mid end (length after-outputs - end) after-outputs last ≡ written buffer 0 (netlist_bytes net)
  netlist-written after-head after-operations after-outputs last place end p q room a b c d =
      let H : List ℕ = head_bytes net.head in
      let T : List ℕ = totals_bytes net.totals in
      let lh : length H ≡ head = length-head net.head in
      let lo : length operation_records ≡ operation_length * length net.operations = length_records operation_bytes operation_length length-operation net.operations in
      let lu : length output_records ≡ output_length * length net.outputs = length_records output_bytes output_length length-output net.outputs in
      let lt : length T ≡ totals_length = length-totals net.totals in
      let one : after-head ≡ written buffer 0 H = a ∙ written_start buffer H head lh in
      let lho : length (H ++ operation_records) ≡ place = length-append H operation_records ∙ omega arith in
      let lhou : length ((H ++ operation_records) ++ output_records) ≡ end = length-append (H ++ operation_records) output_records ∙ omega arith in
      let two : after-operations ≡ written buffer 0 (H ++ operation_records) =
      b ∙ ap (λ (l : List ℕ). written l head operation_records) one ∙ written_after buffer 0 H operation_records head (omega arith) (omega arith) in
      let three : after-outputs ≡ written buffer 0 ((H ++ operation_records) ++ output_records) =
      c ∙ ap (λ (l : List ℕ). written l place output_records) two ∙ written_after buffer 0 (H ++ operation_records) output_records place (omega arith) (omega arith) in
      let size : length after-outputs ≡ length buffer = ap length three ∙ length-written buffer 0 ((H ++ operation_records) ++ output_records) (omega arith) in
      written_part after-outputs end T last totals_length lt (omega arith) d
      ∙ ap (λ (l : List ℕ). written l end T) three
      ∙ written_after buffer 0 ((H ++ operation_records) ++ output_records) T end (omega arith) (omega arith)
      ∙ ap (written buffer 0) netlist-bytes
