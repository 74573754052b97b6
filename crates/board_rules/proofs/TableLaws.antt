-- Tables: a row that is written holds what was written and leaves the others, so that the coefficients, values and depths in a table
-- are the netlist's after each operation.
-- Assumes nothing.
use Prim.Native.Nat.{ℕ, zero, suc, ◌+◌, ◌*◌, ◌≤◌, ◌<◌, max}
use mathlib.Core.Path.{◌≡◌, refl, sym, ap, ap₂, ◌∙◌}
use mathlib.Core.List.{List, [], ◌∷◌, ◌++◌}
use native.Mathlib.Omega.{arith}
use native.Mathlib.Decide.{dec_lt, ℕ_discrete}
use lib.IntN.{ℤ, pos}
use lib.ListN.{length, get_or, set, take, drop, replicate, length-set, length-append, length-replicate}
use lib.Seq.{sets, length-sets, drop-cons, get_or-set_same, get_or-set_other, get_or-take, take-suc-set}
pub use Rattle.arrays.proofs.FilledLaws.{length-filled, take-filled}
use Rattle.limits.specs.Limits.{max_columns, max_operations, max_symbols}
use Rattle.layout_rules.specs.declared.Operation.{Operation}
use Rattle.layout_rules.specs.declared.Output.{Output}
use Rattle.board_rules.specs.Machine.{entry_at, operation_value, machine, operation_depth, depths, output_value, unit, entry_form, output_form}
use Rattle.board_rules.specs.Table.{forms_length, filled, table_coefficient, row, operation_coefficient, operation_row, output_row, form_appended, unit_rows_from, forms_started, HoldsForms, value_appended, HoldsDepths}
use Rattle.board_rules.proofs.MachineLaws.{machine_snoc, machine_keeps_after, machine-last, operation-same}
use Rattle.board_rules.proofs.FormLaws.{length-unit, unit_other, entry_columns, output-columns, length-columns, columns_at, columns-same}
use Rattle.board_rules.proofs.DepthLaws.{depths_snoc, depths_at_most}

-- ---- numbers written one after another

module _ {A : Type 0} (d : A) where
  pub sets_below : (vs l : List A) (i k : ℕ) → k < i → get_or (sets l i vs) k d ≡ get_or l k d
  sets_below [] l i k h = refl
  sets_below (v ∷ vs) l i k h = sets_below vs (set l i v) (suc i) k (omega arith) ∙ get_or-set_other l i k v d (λ e. omega arith)

  pub sets_above : (vs l : List A) (i k : ℕ) → i + length vs ≤ k → get_or (sets l i vs) k d ≡ get_or l k d
  sets_above [] l i k h = refl
  sets_above (v ∷ vs) l i k h = sets_above vs (set l i v) (suc i) k (omega arith) ∙ get_or-set_other l i k v d (λ e. omega arith)

  pub sets_inside : (vs l : List A) (i j : ℕ) → j < length vs → i + length vs ≤ length l → get_or (sets l i vs) (i + j) d ≡ get_or vs j d
  sets_inside [] l i j h k = absurd (omega arith)
  sets_inside (v ∷ vs) l i zero h k =
      let e : i + 0 ≡ i = omega arith in
      rw e (sets_below vs (set l i v) (suc i) i (omega arith) ∙ get_or-set_same l i v d (omega arith))
  sets_inside (v ∷ vs) l i (suc j) h k =
      let e : i + suc j ≡ suc i + j = omega arith in
      rw e (sets_inside vs (set l i v) (suc i) j (omega arith) (omega (arith, length-set l i v)))

  -- one number of those that are left
  pub sets_next : (vs l : List A) (i j : ℕ) (v : A) → j < length vs → v ≡ get_or vs j d
      → sets (set l (i + j) v) (i + suc j) (drop (suc j) vs) ≡ sets l (i + j) (drop j vs)
  sets_next vs l i j v h e =
      let a : i + suc j ≡ suc (i + j) = omega arith in
      rw (drop-cons vs j d h, a, e) refl

  -- and none
  pub sets_none : (vs l : List A) (i j : ℕ) → length vs ≤ j → sets l i (drop j vs) ≡ l
  sets_none [] l i zero h = refl
  sets_none [] l i (suc j) h = refl
  sets_none (v ∷ vs) l i zero h = absurd (omega arith)
  sets_none (v ∷ vs) l i (suc j) h = sets_none vs l i j (omega arith)

-- ---- the samples' rows

pub length-samples : (n i k : ℕ) (table : List ℤ) → length (unit_rows_from n i k table) ≡ length table
unfolding unit_rows_from
length-samples n i zero table = refl
length-samples n i (suc k) table = length-samples n (suc i) k (sets table (i * max_columns) (unit n i)) ∙ length-sets table (i * max_columns) (unit n i)

samples_keep : (n i k : ℕ) (table : List ℤ) (place : ℕ) → place < i * max_columns → get_or (unit_rows_from n i k table) place (pos 0) ≡ get_or table place (pos 0)
unfolding unit_rows_from
samples_keep n i zero table place h = refl
samples_keep n i (suc k) table place h =
    samples_keep n (suc i) k (sets table (i * max_columns) (unit n i)) place (omega arith) ∙ sets_below (pos 0) (unit n i) table (i * max_columns) place h

samples_hold : (n i k : ℕ) (table : List ℤ) (symbol j : ℕ) → n ≤ max_columns → (i + k) * max_columns ≤ length table → i ≤ symbol → symbol < i + k → j < n
    → table_coefficient (unit_rows_from n i k table) symbol j ≡ get_or (unit n symbol) j (pos 0)
unfolding unit_rows_from
samples_hold n i zero table symbol j l r a b h = absurd (omega arith)
samples_hold n i (suc k) table symbol j l r a b h =
    go (dec_lt i symbol) (λ a'. samples_hold n (suc i) k (sets table (i * max_columns) (unit n i)) symbol j l (omega (arith, length-sets table (i * max_columns) (unit n i))) a' (omega arith) h)
  where
    here : i ≡ symbol → table_coefficient (unit_rows_from n (suc i) k (sets table (i * max_columns) (unit n i))) symbol j ≡ get_or (unit n symbol) j (pos 0)
    here e = rw (← e) (
        samples_keep n (suc i) k (sets table (i * max_columns) (unit n i)) (i * max_columns + j) (omega arith)
        ∙ sets_inside (pos 0) (unit n i) table (i * max_columns) j (omega (arith, length-unit n i)) (omega (arith, length-unit n i))
        )

    go : Dec (i < symbol) → (suc i ≤ symbol → table_coefficient (unit_rows_from n (suc i) k (sets table (i * max_columns) (unit n i))) symbol j ≡ get_or (unit n symbol) j (pos 0))
        → table_coefficient (unit_rows_from n (suc i) k (sets table (i * max_columns) (unit n i))) symbol j ≡ get_or (unit n symbol) j (pos 0)
    go (yes m) later = later m
    go (no m) later = here (omega arith)

-- a sample is 1 on its own unit vector and 0 on the others
unit_turned : (n i j : ℕ) → i < n → j < n → get_or (unit n i) j (pos 0) ≡ get_or (unit n j) i (pos 0)
unit_turned n i j h k = go (ℕ_discrete i j)
  where
    go : Dec (i ≡ j) → get_or (unit n i) j (pos 0) ≡ get_or (unit n j) i (pos 0)
    go (yes e) = rw e refl
    go (no e) = unit_other n i j e ∙ sym (unit_other n j i (λ d. e (sym d)))

-- at the start the table holds the forms of the samples
pub started_holds : (n : ℕ) (table : List ℤ) → n ≤ max_columns → length table ≡ forms_length → HoldsForms n [] (forms_started table n)
unfolding machine
started_holds n table l r = record {
  room = length-samples n 0 n table ∙ r;
  forms = λ symbol j a h. samples_hold n 0 n table symbol j l (omega arith) (omega arith) (omega arith) h ∙ turned symbol j (omega arith) h;
}
  where
    turned : (symbol j : ℕ) → symbol < n → j < n → get_or (unit n symbol) j (pos 0) ≡ get_or (machine (unit n j) []) symbol (pos 0)
    turned symbol j a h = unit_turned n symbol j a h

-- ---- an operation's row

module _ (n : ℕ) (os : List Operation) (table : List ℤ) (H : HoldsForms n os table) where
  -- a symbol's row is the form of its entry, and an output's that of the output
  pub row_is : (symbol : ℕ) → symbol < n + length os → row table n symbol ≡ entry_form n os symbol
  row_is symbol h =
      columns-same 0 n (table_coefficient table symbol) (λ j. entry_at (machine (unit n j) os) symbol) (λ j l. H.forms symbol j h (omega arith))
      ∙ sym (entry_columns n os symbol)

  pub output-row-is : (o : Output) → o.symbol < n + length os → output_row table n o ≡ output_form n os o
  output-row-is o h =
      columns-same 0 n _ (λ j. output_value (machine (unit n j) os) o) (λ j l. rw (H.forms o.symbol j h (omega arith)) refl)
      ∙ sym (output-columns n os o)

  module _ (o : Operation) (ha : o.a < n + length os) (hb : o.b < n + length os) where
    -- a coefficient of an operation is its value on the unit vector
    operation_coefficient_lem : (j : ℕ) → j < n → operation_coefficient table o j ≡ operation_value (machine (unit n j) os) o
    operation_coefficient_lem j h = rw (H.forms o.a j ha h, H.forms o.b j hb h) refl

    pub operation-row-is : operation_row table n o ≡ entry_form n (os ++ (o ∷ [])) (n + length os)
    operation-row-is =
        columns-same 0 n (operation_coefficient table o) (λ j. entry_at (machine (unit n j) (os ++ (o ∷ []))) (n + length os))
        (λ j l. operation_coefficient_lem j (omega arith) ∙ last j)
        ∙ sym (entry_columns n (os ++ (o ∷ [])) (n + length os))
      where
        last : (j : ℕ) → operation_value (machine (unit n j) os) o ≡ entry_at (machine (unit n j) (os ++ (o ∷ []))) (n + length os)
        last j = sym (rw (length-unit n j) at (machine-last (unit n j) os o))

    -- after the operation's row is written the table holds the forms of one operation more
    pub appended_holds : n ≤ max_columns → n + length os < max_symbols → HoldsForms n (os ++ (o ∷ [])) (form_appended table n o (n + length os))
    appended_holds l r = record {
      room = length-sets table (symbol * max_columns) (operation_row table n o) ∙ H.room;
      forms = λ k j a h. go k j (omega (arith, length-append os (o ∷ []))) h (dec_lt k symbol);
    }
      where
        symbol : ℕ
        symbol = n + length os

        go : (k j : ℕ) → k < suc (n + length os) → j < n → Dec (k < n + length os)
            → table_coefficient (form_appended table n o (n + length os)) k j ≡ get_or (machine (unit n j) (os ++ (o ∷ []))) k (pos 0)
        go k j a h (yes b) =
            sets_below (pos 0) (operation_row table n o) table ((n + length os) * max_columns) (k * max_columns + j) (omega arith)
            ∙ H.forms k j b h
            ∙ sym (machine_keeps_after (unit n j) os (o ∷ []) k (rw (length-unit n j) b))
        go k j a h (no b) =
            let e : k ≡ n + length os = omega arith in
            rw e (
            sets_inside (pos 0) (operation_row table n o) table ((n + length os) * max_columns) j
            (omega (arith, length-columns 0 n (operation_coefficient table o)))
            (omega (arith, length-columns 0 n (operation_coefficient table o), H.room))
            ∙ columns_at 0 n (operation_coefficient table o) j h
            ∙ operation_coefficient_lem (0 + j) (omega arith)
            ∙ same j
            )
          where
            same : (j : ℕ) → operation_value (machine (unit n (0 + j)) os) o ≡ get_or (machine (unit n j) (os ++ (o ∷ []))) (n + length os) (pos 0)
            same j =
                let z : 0 + j ≡ j = omega arith in
                rw z (sym (rw (length-unit n j) at (machine-last (unit n j) os o)))

-- ---- values

-- what stands in the front of a table
front_at : {A : Type 0} (d : A) (table : List A) {front : List A} (k : ℕ) → take k table ≡ front → (i : ℕ) → i < k → get_or table i d ≡ get_or front i d
front_at d table k e i h = sym (get_or-take k table i d h) ∙ ap (λ l. get_or l i d) e

-- if the table's front is the machine's list, it is so after one operation more
pub value_appended_lem : (xs : List ℤ) (os : List Operation) (o : Operation) (values : List ℤ) (k : ℕ)
    → take k values ≡ machine xs os → k < length values → o.a < k → o.b < k
    → take (suc k) (value_appended values o k) ≡ machine xs (os ++ (o ∷ []))
value_appended_lem xs os o values k e l ha hb =
    take-suc-set values k (operation_value values o) l
    ∙ ap₂ (λ (v : List ℤ) (z : ℤ). v ++ (z ∷ [])) e (operation-same values (machine xs os) o (front_at (pos 0) values k e o.a ha) (front_at (pos 0) values k e o.b hb))
    ∙ sym (machine_snoc xs os o)

-- ---- depths: before the first operation, and with each one more

pub depths_started : (n : ℕ) (table : List ℕ) → n ≤ max_symbols → table ≡ filled max_symbols 0 → HoldsDepths n [] table
unfolding depths
depths_started n table h e =
    let none : n + 0 ≡ n = omega arith in
    record { room = ap length e ∙ length-filled 0 max_symbols; held = rw (none, e) (take-filled 0 n max_symbols h) }

module _ (n : ℕ) (os : List Operation) (table : List ℕ) (H : HoldsDepths n os table) where
  pub depth_at : (symbol : ℕ) → symbol < n + length os → get_or table symbol 0 ≡ get_or (depths (replicate n 0) os) symbol 0
  depth_at = front_at 0 table (n + length os) H.held

  depth_small : (symbol : ℕ) → symbol < n + length os → get_or table symbol 0 ≤ length os
  depth_small symbol h = omega (arith, depth_at symbol h, depths_at_most n os symbol)

  module _ (o : Operation) (ha : o.a < n + length os) (hb : o.b < n + length os) where
    -- those of an operation's operands leave room for 1 more in 16 bits
    pub operands_fit : length os ≤ max_operations → (get_or table o.a 0 < 65535) × (get_or table o.b 0 < 65535)
    operands_fit few = (omega (arith, depth_small o.a ha), omega (arith, depth_small o.b hb))

    pub operation-depth_at : operation_depth table o ≡ operation_depth (depths (replicate n 0) os) o
    operation-depth_at = ap₂ (λ (x y : ℕ). suc (max x y)) (depth_at o.a ha) (depth_at o.b hb)

    pub depths_appended : n + length os < max_symbols → HoldsDepths n (os ++ (o ∷ [])) (set table (n + length os) (operation_depth table o))
    depths_appended h =
        let next : n + length (os ++ (o ∷ [])) ≡ suc (n + length os) = omega (arith, length-append os (o ∷ [])) in
        record {
          room = length-set table (n + length os) (operation_depth table o) ∙ H.room;
          held =
              ap (λ (k : ℕ). take k (set table (n + length os) (operation_depth table o))) next
              ∙ take-suc-set table (n + length os) (operation_depth table o) (omega (arith, H.room))
              ∙ ap₂ (λ (v : List ℕ) (d : ℕ). v ++ (d ∷ [])) H.held operation-depth_at
              ∙ sym (depths_snoc (replicate n 0) os o);
        }
