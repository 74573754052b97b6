-- Check returns the number and the place of the first of its tests that fails.
-- Assumes nothing.
use Prim.Native.Nat.{ℕ, zero, suc, ◌+◌, ◌<◌, ◌≤◌}
use mathlib.Core.Path.{◌≡◌, refl, sym, ◌∙◌, ap}
use mathlib.Core.Bool.{Bool, true, false, ◌&&◌, true≢false}
use mathlib.Core.Logic.{◌↔◌, inl, inr}
use mathlib.Core.List.{List, [], ◌∷◌, ◌++◌, map}
use native.Mathlib.Omega.{arith}
use lib.Dec.{eqb}
use lib.IntN.{ℤ, pos}
use lib.ListN.{length, get_or, drop, drop_of_length-le}
use lib.Seq.{drop-cons}
use Rattle.layout_rules.specs.declared.Output.{Output}
use Rattle.layout_rules.specs.Matrix.{rows, columns, matrix_refusal, matrix}
use Rattle.layout_rules.specs.Records.{Netlist}
use Rattle.layout_rules.specs.Places.{output_at, operations_in, netlist_in}
use Rattle.layout_rules.specs.Tests.{Test, tested, AllPass, FirstFails, first_tests, matrix_tests}
use Rattle.layout_rules.proofs.FirstRecords.{length-first}
use Rattle.layout_rules.proofs.MatrixRows.{matrix-length, matrix-row-length}
use Rattle.layout_rules.proofs.MatrixTests.{matrix-refused}
use Rattle.layout_rules.proofs.TestLaws.{Decided, all_append, fails_after, fails_among, behind-refusal, behind_test, declined_first, passed_all}
use Rattle.board_rules.specs.Machine.{machine, output_value, output_form}
use Rattle.netlist_rules.specs.Read.{refused, accepted, read_netlist}
use Rattle.netlist_rules.specs.Check.{checked, same_row, rows_answer, match_answer, check_answer}
use Rattle.netlist_rules.specs.Run.{netlist_outputs}
use Rattle.netlist_rules.specs.Exact.{SameSize, ComputesRow}
use Rattle.netlist_rules.specs.Tests.{read_tests, row_tests, check_tests}
use Rattle.netlist_rules.specs.declared.CheckAnswer.{CheckAnswer}
use Rattle.netlist_rules.proofs.ReadingLaws.{behind_reading}
use Rattle.netlist_rules.proofs.Conditions.{and_says, same_says}
use Rattle.netlist_rules.proofs.ReadTests.{read_decided, width-passes}
use Rattle.netlist_rules.proofs.Coefficients.{row_says}

-- ---- 14: row by row

pub get_d_map : {A B : Type 0} (f : A → B) (xs : List A) (i : ℕ) (d : A) (e : B) → i < length xs → get_or (map f xs) i e ≡ f (get_or xs i d)
get_d_map f [] i d e h = absurd (omega arith)
get_d_map f (x ∷ xs) zero d e h = refl
get_d_map f (x ∷ xs) (suc i) d e h = get_d_map f xs i d e (omega arith)

module _ (net : Netlist) (enough : 2 ≤ net.head.width) (rs : List (List ℤ)) (m : ℕ) (outputs-count : length net.outputs ≡ m) (rows-count : length rs ≡ m)
    (row-length : (i : ℕ) → i < m → length (get_or rs i []) ≡ net.head.n) where
  -- any output, for places past the end
  none : Output
  none = record { sign = 0; symbol = 0; shift = 0; width = 0 }

  abbrev output_form_at : ℕ → List ℤ
  output_form_at i = output_form net.head.n net.operations (get_or net.outputs i none)

  row-computes : (i : ℕ) → i < m → (same_row (output_form_at i) (get_or rs i []) ≡ true) ↔ ComputesRow net rs i
  row-computes i h =
      let o = get_or net.outputs i none in
      let says = row_says net.head.width net.head.n enough net.operations o (get_or rs i []) (row-length i h) in
      let value : (xs : List ℤ) → get_or (netlist_outputs net xs) i (pos 0) ≡ output_value (machine xs net.operations) o =
      (λ xs. get_d_map (output_value (machine xs net.operations)) net.outputs i none (pos 0) (omega arith)) in
      (λ e xs s. value xs ∙ says.0 e xs s, λ c. says.1 (λ xs s. sym (value xs) ∙ c xs s))

  abbrev from_row : ℕ → CheckAnswer
  from_row j = rows_answer net.head.n net.operations j (drop j net.outputs) (drop j rs)

  row-due : (j : ℕ) → j < m → from_row j ≡ elim (same_row (output_form_at j) (get_or rs j [])) [ true ↦ from_row (suc j) | false ↦ checked 14 j ]
  unfolding rows_answer
  row-due j h = rw (drop-cons net.outputs j none (omega arith), drop-cons rs j [] (omega arith))

  no_row-due : (j : ℕ) → m ≤ j → from_row j ≡ checked 0 0
  unfolding rows_answer
  no_row-due j h = rw (drop_of_length-le net.outputs {i = j} (omega arith))

  abbrev tests : ℕ → List Test
  tests = row_tests net rs

  from-row_decided : (k j : ℕ) → j + k ≡ m → AllPass (first_tests tests j) → Decided (first_tests tests (j + k)) (from_row j) (checked 0 0) checked
  unfolding first_tests
  from-row_decided zero j e a = let same : j + 0 ≡ j = omega arith in rw same (inl (no_row-due j (omega arith), a))
  from-row_decided (suc k) j e a = go (same_row (output_form_at j) (get_or rs j [])) refl (from-row_decided k (suc j) (omega arith))
    where
      Result : Type 0
      Result = Decided (first_tests tests (j + suc k)) (from_row j) (checked 0 0) checked

      further : suc j + k ≡ j + suc k
      further = omega arith

      within : j < m
      within = omega arith

      go : (t : Bool) → same_row (output_form_at j) (get_or rs j []) ≡ t
          → (AllPass (first_tests tests (suc j)) → Decided (first_tests tests (suc j + k)) (from_row (suc j)) (checked 0 0) checked)
          → Result
      go true s more =
          let next : from_row j ≡ from_row (suc j) = row-due j within ∙ ap (λ t. elim t [ true ↦ from_row (suc j) | false ↦ checked 14 j ]) s in
          rw (next, ← further) (more (all_append (first_tests tests j) (tests j) a ((row-computes j within).0 s, tt)))
      go false s more =
          let stop : from_row j ≡ checked 14 j = row-due j within ∙ ap (λ t. elim t [ true ↦ from_row (suc j) | false ↦ checked 14 j ]) s in
          let differs : ComputesRow net rs j → ⊥ = (λ c. true≢false (sym ((row-computes j within).1 c) ∙ s)) in
          inr (14, j, omega arith, stop, rw (← further) (fails_among 14 j tests (suc j) k (fails_after 14 j (first_tests tests j) (tests j) a (inl (differs, refl, refl)))))

  rows_decided : Decided (first_tests tests m) (rows_answer net.head.n net.operations 0 net.outputs rs) (checked 0 0) checked
  unfolding first_tests
  rows_decided = let same : 0 + m ≡ m = omega arith in rw same at (from-row_decided m 0 same tt)

-- ---- the whole answer

module _ (mb nb : List ℕ) where
  abbrev net : Netlist
  net = netlist_in nb

  sizes_say : ((eqb (rows mb) net.head.m && eqb (columns mb) net.head.n) ≡ true) ↔ SameSize mb net.head
  sizes_say =
      let all = and_says (eqb (rows mb) net.head.m) (eqb (columns mb) net.head.n) (same_says (rows mb) net.head.m) (same_says (columns mb) net.head.n) in (
        λ e. let p = all.0 e in record { same_rows = p.0; same-columns = p.1 },
        λ r. all.1 (r.same_rows, r.same-columns),
      )

  match_decided : AllPass (read_tests nb) → Decided (tested 13 0 (SameSize mb net.head) ∷ first_tests (row_tests net (matrix mb)) net.head.m) (match_answer mb net) (checked 0 0) checked
  unfolding match_answer
  match_decided read =
      behind_test (first_tests (row_tests net (matrix mb)) net.head.m) (eqb (rows mb) net.head.m && eqb (columns mb) net.head.n) (SameSize mb net.head) 13 0
      (rows_answer net.head.n net.operations 0 net.outputs (matrix mb)) (checked 0 0) checked (omega arith) sizes_say
      (λ same. rows_decided net (omega (arith, (width-passes nb read).least)) (matrix mb) net.head.m
      (length-first (output_at nb (length (operations_in nb))) net.head.m)
      (matrix-length mb ∙ same.same_rows)
      (λ i h. matrix-row-length mb i (omega (arith, same.same_rows)) ∙ same.same-columns))

  pub check_decided : Decided (check_tests mb nb) (check_answer mb nb) (checked 0 0) checked
  unfolding check_tests check_answer
  check_decided =
      let sizes_and-rows = tested 13 0 (SameSize mb net.head) ∷ first_tests (row_tests net (matrix mb)) net.head.m in
      behind-refusal (matrix_tests mb) (read_tests nb ++ sizes_and-rows) (matrix_refusal mb) 0
      (elim (read_netlist nb) [ refused r place ↦ checked r place | accepted x ↦ match_answer mb x ]) (checked 0 0) checked (matrix-refused mb)
      (behind_reading (read_tests nb) sizes_and-rows (read_netlist nb) net (match_answer mb) (checked 0 0) checked (read_decided nb) match_decided)

  other_number : (r place : ℕ) → 0 < r → checked 0 0 ≡ checked r place → ⊥
  other_number r place h e = omega (arith, ap (λ (a : CheckAnswer). a.refusal) e)

  -- a refusal is that of the first test that fails
  pub check_refuses : (r place : ℕ) → 0 < r → (check_answer mb nb ≡ checked r place) ↔ FirstFails (check_tests mb nb) r place
  check_refuses r place h =
      declined_first (check_tests mb nb) (check_answer mb nb) (checked 0 0) checked check_decided
      (λ r p s q e. (ap (λ (a : CheckAnswer). a.refusal) e, ap (λ (a : CheckAnswer). a.place) e)) r place (other_number r place h)

  -- an answer without a refusal says that all pass
  pub check_passes : (check_answer mb nb ≡ checked 0 0) ↔ AllPass (check_tests mb nb)
  check_passes = passed_all (check_tests mb nb) (check_answer mb nb) (checked 0 0) checked check_decided other_number
