-- Check accepts if and only if the bytes are those of a netlist that computes the matrix, and 14 names the lowest row that it does not.
-- Assumes nothing.
use Prim.Native.Nat.{ℕ, zero, suc, ◌+◌, ◌-◌, ◌<◌}
use mathlib.Core.Path.{◌≡◌, refl, sym, ◌∙◌, ap, subst}
use mathlib.Core.Logic.{◌↔◌, ◌⊎◌, inl, inr}
use mathlib.Core.List.{List, [], ◌∷◌, ◌++◌, map}
use native.Mathlib.Omega.{arith}
use lib.IntN.{ℤ, pos}
use lib.ListN.{length, get_or, length-map}
use lib.Seq.{ext_get_or}
use Rattle.layout_rules.specs.Matrix.{matrix_refusal, matrix}
use Rattle.layout_rules.specs.Records.{Netlist}
use Rattle.layout_rules.specs.Places.{head_at, operations_in, totals_place_in, netlist_in}
use Rattle.layout_rules.specs.Tests.{Test, tested, AllPass, FirstFails, first_tests, matrix_tests}
use Rattle.layout_rules.proofs.LittleEndian.{AreBytes}
use Rattle.layout_rules.proofs.MatrixRows.{matrix-length}
use Rattle.layout_rules.proofs.MatrixTests.{matrix-refused, matrix_numbers}
use Rattle.layout_rules.proofs.TestLaws.{RefusedBy, NumbersBelow, numbers_append, numbers_first, number-below, all_append, all_split, first-all, all_first, fails_split, fails_after, fails_not-all, fails_among}
use Rattle.board_rules.specs.Machine.{machine, output_value, times}
use Rattle.netlist_rules.specs.Read.{accepted}
use Rattle.netlist_rules.specs.Check.{checked, check_answer}
use Rattle.netlist_rules.specs.Run.{netlist_outputs}
use Rattle.netlist_rules.specs.Exact.{IsNetlistBytes, Computes, ComputesRow, SameSize, IsNetlistOf, LowestRow}
use Rattle.netlist_rules.specs.Tests.{head_tests, operation_tests, output_tests, totals_tests, read_tests, row_tests, check_tests}
use Rattle.netlist_rules.proofs.ReadTests.{reading_accepted, reading_netlist}
use Rattle.netlist_rules.proofs.ReadAccepts.{all_pass_netlist, reading_of}
use Rattle.netlist_rules.proofs.CheckTests.{get_d_map, check_refuses, check_passes}

-- ---- all rows together

module _ (net : Netlist) (rs : List (List ℤ)) (m : ℕ) (outputs-count : length net.outputs ≡ m) (rows-count : length rs ≡ m) where
  row_at : (xs : List ℤ) (i : ℕ) → i < m → get_or (map (λ row. times row xs) rs) i (pos 0) ≡ times (get_or rs i []) xs
  row_at xs i h = get_d_map (λ row. times row xs) rs i [] (pos 0) (omega arith)

  rows-computed : ((i : ℕ) → i < m → ComputesRow net rs i) → Computes net rs
  rows-computed each xs s =
      ext_get_or (pos 0) (netlist_outputs net xs) (map (λ row. times row xs) rs)
      (length-map net.outputs (output_value (machine xs net.operations)) ∙ outputs-count ∙ sym rows-count ∙ sym (length-map rs (λ row. times row xs)))
      (λ i h.
      let l : i < m = omega (arith, length-map net.outputs (output_value (machine xs net.operations))) in
      each i l xs s ∙ sym (row_at xs i l))

  row-computed : Computes net rs → (i : ℕ) → i < m → ComputesRow net rs i
  row-computed all i h xs s = ap (λ l. get_or l i (pos 0)) (all xs s) ∙ row_at xs i h

-- ---- the matrix record and the netlist pass

within-passes : (mb : List ℕ) → (matrix_refusal mb ≡ 0) ↔ AllPass (matrix_tests mb)
within-passes mb = (there (matrix-refused mb), back (matrix-refused mb))
  where
    there : RefusedBy (matrix_tests mb) (matrix_refusal mb) 0 → matrix_refusal mb ≡ 0 → AllPass (matrix_tests mb)
    there (inl a) e = a.1
    there (inr f) e = absurd (omega (arith, f.0))

    back : RefusedBy (matrix_tests mb) (matrix_refusal mb) 0 → AllPass (matrix_tests mb) → matrix_refusal mb ≡ 0
    back (inl a) g = a.0
    back (inr f) g = absurd (fails_not-all (matrix_refusal mb) 0 (matrix_tests mb) f.1 g)

netlist-is : (nb : List ℕ) (net : Netlist) → IsNetlistBytes nb net → netlist_in nb ≡ net
netlist-is nb net is = reading_netlist nb net (reading_of nb net is)

read-all_pass : (nb : List ℕ) (net : Netlist) → IsNetlistBytes nb net → AllPass (read_tests nb)
read-all_pass nb net is = (reading_accepted nb).0 (reading_of nb net is ∙ ap accepted (sym (netlist-is nb net is)))

-- ---- check accepts

module _ (mb nb : List ℕ) where
  abbrev tests : List Test
  tests = first_tests (row_tests (netlist_in nb) (matrix mb)) (head_at nb).m

  abbrev last : List Test
  last = tested 13 0 (SameSize mb (head_at nb)) ∷ tests

  -- the netlist that check reads is the only one
  accepts_back : (net : Netlist) → IsNetlistOf mb nb net → AllPass (check_tests mb nb)
  unfolding check_tests
  accepts_back net given =
      let is : IsNetlistOf mb nb (netlist_in nb) = subst (IsNetlistOf mb nb) (sym (netlist-is nb net given.netlist)) given in
      let rs = matrix mb in
      all_append (matrix_tests mb) (read_tests nb ++ last) ((within-passes mb).0 is.within-limits)
      (all_append (read_tests nb) last (read-all_pass nb (netlist_in nb) is.netlist) (
        is.size,
        first-all (row_tests (netlist_in nb) rs) (head_at nb).m (λ i h. (
          row-computed (netlist_in nb) rs (head_at nb).m is.netlist.netlist.one_per_row (matrix-length mb ∙ is.size.same_rows) is.computes i h,
          tt,
        )),
      ))

  pub netlist-checked : (net : Netlist) → IsNetlistOf mb nb net → check_answer mb nb ≡ checked 0 0
  netlist-checked net is = (check_passes mb nb).1 (accepts_back net is)

  module _ (all : AreBytes nb) where
    accepts-there : AllPass (check_tests mb nb) → (net : Netlist) × IsNetlistOf mb nb net
    unfolding check_tests
    accepts-there a =
        let x = all_split (matrix_tests mb) (read_tests nb ++ last) a in
        let y = all_split (read_tests nb) last x.1 in
        let is = all_pass_netlist nb all y.0 in
        let net = netlist_in nb in (
          net,
          record {
            within-limits = (within-passes mb).1 x.0;
            netlist = is;
            size = y.1.0;
            computes = rows-computed net (matrix mb) net.head.m is.netlist.one_per_row (matrix-length mb ∙ y.1.0.same_rows)
                (λ i h. (all_first (row_tests net (matrix mb)) net.head.m y.1.1 i h).0);
          },
        )

    -- check accepts if and only if the matrix record is within the limits, the netlist is one, sizes agree, and for every vector of samples
    -- the board machine's outputs are row times vector
    pub check_accepts : (check_answer mb nb ≡ checked 0 0) ↔ ((net : Netlist) × IsNetlistOf mb nb net)
    check_accepts = (λ e. accepts-there ((check_passes mb nb).0 e), λ is. netlist-checked is.0 is.1)

-- ---- the lowest row that differs

-- among rows from 0 on, the first that fails has those below it pass
row_fails : (net : Netlist) (rs : List (List ℤ)) (m r p : ℕ) → FirstFails (first_tests (row_tests net rs) m) r p
    → (p < m) × ((i : ℕ) → i < p → ComputesRow net rs i) × (ComputesRow net rs p → ⊥)
unfolding first_tests
row_fails net rs zero r p f = absurd f
row_fails net rs (suc m) r p f = go (fails_split r p (first_tests (row_tests net rs) m) (row_tests net rs m) f) (row_fails net rs m r p)
  where
    Result : Type 0
    Result = (p < suc m) × ((i : ℕ) → i < p → ComputesRow net rs i) × (ComputesRow net rs p → ⊥)

    go : FirstFails (first_tests (row_tests net rs) m) r p ⊎ (AllPass (first_tests (row_tests net rs) m) × FirstFails (row_tests net rs m) r p)
        → (FirstFails (first_tests (row_tests net rs) m) r p → (p < m) × ((i : ℕ) → i < p → ComputesRow net rs i) × (ComputesRow net rs p → ⊥))
        → Result
    go (inl g) earlier = let e = earlier g in (omega (arith, e.0), e.1, e.2)
    go (inr g) earlier = last_row g.1
      where
        last_row : FirstFails (row_tests net rs m) r p → Result
        last_row (inl d) = (
          omega (arith, d.2),
          λ i h. (all_first (row_tests net rs) m g.0 i (omega (arith, d.2))).0,
          λ c. d.0 (subst (ComputesRow net rs) d.2 c),
        )
        last_row (inr d) = absurd d.1

fails_at_row : (net : Netlist) (rs : List (List ℤ)) (m p : ℕ) → p < m → ((i : ℕ) → i < p → ComputesRow net rs i) → (ComputesRow net rs p → ⊥)
    → FirstFails (first_tests (row_tests net rs) m) 14 p
unfolding first_tests
fails_at_row net rs m p h below differs =
    let ts = row_tests net rs in
    let at_last : FirstFails (first_tests ts (suc p)) 14 p = fails_after 14 p (first_tests ts p) (ts p) (first-all ts p (λ i l. (below i l, tt))) (inl (differs, refl, refl)) in
    let more : suc p + (m - suc p) ≡ m = omega arith in
    rw more at (fails_among 14 p ts (suc p) (m - suc p) at_last)

read_numbers : (b : List ℕ) → NumbersBelow 13 (read_tests b)
unfolding read_tests
read_numbers b =
    let h = head_at b in
    let os = operations_in b in
    let operations = first_tests (operation_tests b h.width h.n) h.operations in
    let outputs = first_tests (output_tests b h.width h.n os) h.m in
    let totals = totals_tests b (totals_place_in b) h os in
    numbers_append 13 (head_tests b) (operations ++ (outputs ++ totals)) (omega arith)
    (numbers_append 13 operations (outputs ++ totals) (numbers_first 13 (operation_tests b h.width h.n) h.operations (λ i. omega arith))
    (numbers_append 13 outputs totals (numbers_first 13 (output_tests b h.width h.n os) h.m (λ i. omega arith)) (omega arith)))

module _ (mb nb : List ℕ) (all : AreBytes nb) (row : ℕ) where
  lowest-there : FirstFails (check_tests mb nb) 14 row → (net : Netlist) × LowestRow mb nb net row
  unfolding check_tests
  lowest-there f = in_matrix (fails_split 14 row (matrix_tests mb) (read_tests nb ++ last mb nb) f)
    where
      Result : Type 0
      Result = (net : Netlist) × LowestRow mb nb net row

      in_sizes : AllPass (matrix_tests mb) → AllPass (read_tests nb) → FirstFails (last mb nb) 14 row → Result
      in_sizes x y (inl d) = absurd (omega (arith, d.1))
      in_sizes x y (inr d) =
          let lowest = row_fails (netlist_in nb) (matrix mb) (head_at nb).m 14 row d.1 in (
            netlist_in nb,
            record {
              within-limits = (within-passes mb).1 x;
              netlist = all_pass_netlist nb all y;
              size = d.0;
              among = lowest.0;
              below = lowest.1;
              differs = lowest.2;
            },
          )

      in_netlist : AllPass (matrix_tests mb) → FirstFails (read_tests nb) 14 row ⊎ (AllPass (read_tests nb) × FirstFails (last mb nb) 14 row) → Result
      in_netlist x (inl g) = absurd (omega (arith, number-below 13 14 row (read_tests nb) (read_numbers nb) g))
      in_netlist x (inr g) = in_sizes x g.0 g.1

      in_matrix : FirstFails (matrix_tests mb) 14 row ⊎ (AllPass (matrix_tests mb) × FirstFails (read_tests nb ++ last mb nb) 14 row) → Result
      in_matrix (inl g) = absurd (omega (arith, number-below 6 14 row (matrix_tests mb) (matrix_numbers mb) g))
      in_matrix (inr g) = in_netlist g.0 (fails_split 14 row (read_tests nb) (last mb nb) g.1)

  lowest_back : (net : Netlist) → LowestRow mb nb net row → FirstFails (check_tests mb nb) 14 row
  unfolding check_tests
  lowest_back net given =
      let is : LowestRow mb nb (netlist_in nb) row = subst (λ x. LowestRow mb nb x row) (sym (netlist-is nb net given.netlist)) given in
      fails_after 14 row (matrix_tests mb) (read_tests nb ++ last mb nb) ((within-passes mb).0 is.within-limits)
      (fails_after 14 row (read_tests nb) (last mb nb) (read-all_pass nb (netlist_in nb) is.netlist)
      (inr (is.size, fails_at_row (netlist_in nb) (matrix mb) (head_at nb).m row is.among is.below is.differs)))

  -- 14 names the lowest row that differs
  pub check_lowest-row : (check_answer mb nb ≡ checked 14 row) ↔ ((net : Netlist) × LowestRow mb nb net row)
  check_lowest-row = (λ e. lowest-there ((check_refuses mb nb 14 row (omega arith)).0 e), λ is. (check_refuses mb nb 14 row (omega arith)).1 (lowest_back is.0 is.1))
