-- Clock on bytes: whole samples and others; and the outputs that a list has at most.
-- Assumes nothing.
use Prim.Native.Nat.{ℕ, zero, suc, ◌*◌, ◌/◌, ◌%◌, ◌≤◌, ◌<◌}
use mathlib.Core.Path.{◌≡◌, refl, sym, ap, ◌∙◌}
use mathlib.Core.List.{List, []}
use native.Mathlib.Nat.{mul-le-mul}
use native.Mathlib.Omega.{arith}
use lib.IntN.{ℤ}
use lib.ListN.{length}
use borrow.Author.Tests.{eq-eqb, ne_eqb}
use Rattle.limits.specs.Limits.{max_rows}
use Rattle.layout_rules.specs.Records.{Netlist}
use Rattle.layout_rules.proofs.LittleEndian.{AreBytes}
use Rattle.netlist_rules.specs.declared.RunAnswer.{RunAnswer}
use Rattle.netlist_rules.specs.Read.{refused, accepted, read_netlist, read_answer}
use Rattle.netlist_rules.specs.Run.{ran, fit_answer}
use Rattle.run_text.proofs.Texts.{rows_few}
use Rattle.clock_rules.specs.Delays.{registers}
use Rattle.clock_rules.specs.Answer.{vector_count, list_answer, clock_answer, clock_outputs}
use Rattle.clock_rules.proofs.AnswerLaws.{vectors-few, list_store-short, list_counted}
use Rattle.clock_text.specs.ListBytes.{most_samples, store_length, store_lent, list_of, clocks_of, outputs_of, or_not_whole, bytes_answer, bytes_outputs}

-- ---- answers

pub refused-before : (empty : RunAnswer) → (empty.refusal ≡ 0 → ⊥) → empty ≡ or_not_whole empty
refused-before empty h = go empty.refusal refl
  where
    go : (r : ℕ) → empty.refusal ≡ r → empty ≡ or_not_whole empty
    go zero e = absurd (h e)
    go (suc r) e = rw e

pub refused_here : (empty : RunAnswer) → empty.refusal ≡ 0 → ran 15 0 ≡ or_not_whole empty
refused_here empty e = rw e

module _ (netlist bytes : List ℕ) where
  pub whole-answer : length bytes % 4 ≡ 0 → (outputs : ℕ) → clock_answer netlist (list_of bytes) store_length outputs ≡ bytes_answer netlist bytes outputs
  unfolding bytes_answer
  whole-answer h outputs = sym (rw (eq-eqb (length bytes % 4) 0 h, bytes_answer))

  pub whole-outputs : length bytes % 4 ≡ 0 → (outputs : List ℤ) → clock_outputs netlist (list_of bytes) store_lent outputs ≡ bytes_outputs netlist bytes outputs
  unfolding bytes_outputs
  whole-outputs h outputs = sym (rw (eq-eqb (length bytes % 4) 0 h, bytes_outputs))

  pub part_answer : (length bytes % 4 ≡ 0 → ⊥) → (outputs : ℕ) → or_not_whole (clock_answer netlist [] store_length 0) ≡ bytes_answer netlist bytes outputs
  unfolding bytes_answer
  part_answer h outputs = sym (rw (ne_eqb (length bytes % 4) 0 h, bytes_answer))

  pub part_outputs : (length bytes % 4 ≡ 0 → ⊥) → (outputs : List ℤ) → outputs ≡ bytes_outputs netlist bytes outputs
  unfolding bytes_outputs
  part_outputs h outputs = sym (rw (ne_eqb (length bytes % 4) 0 h, bytes_outputs))

  -- where a part of a sample is left over: read's refusals, then 6, then 15
  module _ (part : length bytes % 4 ≡ 0 → ⊥) (outputs : ℕ) where
    by_empty : (empty : RunAnswer) → clock_answer netlist [] store_length 0 ≡ empty → bytes_answer netlist bytes outputs ≡ or_not_whole empty
    by_empty empty e = sym (part_answer part outputs) ∙ ap or_not_whole e

    pub part_refused : (r place : ℕ) → read_netlist netlist ≡ refused (suc r) place → bytes_answer netlist bytes outputs ≡ ran (suc r) place
    unfolding clock_answer
    part_refused r place e = by_empty (ran (suc r) place) (rw (e, clock_answer))

    module _ (net : Netlist) (reads : read_netlist netlist ≡ accepted net) where
      empty_list : (empty : RunAnswer) → list_answer net.head (registers net) [] store_length 0 ≡ empty → clock_answer netlist [] store_length 0 ≡ empty
      unfolding clock_answer
      empty_list empty e = rw (reads, clock_answer) e

      pub part_store-short : store_length < registers net → bytes_answer netlist bytes outputs ≡ ran 6 0
      part_store-short h = by_empty (ran 6 0) (empty_list (ran 6 0) (list_store-short net.head (registers net) [] store_length 0 h))

      pub part_not-whole : registers net ≤ store_length → bytes_answer netlist bytes outputs ≡ ran 15 0
      unfolding fit_answer
      part_not-whole h =
          let none : vector_count net.head.n 0 ≡ 0 = omega (arith, vectors-few net.head.n 0) in
          let whole : 0 ≡ vector_count net.head.n 0 * net.head.n = rw none (omega arith) in
          let lent : 0 ≡ vector_count net.head.n 0 * net.head.m = rw none (omega arith) in
          by_empty (ran 0 0) (empty_list (ran 0 0) (list_counted net.head (registers net) [] store_length 0 h whole lent))

  -- ---- how many outputs there are at most

  pub outputs-few : AreBytes netlist → length bytes ≤ 4 * most_samples → outputs_of netlist bytes ≤ max_rows * most_samples
  outputs-few all h =
      let clocks : clocks_of netlist bytes ≤ most_samples = omega (arith, vectors-few (read_answer netlist).n (length bytes / 4)) in
      omega (arith, mul-le-mul clocks (rows_few netlist all))
