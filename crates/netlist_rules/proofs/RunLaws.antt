-- Run returns the number and the place of the first of its tests that fails and leaves the outputs as they were, or fills them with the
-- board machine's outputs.
-- Assumes nothing.
use Prim.Native.Nat.{ℕ, zero, suc, ◌+◌, ◌-◌, ◌^◌, ◌<◌, ◌≤◌}
use mathlib.Core.Path.{◌≡◌, refl, sym, ◌∙◌, ap, subst}
use mathlib.Core.Bool.{Bool, true, false, true≢false}
use mathlib.Core.Logic.{◌↔◌, inl, inr}
use mathlib.Core.List.{List, ◌∷◌, map}
use native.Mathlib.Omega.{arith}
use lib.Dec.{eqb}
use lib.IntN.{ℤ, pos, negsuc}
use lib.ListN.{length, get_or, drop, drop_of_length-le}
use lib.Pow.{pow_pos}
use lib.Seq.{drop-cons}
use borrow.Author.Tests.{ltb-true, lt-ltb}
use Rattle.layout_rules.specs.declared.Head.{Head}
use Rattle.layout_rules.specs.Matrix.{matrix}
use Rattle.layout_rules.specs.Records.{Netlist}
use Rattle.layout_rules.specs.Places.{head_at, netlist_in}
use Rattle.layout_rules.specs.Tests.{Test, tested, AllPass, FirstFails, first_tests}
use Rattle.layout_rules.proofs.LittleEndian.{AreBytes}
use Rattle.layout_rules.proofs.TestLaws.{Decided, behind_test, declined_first, passed_all, all_append, all_split, all_first, first-all, fails_after, fails_among, fails_not-all}
use Rattle.board_rules.specs.Machine.{times}
use Rattle.board_rules.specs.Width.{Within, Samples}
use Rattle.board_rules.proofs.WidthLaws.{positive_is, negative_is, within-between, between-within}
use Rattle.netlist_rules.specs.Read.{Reading, refused, accepted, read_netlist}
use Rattle.netlist_rules.specs.Run.{ran, fits, fit_answer, samples_answer, run_answer, netlist_outputs, run_outputs}
use Rattle.netlist_rules.specs.Exact.{IsNetlistBytes, IsNetlistOf}
use Rattle.netlist_rules.specs.Tests.{read_tests, sample_tests, run_tests}
use Rattle.netlist_rules.specs.declared.RunAnswer.{RunAnswer}
use Rattle.netlist_rules.proofs.ReadingLaws.{behind_reading}
use Rattle.netlist_rules.proofs.Conditions.{same_says}
use Rattle.netlist_rules.proofs.ReadTests.{read_decided, reading_accepted, reading_netlist}
use Rattle.netlist_rules.proofs.ReadAccepts.{all_pass_netlist, reading_of}

-- ---- 21: sample by sample

-- a sample fits the width if and only if it lies within it
pub fits_says : (s : ℕ) (x : ℤ) → (fits s x ≡ true) ↔ Within s x
fits_says s (pos k) = (
  λ e. between-within s (pos k) (record { above = omega (arith, positive_is (pos k), ltb-true k (2 ^ (s - 1)) e); below = omega (arith, negative_is (pos k)) }),
  λ w. let b = within-between {w = s} {z = pos k} w in lt-ltb k (2 ^ (s - 1)) (omega (arith, b.above, positive_is (pos k))),
)
fits_says s (negsuc k) = (
  λ e. between-within s (negsuc k) (record {
    above = omega (arith, positive_is (negsuc k), pow_pos (s - 1));
    below = omega (arith, negative_is (negsuc k), ltb-true k (2 ^ (s - 1)) e);
  }),
  λ w. let b = within-between {w = s} {z = negsuc k} w in lt-ltb k (2 ^ (s - 1)) (omega (arith, b.below, negative_is (negsuc k))),
)

module _ (s : ℕ) (samples : List ℤ) where
  abbrev tests : ℕ → List Test
  tests = sample_tests s samples

  abbrev from-sample : ℕ → RunAnswer
  from-sample j = fit_answer s j (drop j samples)

  sample-due : (j : ℕ) → j < length samples → from-sample j ≡ elim (fits s (get_or samples j (pos 0))) [ true ↦ from-sample (suc j) | false ↦ ran 21 j ]
  unfolding fit_answer
  sample-due j h = rw (drop-cons samples j (pos 0) h)

  no_sample-due : (j : ℕ) → length samples ≤ j → from-sample j ≡ ran 0 0
  unfolding fit_answer
  no_sample-due j h = rw (drop_of_length-le samples {i = j} h)

  from-sample_decided : (k j : ℕ) → j + k ≡ length samples → AllPass (first_tests tests j) → Decided (first_tests tests (j + k)) (from-sample j) (ran 0 0) ran
  unfolding first_tests
  from-sample_decided zero j e a = let same : j + 0 ≡ j = omega arith in rw same (inl (no_sample-due j (omega arith), a))
  from-sample_decided (suc k) j e a = go (fits s (get_or samples j (pos 0))) refl (from-sample_decided k (suc j) (omega arith))
    where
      Result : Type 0
      Result = Decided (first_tests tests (j + suc k)) (from-sample j) (ran 0 0) ran

      further : suc j + k ≡ j + suc k
      further = omega arith

      due : from-sample j ≡ elim (fits s (get_or samples j (pos 0))) [ true ↦ from-sample (suc j) | false ↦ ran 21 j ]
      due = sample-due j (omega arith)

      go : (t : Bool) → fits s (get_or samples j (pos 0)) ≡ t
          → (AllPass (first_tests tests (suc j)) → Decided (first_tests tests (suc j + k)) (from-sample (suc j)) (ran 0 0) ran)
          → Result
      go true f more =
          let next : from-sample j ≡ from-sample (suc j) = due ∙ ap (λ t. elim t [ true ↦ from-sample (suc j) | false ↦ ran 21 j ]) f in
          rw (next, ← further) (more (all_append (first_tests tests j) (tests j) a ((fits_says s (get_or samples j (pos 0))).0 f, tt)))
      go false f more =
          let stop : from-sample j ≡ ran 21 j = due ∙ ap (λ t. elim t [ true ↦ from-sample (suc j) | false ↦ ran 21 j ]) f in
          let outside : Within s (get_or samples j (pos 0)) → ⊥ = (λ w. true≢false (sym ((fits_says s (get_or samples j (pos 0))).1 w) ∙ f)) in
          inr (21, j, omega arith, stop, rw (← further) (fails_among 21 j tests (suc j) k (fails_after 21 j (first_tests tests j) (tests j) a (inl (outside, refl, refl)))))

  pub fit_decided : (n : ℕ) → length samples ≡ n → Decided (first_tests tests n) (fit_answer s 0 samples) (ran 0 0) ran
  unfolding first_tests
  fit_decided n e = let same : 0 + n ≡ n = omega arith in rw same at (from-sample_decided n 0 (same ∙ sym e) tt)

  -- where all fit, they are samples of the width
  fit-samples : (n : ℕ) → length samples ≡ n → AllPass (first_tests tests n) → Samples s n samples
  fit-samples n e a = record { count = e; within = λ j h. (all_first tests n a j h).0 }

-- and the other way
module _ {s n : ℕ} {samples : List ℤ} where
  pub fit-accepts : Samples s n samples → fit_answer s 0 samples ≡ ran 0 0
  fit-accepts x = go (fit_decided s samples n x.count)
    where
      go : Decided (first_tests (sample_tests s samples) n) (fit_answer s 0 samples) (ran 0 0) ran → fit_answer s 0 samples ≡ ran 0 0
      go (inl a) = a.0
      go (inr f) = absurd (fails_not-all f.0 f.1 (first_tests (sample_tests s samples) n) f.4 (first-all (sample_tests s samples) n (λ j l. (x.within j l, tt))))

  pub fit-samples-only : length samples ≡ n → (fit_answer s 0 samples).refusal ≡ 0 → Samples s n samples
  fit-samples-only e z = go (fit_decided s samples n e)
    where
      go : Decided (first_tests (sample_tests s samples) n) (fit_answer s 0 samples) (ran 0 0) ran → Samples s n samples
      go (inl a) = fit-samples s samples n e a.1
      go (inr f) = absurd (omega (arith, f.2, z, ap (λ (x : RunAnswer). x.refusal) f.3))

-- ---- run's answer

module _ (b : List ℕ) (samples : List ℤ) (outputs : ℕ) where
  abbrev counted : List Test
  counted =
      tested 15 0 (length samples ≡ (head_at b).n) ∷ tested 16 0 (outputs ≡ (head_at b).m) ∷ first_tests (sample_tests (head_at b).width samples) (head_at b).n

  samples_decided : Decided counted (samples_answer (netlist_in b) samples outputs) (ran 0 0) ran
  unfolding samples_answer
  samples_decided =
      let fitting = first_tests (sample_tests (head_at b).width samples) (head_at b).n in
      behind_test (tested 16 0 (outputs ≡ (head_at b).m) ∷ fitting) (eqb (length samples) (head_at b).n) (length samples ≡ (head_at b).n) 15 0
      (elim (eqb outputs (head_at b).m) [ false ↦ ran 16 0 | true ↦ fit_answer (head_at b).width 0 samples ]) (ran 0 0) ran (omega arith)
      (same_says (length samples) (head_at b).n)
      (λ n. behind_test fitting (eqb outputs (head_at b).m) (outputs ≡ (head_at b).m) 16 0 (fit_answer (head_at b).width 0 samples) (ran 0 0) ran (omega arith)
      (same_says outputs (head_at b).m) (λ m. fit_decided (head_at b).width samples (head_at b).n n))

  run_decided : Decided (run_tests b samples outputs) (run_answer b samples outputs) (ran 0 0) ran
  unfolding run_tests run_answer
  run_decided =
      behind_reading (read_tests b) counted (read_netlist b) (netlist_in b) (λ net. samples_answer net samples outputs) (ran 0 0) ran (read_decided b)
      (λ all. samples_decided)

  other_number : (r place : ℕ) → 0 < r → ran 0 0 ≡ ran r place → ⊥
  other_number r place h e = omega (arith, ap (λ (a : RunAnswer). a.refusal) e)

  -- a refusal is that of the first test that fails
  pub run_refuses : (r place : ℕ) → 0 < r → (run_answer b samples outputs ≡ ran r place) ↔ FirstFails (run_tests b samples outputs) r place
  run_refuses r place h =
      declined_first (run_tests b samples outputs) (run_answer b samples outputs) (ran 0 0) ran run_decided
      (λ r p s q e. (ap (λ (a : RunAnswer). a.refusal) e, ap (λ (a : RunAnswer). a.place) e)) r place (other_number r place h)

  -- an answer without a refusal says that all pass
  pub run_passes : (run_answer b samples outputs ≡ ran 0 0) ↔ AllPass (run_tests b samples outputs)
  run_passes = passed_all (run_tests b samples outputs) (run_answer b samples outputs) (ran 0 0) ran run_decided other_number

-- ---- the lent outputs afterwards

module _ (b : List ℕ) (samples outputs : List ℤ) where
  abbrev answer : RunAnswer
  answer = run_answer b samples (length outputs)

  module _ (net : Netlist) (e : read_netlist b ≡ accepted net) where
    pub answer-read : answer ≡ samples_answer net samples (length outputs)
    unfolding run_answer
    answer-read = rw (e, run_answer)

    pub outputs-kept : (r : ℕ) → (samples_answer net samples (length outputs)).refusal ≡ suc r → run_outputs b samples outputs ≡ outputs
    unfolding run_outputs
    outputs-kept r h = rw (e, run_outputs) (rw h)

    pub outputs-filled : (samples_answer net samples (length outputs)).refusal ≡ 0 → run_outputs b samples outputs ≡ netlist_outputs net samples
    unfolding run_outputs
    outputs-filled h = rw (e, run_outputs) (rw h)

  read-refused : (r place : ℕ) → read_netlist b ≡ refused r place → run_outputs b samples outputs ≡ outputs
  unfolding run_outputs
  read-refused r place e = rw (e, run_outputs)

  -- where the netlist is one, the samples are of its width and the counts agree, run fills the outputs with the board machine's
  pub run_fills : (net : Netlist) → IsNetlistBytes b net → Samples net.head.width net.head.n samples → length outputs ≡ net.head.m
      → (answer ≡ ran 0 0) × (run_outputs b samples outputs ≡ netlist_outputs net samples)
  unfolding run_tests
  run_fills net is x m = (accepts, outputs-filled net reading (ap (λ (a : RunAnswer). a.refusal) (sym (answer-read net reading) ∙ accepts)))
    where
      reading : read_netlist b ≡ accepted net
      reading = reading_of b net is

      same : netlist_in b ≡ net
      same = reading_netlist b net reading

      all : AllPass (run_tests b samples (length outputs))
      all =
          let h : Head = head_at b in
          let x : Samples h.width h.n samples = subst (λ y. Samples y.head.width y.head.n samples) (sym same) x in
          let m : length outputs ≡ h.m = m ∙ ap (λ (y : Netlist). y.head.m) (sym same) in
          all_append (read_tests b) (counted b samples (length outputs)) ((reading_accepted b).0 (reading ∙ ap accepted (sym same)))
          (x.count, (m, first-all (sample_tests h.width samples) h.n (λ j l. (x.within j l, tt))))

      accepts : answer ≡ ran 0 0
      accepts = (run_passes b samples (length outputs)).1 all

  -- a refusal leaves the outputs as they were
  pub run_keeps : (r place : ℕ) → 0 < r → answer ≡ ran r place → run_outputs b samples outputs ≡ outputs
  run_keeps r place h a = reading (read_netlist b) refl
    where
      counts : (net : Netlist) → read_netlist b ≡ accepted net → (q : ℕ) → (samples_answer net samples (length outputs)).refusal ≡ q → run_outputs b samples outputs ≡ outputs
      counts net e zero n = absurd (omega (arith, n, ap (λ (x : RunAnswer). x.refusal) (sym (answer-read net e) ∙ a)))
      counts net e (suc q) n = outputs-kept net e q n

      reading : (x : Reading Netlist) → read_netlist b ≡ x → run_outputs b samples outputs ≡ outputs
      reading (refused q p) e = read-refused q p e
      reading (accepted net) e = counts net e (samples_answer net samples (length outputs)).refusal refl

  -- run accepts if and only if the bytes are those of a netlist, the samples are n of its width and the outputs m
  pub run_accepts : AreBytes b
      → (answer ≡ ran 0 0) ↔ ((net : Netlist) × IsNetlistBytes b net × Samples net.head.width net.head.n samples × (length outputs ≡ net.head.m))
  unfolding run_tests
  run_accepts all = (
    λ e.
        let parts = all_split (read_tests b) (counted b samples (length outputs)) ((run_passes b samples (length outputs)).0 e) in (
          netlist_in b,
          all_pass_netlist b all parts.0,
          fit-samples (head_at b).width samples (head_at b).n parts.1.0 parts.1.1.1,
          parts.1.1.0,
        ),
    λ is. (run_fills is.0 is.1 is.2 is.3).0,
  )

-- the outputs of a netlist that check accepts are row times vector
pub run_computes : (mb b : List ℕ) (net : Netlist) (samples outputs : List ℤ) → IsNetlistOf mb b net → Samples net.head.width net.head.n samples
    → length outputs ≡ net.head.m → run_outputs b samples outputs ≡ map (λ row. times row samples) (matrix mb)
run_computes mb b net samples outputs is s m = (run_fills b samples outputs net is.netlist s m).1 ∙ is.computes samples s
