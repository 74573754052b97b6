-- registers answers as read does, and with the total; clock returns the number and the place of the first of its tests that fails and
-- leaves store and outputs as they were, or clocks the whole list.
-- Assumes nothing.
use Prim.Native.Nat.{ℕ, zero, suc, ◌*◌, ◌≤◌, ◌<◌}
use mathlib.Core.Path.{◌≡◌, refl, sym, ◌∙◌, ap, subst}
use mathlib.Core.Bool.{true, false}
use mathlib.Core.Logic.{◌↔◌, inl, inr}
use mathlib.Core.List.{List, ◌∷◌}
use native.Mathlib.Nat.{mul-div_cancel, div-mul-le_self, div-le_self}
use native.Mathlib.Omega.{arith}
use lib.Dec.{ltb, eqb}
use lib.IntN.{ℤ}
use lib.ListN.{length}
use borrow.Author.Tests.{lt-ltb, le-ltb, ltb-false, eq-eqb, ne_eqb, eqb-true}
use Rattle.layout_rules.specs.declared.Head.{Head}
use Rattle.layout_rules.specs.Records.{Netlist}
use Rattle.layout_rules.specs.Places.{head_at, netlist_in}
use Rattle.layout_rules.specs.Tests.{Test, tested, AllPass, FirstFails, first_tests}
use Rattle.layout_rules.proofs.LittleEndian.{AreBytes}
use Rattle.layout_rules.proofs.TestLaws.{Decided, behind_test, behind_fault, declined_first, passed_all, all_append, all_split, all_first, first-all}
use Rattle.board_rules.specs.Width.{Samples}
use Rattle.netlist_rules.specs.declared.ReadAnswer.{ReadAnswer}
use Rattle.netlist_rules.specs.declared.RunAnswer.{RunAnswer}
use Rattle.netlist_rules.specs.Read.{Reading, refused, accepted, read_netlist, read_answer_of, read_answer}
use Rattle.netlist_rules.specs.Run.{ran, fit_answer}
use Rattle.netlist_rules.specs.Tests.{read_tests, sample_tests}
use Rattle.netlist_rules.proofs.ReadingLaws.{behind_reading}
use Rattle.netlist_rules.proofs.ReadTests.{read_decided, reading_accepted, reading_netlist}
use Rattle.netlist_rules.proofs.ReadAccepts.{all_pass_netlist, reading_of}
use Rattle.netlist_rules.proofs.RunLaws.{fit_decided}
use Rattle.netlist_rules.proofs.Conditions.{same_says}
use Rattle.clock_rules.specs.declared.RegistersAnswer.{RegistersAnswer}
use Rattle.clock_rules.specs.Delays.{registers}
use Rattle.clock_rules.specs.Clocked.{clocked_outputs, clocked_store, in_order}
use Rattle.clock_rules.specs.Answer.{registers_refused, registers_answer, vector_count, vectors_in, list_answer, clock_answer, clock_outputs, clock_store}
use Rattle.clock_rules.specs.Claim.{GivenList}
use Rattle.clock_rules.specs.Tests.{WholeVectors, clock_tests}

-- ---- whole vectors

-- a multiple of n is as many times n as there are vectors
count_of : (n clocks : ℕ) → clocks * n ≡ vector_count n (clocks * n) * n
count_of zero clocks = omega arith
count_of (suc n) clocks = ap (λ t. t * suc n) (sym (mul-div_cancel clocks (omega arith)))

pub whole_says : (n samples : ℕ) → (eqb samples (vector_count n samples * n) ≡ true) ↔ WholeVectors n samples
whole_says n samples = (
  λ e. (vector_count n samples, eqb-true samples (vector_count n samples * n) e),
  λ w. eq-eqb samples (vector_count n samples * n) (w.1 ∙ count_of n w.0 ∙ ap (λ (s : ℕ). vector_count n s * n) (sym w.1)),
)

pub vectors-within : (n samples : ℕ) → vector_count n samples * n ≤ samples
vectors-within zero samples = omega arith
vectors-within (suc n) samples = div-mul-le_self samples (suc n)

pub vectors-few : (n samples : ℕ) → vector_count n samples ≤ samples
vectors-few zero samples = omega arith
vectors-few (suc n) samples = div-le_self samples (suc n)

-- ---- a list, test by test

module _ (head : Head) (total : ℕ) (samples : List ℤ) (store outputs : ℕ) where
  abbrev clocks : ℕ
  clocks = vector_count head.n (length samples)

  abbrev answer : RunAnswer
  answer = list_answer head total samples store outputs

  pub list_store-short : store < total → answer ≡ ran 6 0
  unfolding list_answer
  list_store-short h = rw (lt-ltb store total h, list_answer)

  module _ (room : total ≤ store) where
    pub list_not-whole : (length samples ≡ clocks * head.n → ⊥) → answer ≡ ran 15 0
    unfolding list_answer
    list_not-whole h = rw (le-ltb store total room, list_answer) (rw (ne_eqb (length samples) (clocks * head.n) h))

    module _ (whole : length samples ≡ clocks * head.n) where
      pub list_outputs-differ : (outputs ≡ clocks * head.m → ⊥) → answer ≡ ran 16 0
      unfolding list_answer
      list_outputs-differ h =
          rw (le-ltb store total room, list_answer) (rw (eq-eqb (length samples) (clocks * head.n) whole) (rw (ne_eqb outputs (clocks * head.m) h)))

      pub list_counted : outputs ≡ clocks * head.m → answer ≡ fit_answer head.width 0 samples
      unfolding list_answer
      list_counted h =
          rw (le-ltb store total room, list_answer) (rw (eq-eqb (length samples) (clocks * head.n) whole) (rw (eq-eqb outputs (clocks * head.m) h)))

  -- the tests of a list, in their order
  abbrev pub list_tests : List Test
  list_tests =
      tested 6 0 (total ≤ store)
      ∷ tested 15 0 (WholeVectors head.n (length samples))
      ∷ tested 16 0 (outputs ≡ clocks * head.m)
      ∷ first_tests (sample_tests head.width samples) (length samples)

  pub list_decided : Decided list_tests answer (ran 0 0) ran
  unfolding list_answer
  list_decided =
      let fitting : List Test = first_tests (sample_tests head.width samples) (length samples) in
      let fit : RunAnswer = fit_answer head.width 0 samples in
      let lent : RunAnswer = elim (eqb outputs (clocks * head.m)) [ false ↦ ran 16 0 | true ↦ fit ] in
      let whole : RunAnswer = elim (eqb (length samples) (clocks * head.n)) [ false ↦ ran 15 0 | true ↦ lent ] in
      behind_fault (tested 15 0 (WholeVectors head.n (length samples)) ∷ tested 16 0 (outputs ≡ clocks * head.m) ∷ fitting) (ltb store total) (total ≤ store) 6 0
      whole (ran 0 0) ran (omega arith) (ltb-false store total, le-ltb store total)
      (λ room.
      behind_test (tested 16 0 (outputs ≡ clocks * head.m) ∷ fitting) (eqb (length samples) (clocks * head.n)) (WholeVectors head.n (length samples)) 15 0
      lent (ran 0 0) ran (omega arith) (whole_says head.n (length samples))
      (λ w.
      behind_test fitting (eqb outputs (clocks * head.m)) (outputs ≡ clocks * head.m) 16 0
      fit (ran 0 0) ran (omega arith) (same_says outputs (clocks * head.m))
      (λ m. fit_decided head.width samples (length samples) refl)))

  -- what holds where none fails
  pub record InOrder : Type 0 where
    pub room : total ≤ store
    pub whole : length samples ≡ clocks * head.n
    pub lent : outputs ≡ clocks * head.m
    pub in_range : Samples head.width (length samples) samples

  pub list_in_order : answer.refusal ≡ 0 → InOrder
  list_in_order z = go list_decided
    where
      go : Decided list_tests answer (ran 0 0) ran → InOrder
      go (inl a) = record {
        room = a.1.0;
        whole = eqb-true (length samples) (clocks * head.n) ((whole_says head.n (length samples)).1 a.1.1.0);
        lent = a.1.1.1.0;
        in_range = record { count = refl; within = λ j h. (all_first (sample_tests head.width samples) (length samples) a.1.1.1.1 j h).0 };
      }
      go (inr f) = absurd (omega (arith, f.2, z, ap (λ (x : RunAnswer). x.refusal) f.3))

other_number : (r place : ℕ) → 0 < r → ran 0 0 ≡ ran r place → ⊥
other_number r place h e = omega (arith, ap (λ (a : RunAnswer). a.refusal) e)

-- ---- clock's answer

module _ (b : List ℕ) (samples : List ℤ) (store outputs : ℕ) where
  clock_decided : Decided (clock_tests b samples store outputs) (clock_answer b samples store outputs) (ran 0 0) ran
  unfolding clock_tests clock_answer
  clock_decided =
      let net : Netlist = netlist_in b in
      behind_reading (read_tests b) (list_tests net.head (registers net) samples store outputs) (read_netlist b) net
      (λ net. list_answer net.head (registers net) samples store outputs) (ran 0 0) ran (read_decided b)
      (λ all. list_decided net.head (registers net) samples store outputs)

  -- a refusal is that of the first test that fails
  pub clock_refuses : (r place : ℕ) → 0 < r → (clock_answer b samples store outputs ≡ ran r place) ↔ FirstFails (clock_tests b samples store outputs) r place
  clock_refuses r place h =
      declined_first (clock_tests b samples store outputs) (clock_answer b samples store outputs) (ran 0 0) ran clock_decided
      (λ r p s q e. (ap (λ (a : RunAnswer). a.refusal) e, ap (λ (a : RunAnswer). a.place) e)) r place (other_number r place h)

  -- an answer without a refusal says that all pass
  pub clock_passes : (clock_answer b samples store outputs ≡ ran 0 0) ↔ AllPass (clock_tests b samples store outputs)
  clock_passes = passed_all (clock_tests b samples store outputs) (clock_answer b samples store outputs) (ran 0 0) ran clock_decided other_number

-- ---- the lent store and outputs afterwards

module _ (b : List ℕ) (samples store outputs : List ℤ) where
  -- what clock returns and leaves
  pub record Clocked (r : RunAnswer) (store_after outputs_after : List ℤ) : Type 0 where
    pub answer : r ≡ clock_answer b samples (length store) (length outputs)
    pub store_left : store_after ≡ clock_store b samples store (length outputs)
    pub outputs_left : outputs_after ≡ clock_outputs b samples store outputs

  pub refused_keeps : (r place : ℕ) → read_netlist b ≡ refused r place → Clocked (ran r place) store outputs
  unfolding clock_answer clock_store clock_outputs
  refused_keeps r place e = record { answer = rw (e, clock_answer) refl; store_left = rw (e, clock_store) refl; outputs_left = rw (e, clock_outputs) refl }

  -- read's refusal is clock's
  pub reading_declines : (a : ReadAnswer) → a ≡ read_answer b → (a.refusal ≡ 0 → ⊥) → Clocked (ran a.refusal a.place) store outputs
  unfolding read_answer
  reading_declines a e h = go (read_netlist b) refl
    where
      go : (x : Reading Netlist) → read_netlist b ≡ x → Clocked (ran a.refusal a.place) store outputs
      go (refused r p) d = let f : a ≡ read_answer_of (refused r p) = e ∙ ap read_answer_of d in rw f (refused_keeps r p d)
      go (accepted net) d = absurd (h (ap (λ (y : ReadAnswer). y.refusal) (e ∙ ap read_answer_of d)))

  module _ (net : Netlist) (e : read_netlist b ≡ accepted net) where
    abbrev list : RunAnswer
    list = list_answer net.head (registers net) samples (length store) (length outputs)

    answer-read : clock_answer b samples (length store) (length outputs) ≡ list
    unfolding clock_answer
    answer-read = rw (e, clock_answer) refl

    store_by : ℕ → List ℤ
    store_by r = elim r [ suc q ↦ store | zero ↦ clocked_store net store (vectors_in net samples) ]

    outputs_by : ℕ → List ℤ
    outputs_by r = elim r [ suc q ↦ outputs | zero ↦ in_order (clocked_outputs net store (vectors_in net samples)) ]

    by_refusal : (a : RunAnswer) → a ≡ list → Clocked a (store_by a.refusal) (outputs_by a.refusal)
    unfolding clock_store clock_outputs store_by outputs_by
    by_refusal a f = rw f (record { answer = sym answer-read; store_left = rw (e, clock_store) refl; outputs_left = rw (e, clock_outputs) refl })

    -- what is left where clock accepts
    pub accepted-leaves : clock_answer b samples (length store) (length outputs) ≡ ran 0 0
        → (clock_store b samples store (length outputs) ≡ clocked_store net store (vectors_in net samples))
        × (clock_outputs b samples store outputs ≡ in_order (clocked_outputs net store (vectors_in net samples)))
    unfolding store_by outputs_by
    accepted-leaves f =
        let z : list.refusal ≡ 0 = ap (λ (a : RunAnswer). a.refusal) (sym answer-read ∙ f) in
        let left : Clocked list (store_by 0) (outputs_by 0) = subst (λ q. Clocked list (store_by q) (outputs_by q)) z (by_refusal list refl) in
        (sym left.store_left, sym left.outputs_left)

    -- a refusal of the list is clock's
    pub list_declines : (a : RunAnswer) → a ≡ list → (a.refusal ≡ 0 → ⊥) → Clocked a store outputs
    unfolding store_by outputs_by
    list_declines a f h = go a.refusal refl
      where
        go : (r : ℕ) → a.refusal ≡ r → Clocked a store outputs
        go zero z = absurd (h z)
        go (suc r) z = subst (λ q. Clocked a (store_by q) (outputs_by q)) z (by_refusal a f)

    -- where all is in order, the whole list is clocked
    pub list_accepts : (a : RunAnswer) → a ≡ list → a.refusal ≡ 0
        → Clocked a (clocked_store net store (vectors_in net samples)) (in_order (clocked_outputs net store (vectors_in net samples)))
    unfolding store_by outputs_by
    list_accepts a f z = subst (λ q. Clocked a (store_by q) (outputs_by q)) z (by_refusal a f)

-- ---- clock accepts exactly what is given in order

module _ (b : List ℕ) (samples store outputs : List ℤ) where
  abbrev outcome : RunAnswer
  outcome = clock_answer b samples (length store) (length outputs)

  pub given_accepts : (net : Netlist) → GivenList b net samples store outputs → outcome ≡ ran 0 0
  unfolding clock_tests
  given_accepts net g =
      let reading : read_netlist b ≡ accepted net = reading_of b net g.netlist in
      let same : netlist_in b ≡ net = reading_netlist b net reading in
      let g : GivenList b (netlist_in b) samples store outputs = subst (λ x. GivenList b x samples store outputs) (sym same) g in
      (clock_passes b samples (length store) (length outputs)).1
      (all_append (read_tests b) (list_tests (head_at b) (registers (netlist_in b)) samples (length store) (length outputs))
      ((reading_accepted b).0 (reading ∙ ap accepted (sym same)))
      (g.room, (g.whole, (g.lent, first-all (sample_tests (head_at b).width samples) (length samples) (λ j l. (g.in_range.within j l, tt))))))

  pub clock_accepts : AreBytes b → (outcome ≡ ran 0 0) ↔ ((net : Netlist) × GivenList b net samples store outputs)
  unfolding clock_tests
  clock_accepts all = (
    λ e.
        let net : Netlist = netlist_in b in
        let parts = all_split (read_tests b) (list_tests net.head (registers net) samples (length store) (length outputs))
        ((clock_passes b samples (length store) (length outputs)).0 e) in (
          net,
          record {
            netlist = all_pass_netlist b all parts.0;
            room = parts.1.0;
            whole = parts.1.1.0;
            lent = parts.1.1.1.0;
            in_range = record { count = refl; within = λ j h. (all_first (sample_tests net.head.width samples) (length samples) parts.1.1.1.1 j h).0 };
          },
        ),
    λ is. given_accepts is.0 is.1,
  )

-- ---- registers

pub registers-accepted : (b : List ℕ) (net : Netlist) → read_netlist b ≡ accepted net → registers_answer b ≡ record { refusal = 0; place = 0; registers = registers net }
unfolding registers_answer
registers-accepted b net e = rw (e, registers_answer) refl

pub registers-refused : (b : List ℕ) (r place : ℕ) → read_netlist b ≡ refused r place → registers_answer b ≡ registers_refused r place
unfolding registers_answer
registers-refused b r place e = rw (e, registers_answer) refl

-- the same refusals as read's, at the same places
pub registers_refuses : (b : List ℕ) → ((registers_answer b).refusal ≡ (read_answer b).refusal) × ((registers_answer b).place ≡ (read_answer b).place)
unfolding registers_answer read_answer
registers_refuses b = go (read_netlist b)
  where
    of : Reading Netlist → RegistersAnswer
    of x = elim x [ refused r place ↦ registers_refused r place | accepted net ↦ record { refusal = 0; place = 0; registers = registers net } ]

    go : (x : Reading Netlist) → ((of x).refusal ≡ (read_answer_of x).refusal) × ((of x).place ≡ (read_answer_of x).place)
    go (refused r p) = (refl, refl)
    go (accepted net) = (refl, refl)
