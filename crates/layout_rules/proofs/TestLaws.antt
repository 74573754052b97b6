-- Lists of tests: the first that fails is one, and an answer that goes by tests in order is decided by the first that fails.
-- Assumes nothing.
use Prim.Native.Nat.{ℕ, zero, suc, ◌+◌, ◌<◌}
use mathlib.Core.Path.{◌≡◌, refl, sym, ◌∙◌, ap, subst}
use mathlib.Core.Bool.{Bool, true, false, cond, true≢false}
use mathlib.Core.Logic.{◌↔◌, ◌⊎◌, inl, inr, ⊎_elim}
use mathlib.Core.List.{List, [], ◌∷◌, ◌++◌}
use native.Mathlib.Omega.{arith}
use Rattle.layout_rules.proofs.FirstRecords.{last_or_earlier}
use Rattle.layout_rules.specs.Tests.{Test, tested, AllPass, FirstFails, first_tests}

-- ---- tests one after another

pub all_append : (ts us : List Test) → AllPass ts → AllPass us → AllPass (ts ++ us)
all_append [] us a c = c
all_append (t ∷ ts) us a c = (a.0, all_append ts us a.1 c)

pub all_split : (ts us : List Test) → AllPass (ts ++ us) → AllPass ts × AllPass us
all_split [] us a = (tt, a)
all_split (t ∷ ts) us a = let s = all_split ts us a.1 in ((a.0, s.0), s.1)

module _ (r p : ℕ) where
  pub fails_before : (ts us : List Test) → FirstFails ts r p → FirstFails (ts ++ us) r p
  fails_before [] us f = absurd f
  fails_before (t ∷ ts) us (inl f) = inl f
  fails_before (t ∷ ts) us (inr f) = inr (f.0, fails_before ts us f.1)

  pub fails_after : (ts us : List Test) → AllPass ts → FirstFails us r p → FirstFails (ts ++ us) r p
  fails_after [] us a f = f
  fails_after (t ∷ ts) us a f = inr (a.0, fails_after ts us a.1 f)

  pub fails_split : (ts us : List Test) → FirstFails (ts ++ us) r p → FirstFails ts r p ⊎ (AllPass ts × FirstFails us r p)
  fails_split [] us f = inr (tt, f)
  fails_split (t ∷ ts) us (inl f) = inl (inl f)
  fails_split (t ∷ ts) us (inr f) = ⊎_elim (λ g. inl (inr (f.0, g))) (λ g. inr ((f.0, g.0), g.1)) (fails_split ts us f.1)

  -- where one fails, not all pass
  pub fails_not-all : (ts : List Test) → FirstFails ts r p → AllPass ts → ⊥
  fails_not-all [] f a = f
  fails_not-all (t ∷ ts) (inl f) a = f.0 a.0
  fails_not-all (t ∷ ts) (inr f) a = fails_not-all ts f.1 a.1

  -- no other number and no other place satisfy it
  pub fails_unique : (s q : ℕ) (ts : List Test) → FirstFails ts r p → FirstFails ts s q → (r ≡ s) × (p ≡ q)
  fails_unique s q [] f g = absurd f
  fails_unique s q (t ∷ ts) (inl f) (inl g) = (f.1 ∙ sym g.1, f.2 ∙ sym g.2)
  fails_unique s q (t ∷ ts) (inl f) (inr g) = absurd (f.0 g.0)
  fails_unique s q (t ∷ ts) (inr f) (inl g) = absurd (g.0 f.0)
  fails_unique s q (t ∷ ts) (inr f) (inr g) = fails_unique s q ts f.1 g.1

  pub fails_among : (tests : ℕ → List Test) (j k : ℕ) → FirstFails (first_tests tests j) r p → FirstFails (first_tests tests (j + k)) r p
  unfolding first_tests
  fails_among tests j zero f = let e : j + 0 ≡ j = omega arith in rw e f
  fails_among tests j (suc k) f =
      let e : j + suc k ≡ suc (j + k) = omega arith in
      rw e (fails_before (first_tests tests (j + k)) (tests (j + k)) (fails_among tests j k f))

-- ---- which numbers stand in a list

abbrev pub NumbersBelow : ℕ → List Test → Type 0
NumbersBelow k [] = Unit {0}
NumbersBelow k (t ∷ ts) = (t.number < k) × NumbersBelow k ts

pub numbers_append : (k : ℕ) (ts us : List Test) → NumbersBelow k ts → NumbersBelow k us → NumbersBelow k (ts ++ us)
numbers_append k [] us a b = b
numbers_append k (t ∷ ts) us a b = (a.0, numbers_append k ts us a.1 b)

pub numbers_first : (k : ℕ) (tests : ℕ → List Test) (j : ℕ) → ((i : ℕ) → NumbersBelow k (tests i)) → NumbersBelow k (first_tests tests j)
unfolding first_tests
numbers_first k tests zero each = tt
numbers_first k tests (suc j) each = numbers_append k (first_tests tests j) (tests j) (numbers_first k tests j each) (each j)

pub number-below : (k r p : ℕ) (ts : List Test) → NumbersBelow k ts → FirstFails ts r p → r < k
number-below k r p [] a f = absurd f
number-below k r p (t ∷ ts) a (inl f) = omega (arith, a.0, f.1)
number-below k r p (t ∷ ts) a (inr f) = number-below k r p ts a.1 f.1

-- ---- answers that tests decide

-- the answer where all pass, or that of the first that fails
abbrev pub Decided : {X : Type 0} → List Test → X → X → (ℕ → ℕ → X) → Type 0
Decided ts answer passed declined = ((answer ≡ passed) × AllPass ts) ⊎ ((r : ℕ) × (p : ℕ) × (0 < r) × (answer ≡ declined r p) × FirstFails ts r p)

-- an answer made of another
pub answer_decided : {X Y : Type 0} (ts : List Test) (answer passed : X) (declined : ℕ → ℕ → X) (f : X → Y) → Decided ts answer passed declined
    → Decided ts (f answer) (f passed) (λ r p. f (declined r p))
answer_decided ts answer passed declined f (inl a) = inl (ap f a.0, a.1)
answer_decided ts answer passed declined f (inr d) = inr (d.0, d.1, d.2, ap f d.3, d.4)

-- then a declined answer is that of the first test that fails, and the other one says that all pass
module _ {X : Type 0} (ts : List Test) (answer passed : X) (declined : ℕ → ℕ → X) (d : Decided ts answer passed declined) where
  pub declined_first : ((r p s q : ℕ) → declined r p ≡ declined s q → (r ≡ s) × (p ≡ q)) → (r p : ℕ) → (passed ≡ declined r p → ⊥)
      → (answer ≡ declined r p) ↔ FirstFails ts r p
  declined_first injective r p apart = (there d, back d)
    where
      there : Decided ts answer passed declined → answer ≡ declined r p → FirstFails ts r p
      there (inl a) e = absurd (apart (sym a.0 ∙ e))
      there (inr f) e =
          let same = injective f.0 f.1 r p (sym f.3 ∙ e) in
          subst (λ s. FirstFails ts s p) same.0 (subst (λ q. FirstFails ts f.0 q) same.1 f.4)

      back : Decided ts answer passed declined → FirstFails ts r p → answer ≡ declined r p
      back (inl a) g = absurd (fails_not-all r p ts g a.1)
      back (inr f) g = let same = fails_unique f.0 f.1 r p ts f.4 g in f.3 ∙ ap (λ s. declined s f.1) same.0 ∙ ap (declined r) same.1

  pub passed_all : ((r p : ℕ) → 0 < r → passed ≡ declined r p → ⊥) → (answer ≡ passed) ↔ AllPass ts
  passed_all apart = (there d, back d)
    where
      there : Decided ts answer passed declined → answer ≡ passed → AllPass ts
      there (inl a) e = a.1
      there (inr f) e = absurd (apart f.0 f.1 f.2 (sym e ∙ f.3))

      back : Decided ts answer passed declined → AllPass ts → answer ≡ passed
      back (inl a) g = a.0
      back (inr f) g = absurd (fails_not-all f.0 f.1 ts f.4 g)

-- the same of a number, 0 where all pass, and tests at one place
abbrev pub RefusedBy : List Test → ℕ → ℕ → Type 0
RefusedBy ts refusal place = ((refusal ≡ 0) × AllPass ts) ⊎ ((0 < refusal) × FirstFails ts refusal place)

-- a test, and what follows where it passes
pub one_test_lem : (ts : List Test) (t : Bool) (P : Type 0) (number place later : ℕ) → 0 < number → (t ≡ true) ↔ P
    → RefusedBy ts later place → RefusedBy (tested number place P ∷ ts) (elim t [ true ↦ later | false ↦ number ]) place
one_test_lem ts true P number place later h is d = ⊎_elim (λ a. inl (a.0, (is.0 refl, a.1))) (λ f. inr (f.0, inr (is.0 refl, f.1))) d
one_test_lem ts false P number place later h is d = inr (h, inl (λ p. true≢false (sym (is.1 p)), refl, refl))

-- a test of the fault
pub one_fault : (ts : List Test) (t : Bool) (P : Type 0) (number place later : ℕ) → 0 < number → (t ≡ false) ↔ P
    → RefusedBy ts later place → RefusedBy (tested number place P ∷ ts) (cond t number later) place
one_fault ts false P number place later h is d = one_test_lem ts true P number place later h (λ e. is.0 refl, λ p. refl) d
one_fault ts true P number place later h is d = one_test_lem ts false P number place later h (λ e. is.0 (sym e), λ p. sym (is.1 p)) d

pub no_test : (place : ℕ) → RefusedBy [] 0 place
no_test place = inl (refl, tt)

-- the tests of two parts of a record
pub both_parts : (ts us : List Test) (first later place : ℕ) → RefusedBy ts first place → RefusedBy us later place
    → RefusedBy (ts ++ us) (elim first [ suc r ↦ suc r | zero ↦ later ]) place
both_parts ts us zero later place (inl a) (inl d) = inl (d.0, all_append ts us a.1 d.1)
both_parts ts us zero later place (inl a) (inr d) = inr (d.0, fails_after later place ts us a.1 d.1)
both_parts ts us zero later place (inr f) d = absurd (omega arith)
both_parts ts us (suc first) later place (inl a) d = absurd (omega arith)
both_parts ts us (suc first) later place (inr f) d = inr (f.0, fails_before (suc first) place ts us f.1)

-- ---- answers that go on behind a record's refusal, and behind one more test

pub behind-refusal : {X : Type 0} (ts us : List Test) (refusal place : ℕ) (later passed : X) (declined : ℕ → ℕ → X)
    → RefusedBy ts refusal place → Decided us later passed declined
    → Decided (ts ++ us) (elim refusal [ suc r ↦ declined (suc r) place | zero ↦ later ]) passed declined
behind-refusal ts us zero place later passed declined (inl a) (inl d) = inl (d.0, all_append ts us a.1 d.1)
behind-refusal ts us zero place later passed declined (inl a) (inr d) = inr (d.0, d.1, d.2, d.3, fails_after d.0 d.1 ts us a.1 d.4)
behind-refusal ts us zero place later passed declined (inr f) d = absurd (omega arith)
behind-refusal ts us (suc r) place later passed declined (inl a) d = absurd (omega arith)
behind-refusal ts us (suc r) place later passed declined (inr f) d = inr (suc r, place, f.0, refl, fails_before (suc r) place ts us f.1)

pub behind_test : {X : Type 0} (us : List Test) (t : Bool) (P : Type 0) (number place : ℕ) (later passed : X) (declined : ℕ → ℕ → X)
    → 0 < number → (t ≡ true) ↔ P → (P → Decided us later passed declined)
    → Decided (tested number place P ∷ us) (elim t [ true ↦ later | false ↦ declined number place ]) passed declined
behind_test us true P number place later passed declined h is d =
    let p = is.0 refl in
    ⊎_elim (λ a. inl (a.0, (p, a.1))) (λ f. inr (f.0, f.1, f.2, f.3, inr (p, f.4))) (d p)
behind_test us false P number place later passed declined h is d =
    inr (number, place, h, refl, inl (λ p. true≢false (sym (is.1 p)), refl, refl))

-- a test of the fault
pub behind_fault : {X : Type 0} (us : List Test) (t : Bool) (P : Type 0) (number place : ℕ) (later passed : X) (declined : ℕ → ℕ → X)
    → 0 < number → (t ≡ false) ↔ P → (P → Decided us later passed declined)
    → Decided (tested number place P ∷ us) (elim t [ true ↦ declined number place | false ↦ later ]) passed declined
behind_fault us false P number place later passed declined h is d = behind_test us true P number place later passed declined h (λ e. is.0 refl, λ p. refl) d
behind_fault us true P number place later passed declined h is d = behind_test us false P number place later passed declined h (λ e. is.0 (sym e), λ p. sym (is.1 p)) d

-- ---- tests of records of one kind, one after another

-- the tests of the first k records pass if those of each do
pub first-all : (tests : ℕ → List Test) (k : ℕ) → ((i : ℕ) → i < k → AllPass (tests i)) → AllPass (first_tests tests k)
unfolding first_tests
first-all tests zero each = tt
first-all tests (suc k) each = all_append (first_tests tests k) (tests k) (first-all tests k (λ i h. each i (omega arith))) (each k (omega arith))

pub all_first : (tests : ℕ → List Test) (k : ℕ) → AllPass (first_tests tests k) → (i : ℕ) → i < k → AllPass (tests i)
unfolding first_tests
all_first tests zero a i h = absurd (omega arith)
all_first tests (suc k) a i h =
    let both = all_split (first_tests tests k) (tests k) a in
    let earlier = all_first tests k both.0 i in
    ⊎_elim (λ l. earlier l) (λ e. rw e both.1) (last_or_earlier i k h)
