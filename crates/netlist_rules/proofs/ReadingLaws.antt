-- Records and netlists read by tests in order: the reading is decided by the first that fails.
-- Assumes nothing.
use Prim.Native.Nat.{ℕ, zero, suc, ◌+◌, ◌<◌}
use mathlib.Core.Path.{◌≡◌, refl, ◌∙◌, ap}
use mathlib.Core.Logic.{inl, inr}
use mathlib.Core.List.{List, [], ◌++◌}
use native.Mathlib.Omega.{arith}
use Rattle.layout_rules.specs.Places.{first_records}
use Rattle.layout_rules.specs.Tests.{Test, AllPass, first_tests}
use Rattle.layout_rules.proofs.FirstRecords.{length-first}
use Rattle.layout_rules.proofs.TestLaws.{Decided, RefusedBy, all_append, fails_before, fails_after, fails_among}
use Rattle.netlist_rules.specs.Read.{Reading, refused, accepted, and_then, read_record, read_records}

-- a record is read
pub record_decided : {A : Type 0} (ts : List Test) (refusal place : ℕ) (x : A) → RefusedBy ts refusal place
    → Decided ts (read_record refusal place x) (accepted x) refused
record_decided ts zero place x (inl a) = inl (refl, a.1)
record_decided ts zero place x (inr f) = absurd (omega arith)
record_decided ts (suc r) place x (inl a) = absurd (omega arith)
record_decided ts (suc r) place x (inr f) = inr (suc r, place, f.0, refl, f.1)

-- one record after another; the later tests are those behind what stands in the first
pub then_decided : {A B : Type 0} (ts us : List Test) (first : Reading A) (rest : A → Reading B) (x : A) (y : B)
    → Decided ts first (accepted x) refused → Decided us (rest x) (accepted y) refused
    → Decided (ts ++ us) (and_then first rest) (accepted y) refused
then_decided ts us first rest x y (inl a) (inl d) = inl (ap (λ m. and_then m rest) a.0 ∙ d.0, all_append ts us a.1 d.1)
then_decided ts us first rest x y (inl a) (inr d) =
    inr (d.0, d.1, d.2, ap (λ m. and_then m rest) a.0 ∙ d.3, fails_after d.0 d.1 ts us a.1 d.4)
then_decided ts us first rest x y (inr f) d = inr (f.0, f.1, f.2, ap (λ m. and_then m rest) f.3, fails_before f.0 f.1 ts us f.4)

-- an answer behind a netlist, decided where the netlist passes
pub behind_reading : {A X : Type 0} (ts us : List Test) (reading : Reading A) (x : A) (next : A → X) (passed : X) (declined : ℕ → ℕ → X)
    → Decided ts reading (accepted x) refused → (AllPass ts → Decided us (next x) passed declined)
    → Decided (ts ++ us) (elim reading [ refused r p ↦ declined r p | accepted y ↦ next y ]) passed declined
behind_reading {A = A} {X = X} ts us reading x next passed declined = go
  where
    answer : Reading A → X
    answer m = elim m [ refused r p ↦ declined r p | accepted y ↦ next y ]

    behind : (reading ≡ accepted x) × AllPass ts → Decided us (next x) passed declined → Decided (ts ++ us) (answer reading) passed declined
    behind a (inl d) = inl (ap answer a.0 ∙ d.0, all_append ts us a.1 d.1)
    behind a (inr d) = inr (d.0, d.1, d.2, ap answer a.0 ∙ d.3, fails_after d.0 d.1 ts us a.1 d.4)

    go : Decided ts reading (accepted x) refused → (AllPass ts → Decided us (next x) passed declined) → Decided (ts ++ us) (answer reading) passed declined
    go (inl a) d = behind a (d a.1)
    go (inr f) d = inr (f.0, f.1, f.2, ap answer f.3, fails_before f.0 f.1 ts us f.4)

-- ---- records of one kind, one after another

module _ {A : Type 0} (refusal : List A → ℕ) (place : ℕ → ℕ) (fields : ℕ → A) where
  abbrev first : ℕ → List A
  first = first_records fields

  pub read_more : (k j : ℕ) → refusal (first j) ≡ 0 → read_records refusal place fields (suc k) (first j) ≡ read_records refusal place fields k (first (suc j))
  unfolding read_records first_records
  read_more k j e = rw (e, length-first fields j)

  pub read_stops : (k j : ℕ) → 0 < refusal (first j) → read_records refusal place fields (suc k) (first j) ≡ refused (refusal (first j)) (place j)
  unfolding read_records
  read_stops k j h = go (refusal (first j)) refl
    where
      go : (r : ℕ) → refusal (first j) ≡ r → read_records refusal place fields (suc k) (first j) ≡ refused (refusal (first j)) (place j)
      go zero e = absurd (omega arith)
      go (suc r) e = rw (e, length-first fields j)

  module _ (tests : ℕ → List Test) (each : (k : ℕ) → RefusedBy (tests k) (refusal (first k)) (place k)) where
    from_decided : (k j : ℕ) → AllPass (first_tests tests j)
        → Decided (first_tests tests (j + k)) (read_records refusal place fields k (first j)) (accepted (first (j + k))) refused
    unfolding read_records first_tests
    from_decided zero j a = let e : j + 0 ≡ j = omega arith in rw e (inl (refl, a))
    from_decided (suc k) j a = go (each j) (from_decided k (suc j))
      where
        Result : Type 0
        Result = Decided (first_tests tests (j + suc k)) (read_records refusal place fields (suc k) (first j)) (accepted (first (j + suc k))) refused

        further : suc j + k ≡ j + suc k
        further = omega arith

        go : RefusedBy (tests j) (refusal (first j)) (place j)
            → (AllPass (first_tests tests (suc j))
            → Decided (first_tests tests (suc j + k)) (read_records refusal place fields k (first (suc j))) (accepted (first (suc j + k))) refused)
            → Result
        go (inl d) more = rw (read_more k j d.0, ← further) (more (all_append (first_tests tests j) (tests j) a d.1))
        go (inr f) more = inr (
          refusal (first j),
          place j,
          f.0,
          read_stops k j f.0,
          rw (← further) (fails_among (refusal (first j)) (place j) tests (suc j) k (fails_after (refusal (first j)) (place j) (first_tests tests j) (tests j) a f.1)),
        )

    pub records_decided : (k : ℕ) → Decided (first_tests tests k) (read_records refusal place fields k []) (accepted (first k)) refused
    unfolding first_tests first_records
    records_decided k = let e : 0 + k ≡ k = omega arith in rw e at (from_decided k 0 tt)
