-- The fields of the first k records of a kind, as a list.
-- Assumes nothing.
use Prim.Native.Nat.{ℕ, zero, suc, ◌<◌, ◌≤◌}
use mathlib.Core.Path.{◌≡◌, refl, sym, ◌∙◌, ap}
use mathlib.Core.Logic.{◌⊎◌, inl, inr, ⊎_elim}
use mathlib.Core.List.{List, [], ◌∷◌, ◌++◌}
use native.Mathlib.Omega.{arith}
use native.Mathlib.Decide.{dec_lt}
use lib.ListN.{length, get_or, take, drop, length-append, get_or-append}
use lib.Seq.{take-append-le, take_all, get_or_at, get_or-append_seam, take_at, split_at, ext_get_or}
use Rattle.layout_rules.specs.Places.{first_records}

pub last_or_earlier : (i k : ℕ) → i < suc k → (i < k) ⊎ (i ≡ k)
last_or_earlier i k h = go (dec_lt i k)
  where
    go : Dec (i < k) → (i < k) ⊎ (i ≡ k)
    go (yes l) = inl l
    go (no l) = inr (omega arith)

module _ {A : Type 0} (fields : ℕ → A) where
  abbrev first : ℕ → List A
  first = first_records fields

  pub length-first : (k : ℕ) → length (first k) ≡ k
  unfolding first_records
  length-first zero = refl
  length-first (suc k) = length-append (first k) (fields k ∷ []) ∙ omega (arith, length-first k)

  pub get_d_first : (k i : ℕ) (d : A) → i < k → get_or (first k) i d ≡ fields i
  unfolding first_records
  get_d_first zero i d h = absurd (omega arith)
  get_d_first (suc k) i d h =
      let earlier = get_d_first k i d in
      ⊎_elim (λ l. get_or-append (first k) (fields k ∷ []) d i (omega (arith, length-first k)) ∙ earlier l)
      (λ e. get_or_at (first k) (fields k) [] d i (omega (arith, length-first k)) ∙ ap fields (sym e)) (last_or_earlier i k h)

  pub take-first : (k i : ℕ) → i ≤ k → take i (first k) ≡ first i
  unfolding first_records
  take-first zero i h = let e : i ≡ 0 = omega arith in rw e
  take-first (suc k) i h =
      let earlier = take-first k i in
      ⊎_elim (λ l. take-append-le i (first k) (fields k ∷ []) (omega (arith, length-first k)) ∙ earlier (omega arith))
      (λ e. rw e (take_all (suc k) (first (suc k)) (omega (arith, length-first (suc k))))) (last_or_earlier i (suc k) (omega arith))

  -- record i stands behind those before it
  pub first_split : (k i : ℕ) → i < k → first k ≡ first i ++ fields i ∷ drop (suc i) (first k)
  first_split k i h =
      let d = fields i in
      split_at (first k) i d (omega (arith, length-first k))
      ∙ ap (λ l. l ++ get_or (first k) i d ∷ drop (suc i) (first k)) (take-first k i (omega arith))
      ∙ ap (λ x. first i ++ x ∷ drop (suc i) (first k)) (get_d_first k i d h)

  -- what stands behind others is the record of their number
  pub first-before : (k : ℕ) (before after : List A) (x : A) → first k ≡ before ++ x ∷ after
      → (length before < k) × (first (length before) ≡ before) × (fields (length before) ≡ x)
  first-before k before after x e =
      let h : length before < k = omega (arith, length-first k, ap length e, length-append before (x ∷ after)) in (
        h,
        sym (take-first k (length before) (omega arith)) ∙ ap (take (length before)) e ∙ take_at before (x ∷ after) (length before) refl,
        sym (get_d_first k (length before) x h) ∙ ap (λ l. get_or l (length before) x) e ∙ get_or-append_seam before x after x,
      )

  -- records one by one are a list's
  pub first-is : (k : ℕ) (xs : List A) → length xs ≡ k → ((i : ℕ) (d : A) → i < k → fields i ≡ get_or xs i d) → first k ≡ xs
  first-is zero [] l each = unfold first_records in refl
  first-is zero (x ∷ xs) l each = absurd (omega arith)
  first-is (suc k) [] l each = absurd (omega arith)
  first-is (suc k) (x ∷ xs) l each =
      ext_get_or x (first (suc k)) (x ∷ xs) (length-first (suc k) ∙ sym l)
      (λ i h. get_d_first (suc k) i x (omega (arith, length-first (suc k))) ∙ each i x (omega (arith, length-first (suc k))))
