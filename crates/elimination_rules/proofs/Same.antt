-- What the tests of the definitions say: of the same place, the same term, the same divisor, and of order.
-- Assumes nothing.
use mathlib.Core.Path.{◌≡◌, refl, sym, ◌∙◌, ap}
use mathlib.Core.Logic.{inl, inr, ⊎_elim, ◌↔◌}
use mathlib.Core.Bool.{Bool, true, false, ◌&&◌}
use lib.Dec.{eqb, ltb}
use borrow.Author.Tests.{not-true, eqb-true, eq-eqb, ltb-true, lt-ltb}
use Rattle.term.specs.declared.Term.{Term}
use Rattle.elimination_rules.specs.declared.Divisor.{Divisor}
use Rattle.elimination_rules.specs.Rows.{Precedes}
use Rattle.elimination_rules.specs.Divisors.{same_sign, same_divisor, same_place, precedes}
use Rattle.elimination_rules.specs.Elimination.{same_term}
use Rattle.elimination_rules.proofs.Tests.{by_bool, clash, and_left, and_right, and_both, or_cases, or_left, or_right}

same_sign_lem : (a b : Bool) → same_sign a b ≡ true → a ≡ b
same_sign_lem true b e = sym e
same_sign_lem false b e = sym (not-true b e)

same-sign_self : (b : Bool) → same_sign b b ≡ true
same-sign_self true = refl
same-sign_self false = refl

-- a place is a symbol and exponent
abbrev pub SamePlace : Term → Term → Type 0
SamePlace t u = (t.symbol ≡ u.symbol) × (t.exponent ≡ u.exponent)

pub same_place_lem : (t u : Term) → same_place t u ≡ true → SamePlace t u
same_place_lem t u e = (
  eqb-true t.symbol u.symbol (and_left _ (eqb t.exponent u.exponent) e),
  eqb-true t.exponent u.exponent (and_right (eqb t.symbol u.symbol) _ e),
)

pub place_same : (t u : Term) → SamePlace t u → same_place t u ≡ true
place_same t u e = and_both (eqb t.symbol u.symbol) (eqb t.exponent u.exponent) (eq-eqb _ _ e.0) (eq-eqb _ _ e.1)

pub same_term_lem : (t u : Term) → same_term t u ≡ true → t ≡ u
same_term_lem t u e =
    let p : SamePlace t u = same_place_lem t u (and_left (same_place t u) (same_sign t.negative u.negative) e) in
    let n : t.negative ≡ u.negative = same_sign_lem _ _ (and_right (same_place t u) (same_sign t.negative u.negative) e) in
    λ i. record { symbol = p.0 i; exponent = p.1 i; negative = n i }

pub term_same : (t u : Term) → t ≡ u → same_term t u ≡ true
term_same t u e =
    ap (λ x. same_term x u) e ∙ and_both (same_place u u) (same_sign u.negative u.negative) (place_same u u (refl, refl)) (same-sign_self u.negative)

-- a term at another place is another term
pub other_place : (t u : Term) → same_place t u ≡ false → same_term t u ≡ false
other_place t u e = by_bool (same_term t u) (λ f. clash (and_left (same_place t u) (same_sign t.negative u.negative) f) e) (λ f. f)

pub same-divisor : (d e : Divisor) → same_divisor d e ≡ true → d ≡ e
same-divisor d e h =
    let a : Bool = eqb d.a e.a in
    let b : Bool = eqb d.b e.b in
    let ea : Bool = eqb d.ea e.ea in
    let eb : Bool = eqb d.eb e.eb in
    let m : Bool = same_sign d.minus e.minus in
    let h₄ : a && b && ea && eb ≡ true = and_left _ m h in
    let h₃ : a && b && ea ≡ true = and_left _ eb h₄ in
    let h₂ : a && b ≡ true = and_left _ ea h₃ in
    let pa : d.a ≡ e.a = eqb-true _ _ (and_left a b h₂) in
    let pb : d.b ≡ e.b = eqb-true _ _ (and_right a b h₂) in
    let pea : d.ea ≡ e.ea = eqb-true _ _ (and_right (a && b) ea h₃) in
    let peb : d.eb ≡ e.eb = eqb-true _ _ (and_right (a && b && ea) eb h₄) in
    let pm : d.minus ≡ e.minus = same_sign_lem _ _ (and_right (a && b && ea && eb) m h) in
    λ i. record { a = pa i; b = pb i; ea = pea i; eb = peb i; minus = pm i }

pub divisor-same : (d e : Divisor) → d ≡ e → same_divisor d e ≡ true
divisor-same d e h = ap (λ x. same_divisor x e) h ∙ self e
  where
    self : (d : Divisor) → same_divisor d d ≡ true
    self d = rw (eq-eqb d.a d.a refl, eq-eqb d.b d.b refl, eq-eqb d.ea d.ea refl, eq-eqb d.eb d.eb refl) (same-sign_self d.minus)

-- the test of order is the order of a row
pub precedes-is : (t u : Term) → (precedes t u ≡ true) ↔ Precedes t u
precedes-is t u = (
  (λ h. ⊎_elim
      (λ l. inl (ltb-true t.symbol u.symbol l))
      (λ r. inr (
        eqb-true t.symbol u.symbol (and_left _ (ltb t.exponent u.exponent) r),
        ltb-true t.exponent u.exponent (and_right (eqb t.symbol u.symbol) _ r),
      ))
      (or_cases (ltb t.symbol u.symbol) (eqb t.symbol u.symbol && ltb t.exponent u.exponent) h)),
  (λ h. ⊎_elim
      (λ l. or_left (ltb t.symbol u.symbol) (eqb t.symbol u.symbol && ltb t.exponent u.exponent) (lt-ltb t.symbol u.symbol l))
      (λ r. or_right (ltb t.symbol u.symbol) (eqb t.symbol u.symbol && ltb t.exponent u.exponent)
      (and_both (eqb t.symbol u.symbol) (ltb t.exponent u.exponent) (eq-eqb t.symbol u.symbol r.0) (lt-ltb t.exponent u.exponent r.1)))
      h),
)
