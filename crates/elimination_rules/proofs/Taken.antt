-- Taken occurrences never overlap, and no other choice without overlap takes more.
-- Assumes nothing.
use Prim.Native.Nat.{ℕ, suc, ◌+◌, ◌≤◌}
use mathlib.Core.Path.{◌≡◌, refl, sym, ◌∙◌, ap}
use mathlib.Core.Logic.{◌⊎◌, inl, inr, ⊎_elim}
use mathlib.Core.Bool.{Bool, true, false, ◌||◌}
use mathlib.Core.List.Memᴰ
use mathlib.Core.List.{List, [], ◌∷◌, Memᴰ}
use native.Mathlib.Omega.{arith}
use lib.ListN.{length}
use Rattle.elimination_rules.specs.declared.Divisor.{Divisor}
use Rattle.elimination_rules.specs.Rows.{Row, Ascending, EachRow}
use Rattle.elimination_rules.specs.Divisors.{Pair, co_divisor, same_place, overlap, overlaps_any, occurrences, taking, taken, score}
use Rattle.elimination_rules.proofs.Tests.{by_test, by_bool, clash, or_cases, or_left, or_right, or_no_left, or_no_right}
use Rattle.elimination_rules.proofs.Same.{SamePlace, same_place_lem, place_same}
use Rattle.elimination_rules.proofs.RowOrder.{Placed, Occurrence, occurrence, all-occurrences, occurrence_placed, CoDivisorsRise, occurrences_rise}

-- ---- overlap is sharing a place

pub data Shares (x y : Pair) : Type 0 where
  first-first : SamePlace x.first y.first → Shares x y
  first-second : SamePlace x.first y.second → Shares x y
  second-first : SamePlace x.second y.first → Shares x y
  second-second : SamePlace x.second y.second → Shares x y

pub shares : (x y : Pair) → overlap x y ≡ true → Shares x y
shares x y e =
    let a : Bool = same_place x.first y.first in
    let b : Bool = same_place x.first y.second in
    let c : Bool = same_place x.second y.first in
    let d : Bool = same_place x.second y.second in
    ⊎_elim
    (λ h. ⊎_elim
    (λ k. ⊎_elim (λ l. first-first (same_place_lem x.first y.first l)) (λ l. first-second (same_place_lem x.first y.second l)) (or_cases a b k))
    (λ k. second-first (same_place_lem x.second y.first k))
    (or_cases (a || b) c h))
    (λ h. second-second (same_place_lem x.second y.second h))
    (or_cases (a || b || c) d e)

pub sharing : (x y : Pair) → Shares x y → overlap x y ≡ true
sharing x y s =
    let a : Bool = same_place x.first y.first in
    let b : Bool = same_place x.first y.second in
    let c : Bool = same_place x.second y.first in
    let d : Bool = same_place x.second y.second in
    go a b c d refl refl refl refl s
  where
    go : (a b c d : Bool) → same_place x.first y.first ≡ a → same_place x.first y.second ≡ b → same_place x.second y.first ≡ c → same_place x.second y.second ≡ d
        → Shares x y → a || b || c || d ≡ true
    go a b c d e f g h (first-first p) = or_left (a || b || c) d (or_left (a || b) c (or_left a b (sym e ∙ place_same x.first y.first p)))
    go a b c d e f g h (first-second p) = or_left (a || b || c) d (or_left (a || b) c (or_right a b (sym f ∙ place_same x.first y.second p)))
    go a b c d e f g h (second-first p) = or_left (a || b || c) d (or_right (a || b) c (sym g ∙ place_same x.second y.first p))
    go a b c d e f g h (second-second p) = or_right (a || b || c) d (sym h ∙ place_same x.second y.second p)

turned : (x y : Pair) → Shares x y → Shares y x
turned x y (first-first e) = first-first (sym e.0, sym e.1)
turned x y (first-second e) = second-first (sym e.0, sym e.1)
turned x y (second-first e) = first-second (sym e.0, sym e.1)
turned x y (second-second e) = second-second (sym e.0, sym e.1)

pub overlap_turned : (x y : Pair) → overlap x y ≡ true → overlap y x ≡ true
overlap_turned x y e = sharing y x (turned x y (shares x y e))

pub overlap_self : (p : Pair) → overlap p p ≡ true
overlap_self p = sharing p p (first-first (refl, refl))

-- no two places of q and p are the same
pub no_overlap : (q p : Pair) → overlap q p ≡ false
    → (same_place q.first p.first ≡ false) × (same_place q.first p.second ≡ false) × (same_place q.second p.first ≡ false) × (same_place q.second p.second ≡ false)
no_overlap q p h =
    let a : Bool = same_place q.first p.first in
    let b : Bool = same_place q.first p.second in
    let c : Bool = same_place q.second p.first in
    let d : Bool = same_place q.second p.second in
    let h₃ : a || b || c ≡ false = or_no_left (a || b || c) d h in
    let h₂ : a || b ≡ false = or_no_left (a || b) c h₃ in
    (or_no_left a b h₂, or_no_right a b h₂, or_no_right (a || b) c h₃, or_no_right (a || b || c) d h)

pub any_yes : (q p : Pair) (ps : List Pair) → overlap q p ≡ true → overlaps_any q (p ∷ ps) ≡ true
unfolding overlaps_any
any_yes q p ps e = rw (e, overlaps_any)

pub any_no : (q p : Pair) (ps : List Pair) → overlap q p ≡ false → overlaps_any q (p ∷ ps) ≡ overlaps_any q ps
unfolding overlaps_any
any_no q p ps e = rw (e, overlaps_any)

none_overlaps : (q p : Pair) (ps : List Pair) → overlaps_any q (p ∷ ps) ≡ false → (overlap q p ≡ false) × (overlaps_any q ps ≡ false)
none_overlaps q p ps h = by_bool (overlap q p) (λ e. clash (any_yes q p ps e) h) (λ e. (e, sym (any_no q p ps e) ∙ h))

-- ---- taken occurrences never overlap

abbrev pub NoOverlap : List Pair → Type 0
NoOverlap [] = Unit {0}
NoOverlap (p ∷ ps) = ((x : Pair) → Memᴰ x ps → overlap x p ≡ false) × NoOverlap ps

pub taking_yes : (before : List Pair) (p : Pair) (ps : List Pair) → overlaps_any p before ≡ true → taking before (p ∷ ps) ≡ taking before ps
unfolding taking
taking_yes before p ps e = rw (e, taking)

pub taking_no : (before : List Pair) (p : Pair) (ps : List Pair) → overlaps_any p before ≡ false → taking before (p ∷ ps) ≡ p ∷ taking (p ∷ before) ps
unfolding taking
taking_no before p ps e = rw (e, taking)

taking_member : (before ps : List Pair) (x : Pair) → Memᴰ x (taking before ps) → Memᴰ x ps
unfolding taking
taking_member before [] x = λ m. m
taking_member before (p ∷ ps) x = by_test (overlaps_any p before) (taking before ps) (p ∷ taking (p ∷ before) ps) (λ z. Memᴰ x z → Memᴰ x (p ∷ ps))
    (λ e m. Memᴰ.tail (taking_member before ps x m))
    (λ e m. ⊎_elim (λ w. Memᴰ.head w) (λ k. Memᴰ.tail (taking_member (p ∷ before) ps x k)) (Memᴰ.cases_cons m))

taking_free : (before ps : List Pair) (x : Pair) → Memᴰ x (taking before ps) → overlaps_any x before ≡ false
unfolding taking
taking_free before [] x = λ m. absurd (Memᴰ.not-nil m)
taking_free before (p ∷ ps) x = by_test (overlaps_any p before) (taking before ps) (p ∷ taking (p ∷ before) ps) (λ z. Memᴰ x z → overlaps_any x before ≡ false)
    (λ e m. taking_free before ps x m)
    (λ e m. ⊎_elim
    (λ w. ap (λ z. overlaps_any z before) w ∙ e)
    (λ k. (none_overlaps x p before (taking_free (p ∷ before) ps x k)).1)
    (Memᴰ.cases_cons m))

taking-apart : (before ps : List Pair) → NoOverlap (taking before ps)
unfolding taking
taking-apart before [] = tt
taking-apart before (p ∷ ps) = by_test (overlaps_any p before) (taking before ps) (p ∷ taking (p ∷ before) ps) NoOverlap
    (λ e. taking-apart before ps)
    (λ e. ((λ x m. (none_overlaps x p before (taking_free (p ∷ before) ps x m)).0), taking-apart (p ∷ before) ps))

pub taken-apart : (d : Divisor) (r : Row) → NoOverlap (taken d r)
unfolding taken
taken-apart d r = taking-apart [] (occurrences d r)

pub taken_occurrence : (d : Divisor) (r : Row) (x : Pair) → Memᴰ x (taken d r) → Occurrence d r x
unfolding taken
taken_occurrence d r x m = occurrence d r x (taking_member [] (occurrences d r) x m)

taking_rise : (before ps : List Pair) → CoDivisorsRise ps → CoDivisorsRise (taking before ps)
unfolding taking
taking_rise before [] a = tt
taking_rise before (p ∷ ps) a = by_test (overlaps_any p before) (taking before ps) (p ∷ taking (p ∷ before) ps) CoDivisorsRise
    (λ e. taking_rise before ps a.1)
    (λ e. ((λ x m. a.0 x (taking_member (p ∷ before) ps x m)), taking_rise (p ∷ before) ps a.1))

pub taken_rise : (d : Divisor) (r : Row) → CoDivisorsRise (taken d r)
unfolding taken
taken_rise d r = taking_rise [] (occurrences d r) (occurrences_rise d r)

-- ---- the greedy choice, for any pairs of which the later ones that overlap one overlap each other

abbrev Cliques : List Pair → Type 0
Cliques [] = Unit {0}
Cliques (p ∷ ps) =
    ((x y : Pair) → Memᴰ x ps → Memᴰ y ps → overlap x p ≡ true → overlap y p ≡ true → overlap x y ≡ true) × Cliques ps

-- those that do not overlap p
free : Pair → List Pair → List Pair
free p [] = []
free p (q ∷ qs) = elim (overlap q p) [ true ↦ free p qs | false ↦ q ∷ free p qs ]

free_yes : (p q : Pair) (qs : List Pair) → overlap q p ≡ true → free p (q ∷ qs) ≡ free p qs
unfolding free
free_yes p q qs e = rw (e, free)

free_no : (p q : Pair) (qs : List Pair) → overlap q p ≡ false → free p (q ∷ qs) ≡ q ∷ free p qs
unfolding free
free_no p q qs e = rw (e, free)

free_member : (p : Pair) (qs : List Pair) (x : Pair) → Memᴰ x (free p qs) → Memᴰ x qs × (overlap x p ≡ false)
unfolding free
free_member p [] x m = absurd (Memᴰ.not-nil m)
free_member p (q ∷ qs) x m = by_bool (overlap q p)
    (λ e. let h = free_member p qs x (rw (free_yes p q qs e) at m) in (Memᴰ.tail h.0, h.1))
    (λ e. ⊎_elim
    (λ w. (Memᴰ.head w, ap (λ z. overlap z p) w ∙ e))
    (λ k. let h = free_member p qs x k in (Memᴰ.tail h.0, h.1))
    (Memᴰ.cases_cons (rw (free_no p q qs e) at m)))

free_apart : (p : Pair) (qs : List Pair) → NoOverlap qs → NoOverlap (free p qs)
unfolding free
free_apart p [] i = tt
free_apart p (q ∷ qs) i = by_test (overlap q p) (free p qs) (q ∷ free p qs) NoOverlap
    (λ e. free_apart p qs i.1)
    (λ e. ((λ x m. i.0 x (free_member p qs x m).0), free_apart p qs i.1))

free_all : (p : Pair) (qs : List Pair) → ((x : Pair) → Memᴰ x qs → overlap x p ≡ false) → free p qs ≡ qs
unfolding free
free_all p [] h = refl
free_all p (q ∷ qs) h = free_no p q qs (h q (Memᴰ.head refl)) ∙ ap (λ z. q ∷ z) (free_all p qs (λ x m. h x (Memᴰ.tail m)))

-- at most one of a choice without overlap overlaps p
free_length : (p : Pair) (qs : List Pair) → NoOverlap qs
    → ((x y : Pair) → Memᴰ x qs → Memᴰ y qs → overlap x p ≡ true → overlap y p ≡ true → overlap x y ≡ true)
    → length qs ≤ suc (length (free p qs))
unfolding free
free_length p [] i g = omega arith
free_length p (q ∷ qs) i g = by_bool (overlap q p)
    (λ e. rw (free_yes p q qs e) (omega (
      arith,
      ap length (free_all p qs (λ x m. by_bool (overlap x p)
          (λ f. clash (g x q (Memᴰ.tail m) (Memᴰ.head refl) f e) (i.0 x m))
          (λ f. f))),
    )))
    (λ e. rw (free_no p q qs e) (omega (arith, free_length p qs i.1 (λ x y mx my. g x y (Memᴰ.tail mx) (Memᴰ.tail my)))))

greedy : (before ps qs : List Pair) → Cliques ps → NoOverlap qs → ((q : Pair) → Memᴰ q qs → overlaps_any q before ≡ false)
    → ((q : Pair) → Memᴰ q qs → Memᴰ q ps) → length qs ≤ length (taking before ps)
greedy before [] [] g i f s = omega arith
greedy before [] (q ∷ qs) g i f s = absurd (Memᴰ.not-nil (s q (Memᴰ.head refl)))
greedy before (p ∷ ps) qs g i f s = by_bool (overlaps_any p before)
    (λ e. rw (taking_yes before p ps e) (greedy before ps qs g.1 i f (λ q m. ⊎_elim
    (λ w. clash e (ap (λ z. overlaps_any z before) (sym w) ∙ f q m))
    (λ k. k)
    (Memᴰ.cases_cons (s q m)))))
    (λ e.
    let rest : length (free p qs) ≤ length (taking (p ∷ before) ps) =
    greedy (p ∷ before) ps (free p qs) g.1 (free_apart p qs i)
    (λ q m. let h = free_member p qs q m in any_no q p before h.1 ∙ f q h.0)
    (λ q m. let h = free_member p qs q m in ⊎_elim
    (λ w. clash (ap (λ z. overlap z p) w ∙ overlap_self p) h.1)
    (λ k. k)
    (Memᴰ.cases_cons (s q h.0))) in
    let one : length qs ≤ suc (length (free p qs)) = free_length p qs i
    (λ x y mx my ox oy. ⊎_elim
    (λ wx. overlap_turned y x (ap (λ z. overlap y z) wx ∙ oy))
    (λ kx. ⊎_elim
    (λ wy. ap (λ z. overlap x z) wy ∙ ox)
    (λ ky. g.0 x y kx ky ox oy)
    (Memᴰ.cases_cons (s y my)))
    (Memᴰ.cases_cons (s x mx))) in
    rw (taking_no before p ps e) (omega arith))

-- ---- occurrences of one divisor by ascending co-divisor are such pairs

-- an occurrence with no smaller co-divisor that overlaps p has p's co-divisor, or begins where p ends
abbrev Touches : Divisor → ℕ → ℕ → Type 0
Touches d k j = (j ≡ k) ⊎ ((d.a ≡ d.b) × (d.ea + j ≡ d.eb + k))

touches : (d : Divisor) (p x : Pair) → Placed d p → Placed d x → co_divisor p ≤ co_divisor x → Shares x p → Touches d (co_divisor p) (co_divisor x)
touches d p x f g h (first-first e) = inl (omega (arith, f.first-exponent, g.first-exponent))
touches d p x f g h (first-second e) =
    inr (sym g.first-symbol ∙ e.0 ∙ f.second-symbol, sym g.first-exponent ∙ e.1 ∙ f.second-exponent)
touches d p x f g h (second-first e) =
    absurd (omega (arith, f.rising (sym f.first-symbol ∙ sym e.0 ∙ g.second-symbol), g.second-exponent, f.first-exponent))
touches d p x f g h (second-second e) = inl (omega (arith, f.second-exponent, g.second-exponent))

meet : (d : Divisor) (k : ℕ) (x y : Pair) → Placed d x → Placed d y → Touches d k (co_divisor x) → Touches d k (co_divisor y) → Shares x y
meet d k x y f g (inl a) (inl b) =
    first-first (f.first-symbol ∙ sym g.first-symbol, omega (arith, f.first-exponent, g.first-exponent))
meet d k x y f g (inl a) (inr b) =
    second-first (f.second-symbol ∙ sym b.0 ∙ sym g.first-symbol, omega (arith, f.second-exponent, g.first-exponent))
meet d k x y f g (inr a) (inl b) =
    first-second (f.first-symbol ∙ a.0 ∙ sym g.second-symbol, omega (arith, f.first-exponent, g.second-exponent))
meet d k x y f g (inr a) (inr b) =
    first-first (f.first-symbol ∙ sym g.first-symbol, omega (arith, f.first-exponent, g.first-exponent))

cliques : (d : Divisor) (ps : List Pair) → CoDivisorsRise ps → ((x : Pair) → Memᴰ x ps → Placed d x) → Cliques ps
cliques d [] a o = tt
cliques d (p ∷ ps) a o = (
  (λ x y mx my ox oy.
      let touch : (z : Pair) → Memᴰ z ps → overlap z p ≡ true → Touches d (co_divisor p) (co_divisor z) =
      λ z m e. touches d p z (o p (Memᴰ.head refl)) (o z (Memᴰ.tail m)) (a.0 z m) (shares z p e) in
      sharing x y (meet d (co_divisor p) x y (o x (Memᴰ.tail mx)) (o y (Memᴰ.tail my)) (touch x mx ox) (touch y my oy))),
  cliques d ps a.1 (λ x m. o x (Memᴰ.tail m)),
)

-- ---- no other choice without overlap takes more: of a row, and of all rows

pub record Choice (d : Divisor) (r : Row) (qs : List Pair) : Type 0 where
  pub occur : (q : Pair) → Memᴰ q qs → Occurrence d r q
  pub apart : NoOverlap qs

pub taken_choice : (d : Divisor) (r : Row) → Choice d r (taken d r)
taken_choice d r = record { occur = taken_occurrence d r; apart = taken-apart d r }

free_of-none : (q : Pair) → overlaps_any q [] ≡ false
unfolding overlaps_any
free_of-none q = refl

pub taken-most : (d : Divisor) (r : Row) → Ascending r → (qs : List Pair) → Choice d r qs → length qs ≤ length (taken d r)
unfolding taken
taken-most d r a qs c = greedy [] (occurrences d r) qs
    (cliques d (occurrences d r) (occurrences_rise d r) (λ x m. occurrence_placed d r a x (occurrence d r x m)))
    c.apart (λ q m. free_of-none q) (λ q m. all-occurrences d r q (c.occur q m))

-- a choice for each row
abbrev pub Choices : Divisor → List Row → List (List Pair) → Type 0
Choices d [] [] = Unit {0}
Choices d [] (qs ∷ qss) = ⊥
Choices d (r ∷ rs) [] = ⊥
Choices d (r ∷ rs) (qs ∷ qss) = Choice d r qs × Choices d rs qss

abbrev pub chosen : List (List Pair) → ℕ
chosen [] = 0
chosen (qs ∷ qss) = length qs + chosen qss

pub score-most : (d : Divisor) (rows : List Row) → EachRow Ascending rows → (qss : List (List Pair)) → Choices d rows qss → chosen qss ≤ score d rows
unfolding score
score-most d [] a [] c = omega arith
score-most d [] a (qs ∷ qss) c = absurd c
score-most d (r ∷ rs) a [] c = absurd c
score-most d (r ∷ rs) a (qs ∷ qss) c = omega (arith, taken-most d r a.0 qs c.0, score-most d rs a.1 qss c.1)
