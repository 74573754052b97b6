-- A divisor's key and rank: a key is that of one divisor, and on divisors within the limits the lower rank is that of the divisor which
-- goes first.
-- Of the depths, only those of symbols in the rows count.
-- Assumes nothing.
use Prim.Native.Nat.{ℕ, zero, suc, ◌+◌, ◌*◌, ◌/◌, ◌%◌, ◌≤◌, ◌<◌, max}
use mathlib.Core.Path.{◌≡◌, refl, sym, ◌∙◌, ap, ap₂}
use mathlib.Core.Logic.{inl}
use mathlib.Core.Bool.{Bool, true, false, not, ◌&&◌, ◌||◌, and-false, or-false}
use mathlib.Core.List.{List, Memᴰ}
use native.Mathlib.Nat.{mul-le-mul_right}
use native.Mathlib.Omega.{arith}
use lib.Dec.{ltb, eqb}
use lib.ListN.{get_or}
use Rattle.elimination_rules.specs.declared.Divisor.{Divisor}
use Rattle.elimination_rules.specs.Rows.{Row, WellFormed, EachRow}
use Rattle.elimination_rules.specs.Divisors.{Pair, divisor_of}
use Rattle.elimination_rules.specs.Elimination.{divisor_depth, smaller, before, shallower, all_pairs, pick}
use Rattle.elimination_rules.specs.Rank.{symbol_room, exponent_room, sign_key, divisor_key, key_room, key_divisor, divisor_rank, lower_rank}
use Rattle.elimination_rules.proofs.Order.{DivisorWithin, divisor-within}
use Rattle.elimination_rules.proofs.Pick.{pick_agrees}
use Rattle.elimination_rules.proofs.Smaller.{by_order, yes_smaller, no_smaller, smaller_equal}
use Rattle.elimination_rules.proofs.PairScores.{pair-scores}

-- ---- a number in front of another

-- x, and behind it y, which has room below size
module _ (size x y x' y' : ℕ) (otherwise : Bool) (h : y < size) (h' : y' < size) where
  next_multiple : (a b : ℕ) → a < b → a * size + size ≤ b * size
  next_multiple a b l = let m : suc a * size ≤ b * size = mul-le-mul_right size l in omega (arith, m)

  abbrev whole : ℕ
  whole = x * size + y

  abbrev whole' : ℕ
  whole' = x' * size + y'

  in_front : smaller (x * size + y) (x' * size + y') otherwise ≡ smaller x x' (smaller y y' otherwise)
  in_front = by_order x x'
      (λ l. yes_smaller whole whole' otherwise (inl (omega (arith, next_multiple x x' l))) ∙ sym (yes_smaller x x' (smaller y y' otherwise) (inl l)))
      (λ e. only-behind (ap (λ (z : ℕ). z * size) e) ∙ sym (smaller_equal x x' (smaller y y' otherwise) e))
      (λ l. no_smaller whole whole' otherwise (omega (arith, next_multiple x' x l)) (λ s. absurd (omega (arith, next_multiple x' x l))) ∙ sym (no_smaller x x' (smaller y y' otherwise) (omega arith) (λ s. absurd (omega arith))))
    where
      only-behind : x * size ≡ x' * size → smaller whole whole' otherwise ≡ smaller y y' otherwise
      only-behind e = by_order y y'
          (λ l. yes_smaller whole whole' otherwise (inl (omega (arith, e))) ∙ sym (yes_smaller y y' otherwise (inl l)))
          (λ f. smaller_equal whole whole' otherwise (omega (arith, e)) ∙ sym (smaller_equal y y' otherwise f))
          (λ l. no_smaller whole whole' otherwise (omega (arith, e)) (λ s. absurd (omega (arith, e))) ∙ sym (no_smaller y y' otherwise (omega arith) (λ s. absurd (omega arith))))

test_alone : (x y : ℕ) → ltb x y ≡ smaller x y false
test_alone x y = sym (ap (λ (b : Bool). ltb x y || b) (and-false (eqb x y)) ∙ or-false (ltb x y))

-- ---- the key, and the rank

signs_in_order : (m n : Bool) → smaller (sign_key m) (sign_key n) false ≡ not m && n
signs_in_order true true = refl
signs_in_order true false = refl
signs_in_order false true = refl
signs_in_order false false = refl

pub sign-room : (m : Bool) → sign_key m < 2
sign-room true = omega arith
sign-room false = omega arith

-- so many symbols and positions have room
module _ (positions symbol : ℕ) (enough_positions : positions ≤ exponent_room) (enough_symbols : symbol ≤ symbol_room) where
  module _ (d e : Divisor) (u : DivisorWithin positions symbol d) (v : DivisorWithin positions symbol e) where
    key-order : smaller (divisor_key d) (divisor_key e) false ≡ before d e
    key-order =
        let signs : Bool = smaller (sign_key d.minus) (sign_key e.minus) false in
        in_front 2 _ (sign_key d.minus) _ (sign_key e.minus) false (sign-room d.minus) (sign-room e.minus)
        ∙ in_front exponent_room _ d.eb _ e.eb signs (omega (arith, u.eb)) (omega (arith, v.eb))
        ∙ in_front exponent_room _ d.ea _ e.ea _ (omega (arith, u.ea)) (omega (arith, v.ea))
        ∙ in_front symbol_room d.a d.b e.a e.b _ (omega (arith, u.b)) (omega (arith, v.b))
        ∙ ap (λ (b : Bool). smaller d.a e.a (smaller d.b e.b (smaller d.ea e.ea (smaller d.eb e.eb b)))) (signs_in_order d.minus e.minus)

    pub rank_order : (depths : List ℕ) → lower_rank depths d e ≡ shallower depths d e
    rank_order depths =
        test_alone (divisor_rank depths d) (divisor_rank depths e)
        ∙ in_front key_room (divisor_depth depths d) (divisor_key d) (divisor_depth depths e) (divisor_key e) false (key-room d u) (key-room e v)
        ∙ ap (smaller (divisor_depth depths d) (divisor_depth depths e)) key-order
      where
        key-room : (x : Divisor) → DivisorWithin positions symbol x → divisor_key x < key_room
        key-room x w = omega (arith, sign-room x.minus, w.a, w.b, w.ea, w.eb)

-- ---- the divisor of a key

sign-of-key : (m : Bool) → eqb (sign_key m) 1 ≡ m
sign-of-key true = refl
sign-of-key false = refl

key-of-sign : (n : ℕ) → n < 2 → sign_key (eqb n 1) ≡ n
key-of-sign zero h = refl
key-of-sign (suc zero) h = refl
key-of-sign (suc (suc n)) h = absurd (omega arith)

pub key-divisor : (d : Divisor) → d.b < symbol_room → d.ea < exponent_room → d.eb < exponent_room → key_divisor (divisor_key d) ≡ d
unfolding key_divisor
key-divisor d b ea eb =
    let s : sign_key d.minus < 2 = sign-room d.minus in
    let key : ℕ = divisor_key d in
    let is-a : key / (symbol_room * exponent_room * exponent_room * 2) ≡ d.a = omega arith in
    let is_b : key / (exponent_room * exponent_room * 2) % symbol_room ≡ d.b = omega arith in
    let is-ea : key / (exponent_room * 2) % exponent_room ≡ d.ea = omega arith in
    let is-eb : key / 2 % exponent_room ≡ d.eb = omega arith in
    let is-sign : key % 2 ≡ sign_key d.minus = omega arith in
    rw (is-a, is_b, is-ea, is-eb, is-sign, sign-of-key d.minus) refl

pub divisor-key : (key : ℕ) → divisor_key (key_divisor key) ≡ key
unfolding key_divisor
divisor-key key =
    let s : sign_key (eqb (key % 2) 1) ≡ key % 2 = key-of-sign (key % 2) (omega arith) in
    let symbols : key / 2048 ≡ key / 1048576 * 512 + key / 2048 % 512 = omega arith in
    let first : key / 64 ≡ key / 2048 * 32 + key / 64 % 32 = omega arith in
    let second : key / 2 ≡ key / 64 * 32 + key / 2 % 32 = omega arith in
    let whole : key ≡ key / 2 * 2 + key % 2 = omega arith in
    omega (arith, s, symbols, first, second, whole)

-- ---- the pick

module _ (positions symbol : ℕ) (rows : List Row) (well_formed : EachRow (WellFormed positions symbol) rows) where
  within : (p : Pair) → Memᴰ p (all_pairs rows) → DivisorWithin positions symbol (divisor_of p)
  within p m = divisor-within positions symbol (divisor_of p) rows well_formed (pair-scores positions symbol rows well_formed p m)

  pub pick_by_depths : (depths others : List ℕ) → ((s : ℕ) → s < symbol → get_or depths s 0 ≡ get_or others s 0) → pick (shallower depths) rows ≡ pick (shallower others) rows
  pick_by_depths depths others same = pick_agrees (shallower depths) (shallower others) rows (λ p q m n.
      ap₂ (λ (x y : ℕ). smaller x y (before (divisor_of p) (divisor_of q))) (depth_same p m) (depth_same q n))
    where
      depth_same : (p : Pair) → Memᴰ p (all_pairs rows) → divisor_depth depths (divisor_of p) ≡ divisor_depth others (divisor_of p)
      depth_same p m = let w = within p m in ap₂ (λ (x y : ℕ). suc (max x y)) (same (divisor_of p).a w.a) (same (divisor_of p).b w.b)
