-- The search for a byte is the library's. Assumes nothing.
use Rattle.std.proofs.Common.{◌≡◌, refl, ◌+◌, ◌-◌, ◌≤◌, ℕ, List, Bool, true, false, cond, Option, length, take, drop, nat_eq, nat_lt, ltb-false, not, arith, sym, ap, ◌∙◌}
use Rattle.std.proofs.lemmas.List.Recursion.{is_position_or_len}
use Rattle.std.proofs.lemmas.List.Sums.{prefix_len-le-length}
use Rattle.std.proofs.lemmas.List.{drop-take}
use Rattle.std.specs.List.{position, position_or_len}
use Rattle.std.specs.Prelude.{MatchOption}
use Rattle.byte_slices.specs.Search.{index_of, index_after, slice}

after : (here : Bool) (i : ℕ) → index_after here i ≡ cond here 0 (1 + i)
unfolding index_after
after true i = refl
after false i = omega arith

index_of-position : (wanted : ℕ) (bs : List ℕ) → index_of wanted bs ≡ position_or_len (λ b. nat_eq b wanted) bs
unfolding index_of
index_of-position wanted bs = is_position_or_len (index_of wanted) (λ b. nat_eq b wanted) refl (λ b bs. after (nat_eq b wanted) (index_of wanted bs)) bs

-- what a search gives, where the end stands for none
pub found : (wanted : ℕ) (bs : List ℕ) (place : Option ℕ) (start end r : ℕ) (Placed : ℕ → Type 0) → place ≡ position (λ b. nat_eq b wanted) bs
    → start + length bs ≡ end
    → MatchOption place (r ≡ end) Placed
    → ((i : ℕ) → Placed i → r ≡ start + i)
    → r ≡ start + index_of wanted bs
found wanted bs place start end r Placed e l m at = rw (index_of-position wanted bs) (go (nat_lt n (length bs)) refl)
  where
    n : ℕ
    n = position_or_len (λ b. nat_eq b wanted) bs

    go : (inside : Bool) → nat_lt n (length bs) ≡ inside → r ≡ start + n
    go true t = at n (rw (e, t) at m)
    go false t =
        let none : r ≡ end = rw (e, t) at m in
        omega (arith, none, l, ltb-false n (length bs) t, prefix_len-le-length (λ b. not (nat_eq b wanted)) bs)

pub slice-in-bytes : (start end : ℕ) (bs : List ℕ) → start ≤ end → end ≤ length bs → take (end - start) (drop start bs) ≡ slice start end bs
unfolding slice
slice-in-bytes start end bs h k = let e : start + (end - start) ≡ end = omega arith in
    sym (ap (λ n. drop start (take n bs)) (sym e) ∙ drop-take start (end - start) bs)
