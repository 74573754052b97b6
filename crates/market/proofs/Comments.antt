-- Comments, one after another: how many bytes they have from a place on.
-- Assumes nothing.
use Prim.Native.Nat.{ℕ, suc, ◌+◌, ◌<◌}
use mathlib.Core.Path.{◌≡◌, refl, sym, ap, ◌∙◌}
use mathlib.Core.Bool.{true, false, true≢false}
use mathlib.Core.List.{List, [], ◌∷◌, flatten}
use native.Mathlib.Omega.{arith}
use lib.ListN.{length, get_or, drop}
use lib.Seq.{drop-drop}
use Rattle.market_rules.specs.Lines.{lines, line, line_place, leading_count}
use Rattle.market_rules.specs.Forms.{is_comment}
use Rattle.market_rules.specs.Market.{comment_count}
use Rattle.market_rules.proofs.LineLaws.{lines-behind, place-behind, leading_one, leading_none}
use Rattle.market.specs.Parts.{comment_bytes}

one_comment : (ls : List (List ℕ)) → is_comment (get_or ls 0 []) ≡ true → comment_count ls ≡ suc (comment_count (drop 1 ls))
one_comment [] e = absurd (true≢false (sym e))
one_comment (first ∷ more) e = leading_one is_comment first more e

no_comment : (ls : List (List ℕ)) → is_comment (get_or ls 0 []) ≡ false → comment_count ls ≡ 0
no_comment [] e = unfold leading_count in refl
no_comment (first ∷ more) e = leading_none is_comment first more e

comment_next : (text : List ℕ) → is_comment (line text 0) ≡ true
    → comment_bytes text ≡ length (line text 0) + comment_bytes (drop (length (line text 0)) text)
comment_next text e =
    ap (line_place text) (one_comment (lines text) e)
    ∙ place-behind text (comment_count (drop 1 (lines text)))
    ∙ ap (λ (ls : List (List ℕ)). length (line text 0) + line_place (drop (length (line text 0)) text) (comment_count ls)) (sym (lines-behind text))

comment_stop : (text : List ℕ) → is_comment (line text 0) ≡ false → comment_bytes text ≡ 0
comment_stop text e = ap (line_place text) (no_comment (lines text) e) ∙ (unfold flatten in refl)

-- from a place on
module _ (text : List ℕ) (start place : ℕ) (same_end : start + comment_bytes (drop start text) ≡ place + comment_bytes (drop place text)) where
  pub comments_stop : is_comment (line (drop place text) 0) ≡ false → place ≡ start + comment_bytes (drop start text)
  comments_stop e = omega (arith, same_end, comment_stop (drop place text) e)

  module _ (end : ℕ) (is-end : end ≡ place + length (line (drop place text) 0)) (e : is_comment (line (drop place text) 0) ≡ true) where
    pub comments_next : start + comment_bytes (drop start text) ≡ end + comment_bytes (drop end text)
    comments_next =
        let size = length (line (drop place text) 0) in
        let behind : drop size (drop place text) ≡ drop end text = drop-drop size place text ∙ ap (λ (k : ℕ). drop k text) (sym is-end) in
        omega (arith, same_end, is-end, comment_next (drop place text) e, ap comment_bytes behind)

    -- a comment has a byte at least, so that the loop ends
    pub comment_longer : place < end
    comment_longer = go (line (drop place text) 0) e is-end
      where
        go : (bytes : List ℕ) → is_comment bytes ≡ true → end ≡ place + length bytes → place < end
        go [] c is = absurd (true≢false (sym c))
        go (b ∷ bytes) c is = omega (arith, is)
