-- Depths by symbol: inputs have 0, an operation 1 more than its deeper operand, and none exceeds the netlist's.
-- Assumes nothing.
use Prim.Native.Nat.{ℕ, zero, suc, ◌+◌, ◌≤◌, ◌<◌, max}
use mathlib.Core.Path.{◌≡◌, refl, sym, ◌∙◌, subst}
use mathlib.Core.List.{List, [], ◌∷◌, ◌++◌}
use native.Mathlib.Omega.{arith}
use lib.ListN.{length, get_or, replicate, length-append, length-replicate, get_or-replicate}
use lib.Seq.{get_or_at}
use Rattle.layout_rules.specs.declared.Operation.{Operation}
use Rattle.layout_rules.specs.Records.{Netlist}
use Rattle.board_rules.specs.Machine.{Earlier, operation_depth, depths, depth}
use Rattle.board_rules.proofs.DepthLaws.{depths_keep, largest_at}
use Rattle.clock_rules.specs.Delays.{symbol_depth, netlist_depth}

-- d of each operation's symbol, the first of which is s, is 1 more than the larger d of its operands
abbrev pub DepthsFollow : (ℕ → ℕ) → ℕ → List Operation → Type 0
DepthsFollow d s [] = Unit {0}
DepthsFollow d s (o ∷ os) = (d s ≡ suc (max (d o.a) (d o.b))) × DepthsFollow d (suc s) os

depths_follow : (ds : List ℕ) (os : List Operation) → Earlier (length ds) os → DepthsFollow (λ s. get_or (depths ds os) s 0) (length ds) os
unfolding depths
depths_follow ds [] e = tt
depths_follow ds (o ∷ os) e =
    let d : ℕ = operation_depth ds o in
    let es : List ℕ = ds ++ (d ∷ []) in
    let l : length es ≡ suc (length ds) = length-append ds (d ∷ []) ∙ one_more (length ds) in
    let first : get_or (depths ds (o ∷ os)) o.a 0 ≡ get_or ds o.a 0 = depths_keep ds (o ∷ os) o.a e.0.0 in
    let second : get_or (depths ds (o ∷ os)) o.b 0 ≡ get_or ds o.b 0 = depths_keep ds (o ∷ os) o.b e.0.1 in (
      depths_keep es os (length ds) (omega arith) ∙ get_or_at ds d [] 0 (length ds) refl ∙ rw (first, second) refl,
      subst (λ s. DepthsFollow (λ x. get_or (depths es os) x 0) s os) l (depths_follow es os (subst (λ s. Earlier s os) (sym l) e.1)),
    )
  where
    one_more : (n : ℕ) → n + 1 ≡ suc n
    one_more n = omega arith

pub follow_least : (d : ℕ → ℕ) (s : ℕ) (os : List Operation) → DepthsFollow d s os → (k : ℕ) → k < length os → 1 ≤ d (s + k)
follow_least d s [] f k h = absurd (omega arith)
follow_least d s (o ∷ os) f zero h = let e : s + 0 ≡ s = omega arith in rw e (omega (arith, f.0))
follow_least d s (o ∷ os) f (suc k) h = let e : s + suc k ≡ suc s + k = omega arith in rw e (follow_least d (suc s) os f.1 k (omega arith))

module _ (net : Netlist) where
  pub depth-most : (symbol : ℕ) → symbol_depth net symbol ≤ netlist_depth net
  unfolding symbol_depth netlist_depth depth
  depth-most symbol = largest_at (depths (replicate net.head.n 0) net.operations) symbol

  pub input-depth : (symbol : ℕ) → symbol < net.head.n → symbol_depth net symbol ≡ 0
  unfolding symbol_depth
  input-depth symbol h =
      depths_keep (replicate net.head.n 0) net.operations symbol (omega (arith, length-replicate {A = ℕ} net.head.n 0))
      ∙ get_or-replicate net.head.n symbol 0 0 h

  module _ (earlier : Earlier net.head.n net.operations) where
    pub symbol-depths_follow : DepthsFollow (symbol_depth net) net.head.n net.operations
    unfolding symbol_depth
    symbol-depths_follow =
        let l : length {A = ℕ} (replicate net.head.n 0) ≡ net.head.n = length-replicate {A = ℕ} net.head.n 0 in
        subst (λ s. DepthsFollow (λ x. get_or (depths (replicate net.head.n 0) net.operations) x 0) s net.operations) l
        (depths_follow (replicate net.head.n 0) net.operations (subst (λ s. Earlier s net.operations) (sym l) earlier))

    pub operation-depth-least : (k : ℕ) → k < length net.operations → 1 ≤ symbol_depth net (net.head.n + k)
    operation-depth-least = follow_least (symbol_depth net) net.head.n net.operations symbol-depths_follow
