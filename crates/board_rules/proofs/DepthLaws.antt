-- Depths: earlier ones are kept, each operation appends one, and the netlist's depth grows with it.
-- Assumes nothing.
use Prim.Native.Nat.{ℕ, zero, suc, ◌+◌, ◌≤◌, ◌<◌, max}
use mathlib.Core.Path.{◌≡◌, refl, ap, ◌∙◌}
use mathlib.Core.List.{List, [], ◌∷◌, ◌++◌}
use native.Mathlib.Omega.{arith}
use lib.ListN.{length, get_or, replicate, length-append, get_or-append}
use Rattle.layout_rules.specs.declared.Operation.{Operation}
use Rattle.board_rules.specs.Machine.{operation_depth, depths, largest, depth}

pub depths-append : (ds : List ℕ) (os ps : List Operation) → depths ds (os ++ ps) ≡ depths (depths ds os) ps
unfolding depths
depths-append ds [] ps = refl
depths-append ds (o ∷ os) ps = depths-append (ds ++ (operation_depth ds o ∷ [])) os ps

-- an operation more appends its depth
pub depths_snoc : (ds : List ℕ) (os : List Operation) (o : Operation) → depths ds (os ++ (o ∷ [])) ≡ depths ds os ++ (operation_depth (depths ds os) o ∷ [])
unfolding depths
depths_snoc ds os o = depths-append ds os (o ∷ [])

pub length-depths : (ds : List ℕ) (os : List Operation) → length (depths ds os) ≡ length ds + length os
unfolding depths
length-depths ds [] = omega arith
length-depths ds (o ∷ os) = let d : List ℕ = operation_depth ds o ∷ [] in omega (arith, length-depths (ds ++ d) os, length-append ds d)

-- earlier depths are kept
pub depths_keep : (ds : List ℕ) (os : List Operation) (symbol : ℕ) → symbol < length ds → get_or (depths ds os) symbol 0 ≡ get_or ds symbol 0
unfolding depths
depths_keep ds [] symbol h = refl
depths_keep ds (o ∷ os) symbol h =
    let d : List ℕ = operation_depth ds o ∷ [] in
    depths_keep (ds ++ d) os symbol (omega (arith, length-append ds d)) ∙ get_or-append ds d 0 symbol h

-- ---- the netlist's depth

pub largest_snoc : (ds : List ℕ) (d : ℕ) → largest (ds ++ (d ∷ [])) ≡ max (largest ds) d
unfolding largest
largest_snoc [] d = omega arith
largest_snoc (e ∷ ds) d = omega (arith, largest_snoc ds d)

largest-zeros : (n : ℕ) → largest (replicate n 0) ≡ 0
unfolding largest
largest-zeros zero = refl
largest-zeros (suc n) = omega (arith, largest-zeros n)

-- 0 without operations, and then the larger of the depth so far and of the operation's
pub depth-none : (n : ℕ) → depth n [] ≡ 0
unfolding depth depths
depth-none n = largest-zeros n

pub depth_snoc : (n : ℕ) (os : List Operation) (o : Operation) → depth n (os ++ (o ∷ [])) ≡ max (depth n os) (operation_depth (depths (replicate n 0) os) o)
unfolding depth
depth_snoc n os o =
    ap largest (depths_snoc (replicate n 0) os o) ∙ largest_snoc (depths (replicate n 0) os) (operation_depth (depths (replicate n 0) os) o)

-- ---- no depth exceeds the number of operations

pub largest_at : (ds : List ℕ) (symbol : ℕ) → get_or ds symbol 0 ≤ largest ds
unfolding largest
largest_at [] symbol = omega arith
largest_at (d ∷ ds) zero = omega arith
largest_at (d ∷ ds) (suc symbol) = omega (arith, largest_at ds symbol)

largest-depths : (ds : List ℕ) (os : List Operation) → largest (depths ds os) ≤ largest ds + length os
unfolding depths
largest-depths ds [] = omega arith
largest-depths ds (o ∷ os) =
    let d : ℕ = operation_depth ds o in
    omega (arith, largest-depths (ds ++ (d ∷ [])) os, largest_snoc ds d, largest_at ds o.a, largest_at ds o.b)

pub depth_at_most : (n : ℕ) (os : List Operation) → depth n os ≤ length os
unfolding depth
depth_at_most n os = omega (arith, largest-depths (replicate n 0) os, largest-zeros n)

pub depths_at_most : (n : ℕ) (os : List Operation) (symbol : ℕ) → get_or (depths (replicate n 0) os) symbol 0 ≤ length os
depths_at_most n os symbol =
    omega (arith, largest_at (depths (replicate n 0) os) symbol, largest-depths (replicate n 0) os, largest-zeros n)
