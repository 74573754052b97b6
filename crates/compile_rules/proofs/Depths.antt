-- The depth by which elimination orders divisors of equal score is the one that the netlist's own definition gives their operations.
-- Assumes nothing.
use Prim.Native.Nat.{ℕ, zero, ◌+◌}
use mathlib.Core.Path.{◌≡◌, refl, sym, ap, ◌∙◌}
use mathlib.Core.List.{List, [], ◌∷◌, ◌++◌, map, map-append, append_assoc}
use native.Mathlib.Omega.{arith}
use lib.ListN.{length, get_or, replicate, length-append, length-map, length-replicate}
use lib.Seq.{get_or_at}
use Rattle.elimination_rules.specs.declared.Divisor.{Divisor}
use Rattle.elimination_rules.specs.Elimination.{divisor_depth, symbol_depths_from, symbol_depths, Eliminated}
use Rattle.layout_rules.specs.declared.Operation.{Operation}
use Rattle.board_rules.specs.Machine.{operation_depth, depths}
use Rattle.board_rules.proofs.DepthLaws.{depths-append, depths_snoc, depths_keep, length-depths}
use Rattle.sum_rules.specs.Joins.{divisor_operation}
use Rattle.compile_rules.specs.Compile.{row_operations, operations_of}

depths-from : (ds : List ℕ) (made : List Divisor) → symbol_depths_from ds made ≡ depths ds (map divisor_operation made)
unfolding symbol_depths_from depths
depths-from ds [] = refl
depths-from ds (d ∷ made) = depths-from (ds ++ (divisor_depth ds d ∷ [])) made

module _ (n : ℕ) (made : List Divisor) where
  pub symbol-depths : symbol_depths n made ≡ depths (replicate n 0) (map divisor_operation made)
  unfolding symbol_depths
  symbol-depths = depths-from (replicate n 0) made

  pub divisor-depth : (d : Divisor) → divisor_depth (symbol_depths n made) d ≡ operation_depth (depths (replicate n 0) (map divisor_operation made)) (divisor_operation d)
  divisor-depth d = ap (λ (ds : List ℕ). divisor_depth ds d) symbol-depths

-- and that operation has this depth in the netlist, whatever divisors and rows come behind it
pub netlist-depth : (n : ℕ) (e : Eliminated) (made : List Divisor) (d : Divisor) (more : List Divisor) → e.divisors ≡ made ++ (d ∷ more)
    → get_or (depths (replicate n 0) (operations_of n e)) (n + length made) 0 ≡ divisor_depth (symbol_depths n made) d
unfolding operations_of
netlist-depth n e made d more h =
    let before : List Operation = map divisor_operation made in
    let o : Operation = divisor_operation d in
    let rest : List Operation = map divisor_operation more ++ row_operations n e in
    let start : List ℕ = replicate n 0 in
    let long : length (depths start before) ≡ n + length made = omega (arith, length-depths start before, length-replicate n zero, length-map made divisor_operation) in
    let parts : operations_of n e ≡ (before ++ (o ∷ [])) ++ rest =
    ap (λ (l : List Operation). l ++ row_operations n e) (ap (map divisor_operation) h ∙ map-append divisor_operation made (d ∷ more))
    ∙ append_assoc before (o ∷ map divisor_operation more) (row_operations n e)
    ∙ sym (append_assoc before (o ∷ []) rest) in
    ap (λ (l : List Operation). get_or (depths start l) (n + length made) 0) parts
    ∙ ap (λ (l : List ℕ). get_or l (n + length made) 0) (depths-append start (before ++ (o ∷ [])) rest)
    ∙ depths_keep (depths start (before ++ (o ∷ []))) rest (n + length made)
    (omega (arith, length-depths start (before ++ (o ∷ [])), length-append before (o ∷ []), length-replicate n zero, length-map made divisor_operation))
    ∙ ap (λ (l : List ℕ). get_or l (n + length made) 0) (depths_snoc start before o)
    ∙ get_or_at (depths start before) (operation_depth (depths start before) o) [] 0 (n + length made) long
    ∙ sym (divisor-depth n made d)
