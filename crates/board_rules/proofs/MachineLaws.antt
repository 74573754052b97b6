-- The board machine: it keeps earlier entries, each operation appends one, and an entry is what its operation makes of its operands.
-- Assumes nothing.
use Prim.Native.Nat.{ℕ, suc, ◌+◌, ◌<◌}
use mathlib.Core.Path.{◌≡◌, refl, sym, ap, ◌∙◌, subst}
use mathlib.Core.List.{List, [], ◌∷◌, ◌++◌}
use native.Mathlib.Omega.{arith}
use lib.IntN.{ℤ, pos}
use lib.ListN.{length, length-append, get_or-append, get_or-eq_default}
use lib.Seq.{get_or_at, append_snoc}
use Rattle.layout_rules.specs.declared.Operation.{Operation}
use Rattle.layout_rules.specs.declared.Output.{Output}
use Rattle.board_rules.specs.Machine.{entry_at, shifted, joined, operation_value, machine, Earlier, output_value}

-- operations one after another
pub machine-append : (xs : List ℤ) (os ps : List Operation) → machine xs (os ++ ps) ≡ machine (machine xs os) ps
unfolding machine
machine-append xs [] ps = refl
machine-append xs (o ∷ os) ps = machine-append (xs ++ (operation_value xs o ∷ [])) os ps

-- an operation more appends its value
pub machine_snoc : (xs : List ℤ) (os : List Operation) (o : Operation)
    → machine xs (os ++ (o ∷ [])) ≡ machine xs os ++ (operation_value (machine xs os) o ∷ [])
unfolding machine
machine_snoc xs os o = machine-append xs os (o ∷ [])

pub length-machine : (xs : List ℤ) (os : List Operation) → length (machine xs os) ≡ length xs + length os
unfolding machine
length-machine xs [] = omega arith
length-machine xs (o ∷ os) =
    let v : List ℤ = operation_value xs o ∷ [] in
    omega (arith, length-machine (xs ++ v) os, length-append xs v)

-- earlier entries are kept
pub machine_keeps : (xs : List ℤ) (os : List Operation) (symbol : ℕ) → symbol < length xs → entry_at (machine xs os) symbol ≡ entry_at xs symbol
unfolding machine
machine_keeps xs [] symbol h = refl
machine_keeps xs (o ∷ os) symbol h =
    let v : List ℤ = operation_value xs o ∷ [] in
    machine_keeps (xs ++ v) os symbol (omega (arith, length-append xs v)) ∙ get_or-append xs v (pos 0) symbol h

pub machine_keeps_after : (xs : List ℤ) (os ps : List Operation) (symbol : ℕ) → symbol < length xs + length os
    → entry_at (machine xs (os ++ ps)) symbol ≡ entry_at (machine xs os) symbol
machine_keeps_after xs os ps symbol h =
    ap (λ l. entry_at l symbol) (machine-append xs os ps) ∙ machine_keeps (machine xs os) ps symbol (omega (arith, length-machine xs os))

-- the entry of the last operation
pub machine-last : (xs : List ℤ) (os : List Operation) (o : Operation)
    → entry_at (machine xs (os ++ (o ∷ []))) (length xs + length os) ≡ operation_value (machine xs os) o
machine-last xs os o =
    rw (machine_snoc xs os o) (get_or_at (machine xs os) (operation_value (machine xs os) o) [] (pos 0) (length xs + length os) (length-machine xs os))

-- beyond all entries stands nothing
pub machine_beyond : (xs : List ℤ) (os : List Operation) (symbol : ℕ) → length xs + length os < suc symbol → entry_at (machine xs os) symbol ≡ pos 0
machine_beyond xs os symbol h = get_or-eq_default (machine xs os) (pos 0) (omega (arith, length-machine xs os))

-- an operation reads no more than its two operands
pub operation-same : (xs ys : List ℤ) (o : Operation) → entry_at xs o.a ≡ entry_at ys o.a → entry_at xs o.b ≡ entry_at ys o.b
    → operation_value xs o ≡ operation_value ys o
operation-same xs ys o d e = rw (d, e) refl

-- the entry of any operation whose operands are earlier
pub machine_entry : (xs : List ℤ) (os : List Operation) (o : Operation) (ps : List Operation)
    → o.a < length xs + length os → o.b < length xs + length os
    → entry_at (machine xs (os ++ (o ∷ ps))) (length xs + length os) ≡ operation_value (machine xs (os ++ (o ∷ ps))) o
machine_entry xs os o ps ha hb =
    ap (λ l. entry_at (machine xs l) (length xs + length os)) (sym (append_snoc os o ps))
    ∙ machine_keeps_after xs (os ++ (o ∷ [])) ps (length xs + length os) (omega (arith, length-append os (o ∷ [])))
    ∙ machine-last xs os o
    ∙ operation-same (machine xs os) (machine xs (os ++ (o ∷ ps))) o
    (sym (machine_keeps_after xs os (o ∷ ps) o.a ha)) (sym (machine_keeps_after xs os (o ∷ ps) o.b hb))

-- the same of all operations at once: each value, v of a symbol, is what its operation makes of the values of its operands
abbrev pub Follows : (ℕ → ℤ) → ℕ → List Operation → Type 0
Follows v s [] = Unit {0}
Follows v s (o ∷ os) = (v s ≡ joined o.sign (shifted (v o.a) o.sa) (shifted (v o.b) o.sb)) × Follows v (suc s) os

pub machine_follows : (xs : List ℤ) (os : List Operation) → Earlier (length xs) os → Follows (entry_at (machine xs os)) (length xs) os
unfolding machine
machine_follows xs [] e = tt
machine_follows xs (o ∷ os) e =
    let v : ℤ = operation_value xs o in
    let ys : List ℤ = xs ++ (v ∷ []) in
    let l : length ys ≡ suc (length xs) = length-append xs (v ∷ []) ∙ one_more (length xs) in (
      machine_keeps ys os (length xs) (omega arith) ∙ get_or_at xs v [] (pos 0) (length xs) refl
          ∙ operation-same xs (machine ys os) o (sym (machine_keeps xs (o ∷ os) o.a e.0.0)) (sym (machine_keeps xs (o ∷ os) o.b e.0.1)),
      subst (λ s. Follows (entry_at (machine ys os)) s os) l (machine_follows ys os (subst (λ s. Earlier s os) (sym l) e.1)),
    )
  where
    one_more : (n : ℕ) → n + 1 ≡ suc n
    one_more n = omega arith

-- an output reads no more than its entry
pub output-same : (xs ys : List ℤ) (o : Output) → entry_at xs o.symbol ≡ entry_at ys o.symbol → output_value xs o ≡ output_value ys o
output-same xs ys o e = rw e refl
