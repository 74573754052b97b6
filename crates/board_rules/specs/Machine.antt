-- Document 01, "Netlist and board machine": the board machine, depth, and the coefficients of an entry.
-- Assumes nothing.
use Rattle.std.specs.Prelude.{ℕ, zero, suc, ◌^◌, ◌<◌, max, List, [], ◌∷◌, ◌++◌, map, ℤ, pos, neg_ℤ, ◌+ℤ◌, ◌-ℤ◌, ◌*ℤ◌, get_or, replicate}
use Rattle.layout_rules.specs.declared.Operation.{Operation}
use Rattle.layout_rules.specs.declared.Output.{Output}

-- ---- the board machine: a list of whole numbers, at first the samples; each operation in order appends one

abbrev pub entry_at : List ℤ → ℕ → ℤ
entry_at entries symbol = get_or entries symbol (pos 0)

abbrev pub shifted : ℤ → ℕ → ℤ
shifted z s = z *ℤ pos (2 ^ s)

-- A·2^sA + B·2^sB, or A·2^sA − B·2^sB
abbrev pub joined : ℕ → ℤ → ℤ → ℤ
joined zero x y = x +ℤ y
joined (suc _) x y = x -ℤ y

abbrev pub operation_value : List ℤ → Operation → ℤ
operation_value entries o = joined o.sign (shifted (entry_at entries o.a) o.sa) (shifted (entry_at entries o.b) o.sb)

unfoldable pub machine : List ℤ → List Operation → List ℤ
machine entries [] = entries
machine entries (o ∷ os) = machine (entries ++ (operation_value entries o ∷ [])) os

-- A and B are earlier entries: the operands of each operation stand below its symbol, the first operation's being s
abbrev pub Earlier : ℕ → List Operation → Type 0
Earlier s [] = Unit {0}
Earlier s (o ∷ os) = ((o.a < s) × (o.b < s)) × Earlier (suc s) os

-- plus or minus an entry times 2^shift, or zero
abbrev pub with_sign : ℕ → ℤ → ℤ
with_sign zero z = z
with_sign (suc zero) z = neg_ℤ z
with_sign (suc (suc _)) z = pos 0

abbrev pub output_value : List ℤ → Output → ℤ
output_value entries o = with_sign o.sign (shifted (entry_at entries o.symbol) o.shift)

-- row times vector: the sum over the columns of coefficient times sample
unfoldable pub times : List ℤ → List ℤ → ℤ
times [] xs = pos 0
times (c ∷ cs) [] = pos 0
times (c ∷ cs) (x ∷ xs) = c *ℤ x +ℤ times cs xs

-- ---- depth: inputs 0, an operation 1 more than the deeper operand; the netlist's is the largest, 0 if there is no operation

abbrev pub operation_depth : List ℕ → Operation → ℕ
operation_depth ds o = suc (max (get_or ds o.a 0) (get_or ds o.b 0))

unfoldable pub depths : List ℕ → List Operation → List ℕ
depths ds [] = ds
depths ds (o ∷ os) = depths (ds ++ (operation_depth ds o ∷ [])) os

unfoldable pub largest : List ℕ → ℕ
largest [] = 0
largest (d ∷ ds) = max d (largest ds)

unfoldable pub depth : ℕ → List Operation → ℕ
unfolding depths largest
depth n os = largest (depths (replicate n 0) os)

-- ---- the coefficients of the n samples in an entry: column j's is the entry's value on the unit vector of j

unfoldable pub unit : ℕ → ℕ → List ℤ
unit zero j = []
unit (suc n) zero = pos 1 ∷ replicate n (pos 0)
unit (suc n) (suc j) = pos 0 ∷ unit n j

unfoldable pub units_from : ℕ → ℕ → ℕ → List (List ℤ)
unfolding unit
units_from n j zero = []
units_from n j (suc k) = unit n j ∷ units_from n (suc j) k

unfoldable pub units : ℕ → List (List ℤ)
unfolding units_from
units n = units_from n 0 n

unfoldable pub entry_form : ℕ → List Operation → ℕ → List ℤ
unfolding units machine
entry_form n os symbol = map (λ xs. entry_at (machine xs os) symbol) (units n)

unfoldable pub output_form : ℕ → List Operation → Output → List ℤ
unfolding units machine
output_form n os o = map (λ xs. output_value (machine xs os) o) (units n)
