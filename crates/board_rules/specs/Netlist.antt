-- Document 01, "Netlist and board machine" and "Why a record was declined": what a netlist is. Its fields are in range, operands are
-- earlier, each recorded width is the width, the totals are right: over the limits that it is held to. Reading, compiled netlists and
-- writing share these definitions, each with its own limits.
-- Assumes nothing.
use Rattle.std.specs.Prelude.{ℕ, ◌+◌, ◌≤◌, ◌<◌, ◌≡◌, List, ◌∷◌, ◌++◌, ℤ, length}
use Rattle.limits.specs.Size.{BankSize, SampleWidth}
use Rattle.layout_rules.specs.declared.Head.{Head}
use Rattle.layout_rules.specs.declared.Operation.{Operation}
use Rattle.layout_rules.specs.declared.Output.{Output}
use Rattle.layout_rules.specs.declared.Totals.{Totals}
use Rattle.layout_rules.specs.Records.{Netlist}
use Rattle.board_rules.specs.Machine.{machine, entry_at, output_value, depth}
use Rattle.board_rules.specs.Width.{IsWidth}

-- samples of so many bits, shifts below a number of positions, widths up to the widest, at most so many operations
pub record Limits : Type 0 where
  pub sample : ℕ
  pub positions : ℕ
  pub widest : ℕ
  pub most : ℕ

-- "m and n of 0 only together and only with no operations"; "a sample width from 8 to 24", which the other records are held to
pub record HeadLimits (l : Limits) (h : Head) : Type 0 where
  pub limits : BankSize h.m h.n
  pub few : h.operations ≤ l.most
  pub none : h.m ≡ 0 → h.operations ≡ 0
  pub width : SampleWidth h.width
  pub samples : h.width ≡ l.sample

-- fields in range, and operands earlier than the operation, whose symbol is given
pub record OperationLimits (l : Limits) (symbol : ℕ) (o : Operation) : Type 0 where
  pub sign : o.sign ≤ 1
  pub first-shift : o.sa < l.positions
  pub second-shift : o.sb < l.positions
  pub first_earlier : o.a < symbol
  pub second_earlier : o.b < symbol

-- what an output is made of, in a netlist with so many symbols; zero has symbol 0 and shift 0
pub record OutputOperand (l : Limits) (symbols : ℕ) (o : Output) : Type 0 where
  pub sign : o.sign ≤ 2
  pub shift : o.shift < l.positions
  pub symbol : o.symbol < symbols
  pub zero : o.sign ≡ 2 → (o.symbol ≡ 0) × (o.shift ≡ 0)

-- fields in range; zero has width 1
pub record OutputLimits (l : Limits) (symbols : ℕ) (o : Output) : Type 0 where
  pub operand : OutputOperand l symbols o
  pub zero-width : o.sign ≡ 2 → o.width ≡ 1

-- the recorded width is the width of the value over all vectors of n samples, and not wider than the widest
pub record WidthRight (l : Limits) (n : ℕ) (value : List ℤ → ℤ) (recorded : ℕ) : Type 0 where
  pub width : IsWidth l.sample n value recorded
  pub narrow : recorded ≤ l.widest

pub record TotalsRight (h : Head) (os : List Operation) (t : Totals) : Type 0 where
  pub count : t.operations ≡ h.operations
  pub deepest : t.depth ≡ depth h.n os

-- an operation that stands behind others of a netlist's operations os
pub record IsOperation (l : Limits) (n : ℕ) (os before : List Operation) (o : Operation) : Type 0 where
  pub limits : OperationLimits l (n + length before) o
  pub width : WidthRight l n (λ xs. entry_at (machine xs os) (n + length before)) o.width

-- an output of a netlist with the operations os
pub record IsOutput (l : Limits) (n : ℕ) (os : List Operation) (o : Output) : Type 0 where
  pub limits : OutputLimits l (n + length os) o
  pub width : WidthRight l n (λ xs. output_value (machine xs os) o) o.width

pub record IsNetlist (l : Limits) (net : Netlist) : Type 0 where
  pub head : HeadLimits l net.head
  pub count : length net.operations ≡ net.head.operations
  pub one_per_row : length net.outputs ≡ net.head.m
  pub operation : (before after : List Operation) (o : Operation) → net.operations ≡ before ++ o ∷ after
      → IsOperation l net.head.n net.operations before o
  pub output : (before after : List Output) (o : Output) → net.outputs ≡ before ++ o ∷ after → IsOutput l net.head.n net.operations o
  pub totals : TotalsRight net.head net.operations net.totals
