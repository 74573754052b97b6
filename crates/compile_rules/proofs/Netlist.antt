-- Document 01, "Netlist and board machine": the netlist of rows after any sequence of steps is a netlist within limits, if its widths are
-- narrow.
-- Assumes nothing.
use Prim.Native.Nat.{ℕ, zero, suc, ◌+◌, ◌≤◌, ◌<◌}
use mathlib.Core.Path.{◌≡◌, refl, sym, ap, ◌∙◌, subst}
use mathlib.Core.List.{List, [], ◌∷◌, ◌++◌, map}
use native.Mathlib.Omega.{arith}
use lib.ListN.{length}
use Rattle.limits.specs.Size.{BankSize, SampleWidth}
use Rattle.limits.proofs.Size.{rows_have_inputs}
use Rattle.layout_rules.specs.declared.Operation.{Operation}
use Rattle.layout_rules.specs.declared.Output.{Output}
use Rattle.board_rules.specs.Machine.{machine, entry_at, entry_form, output_form}
use Rattle.board_rules.specs.Width.{width}
use Rattle.board_rules.specs.Netlist.{Limits, OperationLimits, OutputOperand, WidthRight, IsOutput, IsNetlist}
use Rattle.board_rules.proofs.OutputLaws.{zero-output-width}
use Rattle.elimination_rules.specs.Rows.{Row, WellFormed, EachRow, plain_count}
use Rattle.elimination_rules.specs.Elimination.{Eliminated}
use Rattle.compile_rules.specs.Compile.{operations_of, outputs_of, with_widths, output_with_width, netlist_of}
use Rattle.compile_rules.proofs.Counts.{Stepped, operations-fewer, no_operations, netlist-operations, netlist-outputs, length_with_widths}
use Rattle.compile_rules.proofs.Operands.{EachOperation, operations_in_range, EachOutput, outputs_in_range}
use Rattle.compile_rules.proofs.Widths.{depth_with_widths, each_with_width, each-output_with_width, operation-width, output-width}

-- ---- from each one to the one at a place

pub operation_at_lem : (P : ℕ → Operation → Type 0) (symbol : ℕ) (os before after : List Operation) (o : Operation) → EachOperation P symbol os → os ≡ before ++ (o ∷ after)
    → P (symbol + length before) o
operation_at_lem P symbol [] [] after o h e = absurd (omega (arith, ap length e))
operation_at_lem P symbol [] (b ∷ before) after o h e = absurd (omega (arith, ap length e))
operation_at_lem P symbol (p ∷ os) [] after o h e =
    let same : p ≡ o = cc in
    subst (λ (k : ℕ). P k o) (omega arith) (subst (P symbol) same h.0)
operation_at_lem P symbol (p ∷ os) (b ∷ before) after o h e =
    let others : os ≡ before ++ (o ∷ after) = cc in
    subst (λ (k : ℕ). P k o) (next_symbol symbol (length before)) (operation_at_lem P (suc symbol) os before after o h.1 others)
  where
    next_symbol : (symbol n : ℕ) → suc symbol + n ≡ symbol + suc n
    next_symbol symbol n = omega arith

pub output_at_lem : (P : Output → Type 0) (os before after : List Output) (o : Output) → EachOutput P os → os ≡ before ++ (o ∷ after) → P o
output_at_lem P [] [] after o h e = absurd (omega (arith, ap length e))
output_at_lem P [] (b ∷ before) after o h e = absurd (omega (arith, ap length e))
output_at_lem P (p ∷ os) [] after o h e = let same : p ≡ o = cc in subst P same h.0
output_at_lem P (p ∷ os) (b ∷ before) after o h e = let others : os ≡ before ++ (o ∷ after) = cc in output_at_lem P os before after o h.1 others

both-outputs : (P Q : Output → Type 0) (os : List Output) → EachOutput P os → EachOutput Q os → EachOutput (λ o. P o × Q o) os
both-outputs P Q [] h k = tt
both-outputs P Q (o ∷ os) h k = ((h.0, k.0), both-outputs P Q os h.1 k.1)

-- ---- the netlist

-- widths up to a widest one, of entries and of outputs
pub record Narrow (s widest n : ℕ) (e : Eliminated) : Type 0 where
  pub entries : (symbol : ℕ) → symbol < n + length (operations_of n e) → width s (entry_form n (operations_of n e) symbol) ≤ widest
  pub outputs : EachOutput (λ o. width s (output_form n (operations_of n e) o) ≤ widest) (outputs_of n e)

module _ (l : Limits) (n : ℕ) (rows : List Row) (e : Eliminated) (some : 1 ≤ l.positions) (w : EachRow (WellFormed l.positions n) rows) (steps : Stepped n rows e)
    (narrow : Narrow l.sample l.widest n e) where
  recorded : List Operation
  recorded = with_widths l.sample n (operations_of n e) n (operations_of n e)

  abbrev Compiled : ℕ → Operation → Type 0
  Compiled symbol o = OperationLimits l symbol o × WidthRight l n (λ xs. entry_at (machine xs recorded) symbol) o.width

  operations-compiled : EachOperation Compiled n recorded
  unfolding recorded
  operations-compiled =
      let os : List Operation = operations_of n e in
      each_with_width l.sample n os (OperationLimits l) Compiled (n + length os)
      (λ symbol o below r. (
        record {
          sign = r.sign;
          first-shift = r.first-shift;
          second-shift = r.second-shift;
          first_earlier = r.first_earlier;
          second_earlier = r.second_earlier;
        },
        record { width = operation-width l.sample n os symbol; narrow = narrow.entries symbol below },
      ))
      n os (omega arith) (operations_in_range l n rows e some w steps)

  outputs-compiled : (1 ≤ length rows → 1 ≤ n) → EachOutput (IsOutput l n recorded) (map (output_with_width l.sample n (operations_of n e)) (outputs_of n e))
  unfolding recorded
  outputs-compiled inputs =
      let os : List Operation = operations_of n e in
      each-output_with_width l.sample n os (λ o. OutputOperand l (n + length os) o × (width l.sample (output_form n os o) ≤ l.widest)) (IsOutput l n recorded)
      (λ o r. record {
        limits = record {
          operand = record {
            sign = r.0.sign;
            shift = r.0.shift;
            symbol = omega (arith, r.0.symbol, length_with_widths l.sample n os n os);
            zero = r.0.zero;
          };
          zero-width = λ z. zero-output-width l.sample n os o (omega arith);
        };
        width = record { width = output-width l.sample n os o; narrow = r.1 };
      })
      (outputs_of n e)
      (both-outputs (OutputOperand l (n + length os)) (λ o. width l.sample (output_form n os o) ≤ l.widest) (outputs_of n e)
      (outputs_in_range l n rows e some inputs w steps) narrow.outputs)

  pub compiled-netlist : (m : ℕ) → SampleWidth l.sample → BankSize m n → length rows ≡ m → plain_count rows ≤ l.most
      → IsNetlist l (netlist_of l.sample m n e)
  unfolding netlist_of recorded
  compiled-netlist m bits size one_per_row plain = record {
    head = record {
      limits = size;
      few = omega (arith, operations-fewer n rows e steps);
      none = λ z. no_operations n rows e steps (one_per_row ∙ z);
      width = bits;
      samples = refl;
    };
    count = netlist-operations l.sample m n e;
    one_per_row = netlist-outputs l.sample m n rows e steps ∙ one_per_row;
    operation = λ before after o h.
        let is = operation_at_lem Compiled n recorded before after o operations-compiled h in
        record { limits = is.0; width = is.1 };
    output = λ before after o h.
        output_at_lem (IsOutput l n recorded) (map (output_with_width l.sample n (operations_of n e)) (outputs_of n e)) before after o
        (outputs-compiled (λ k. rows_have_inputs m n size (omega (arith, one_per_row)))) h;
    totals = record { count = refl; deepest = sym (depth_with_widths l.sample n (operations_of n e) n (operations_of n e)) };
  }
