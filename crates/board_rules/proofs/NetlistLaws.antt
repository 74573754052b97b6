-- A netlist within limits is one within wider limits.
-- Assumes nothing.
use Prim.Native.Nat.{ℕ, ◌≤◌}
use mathlib.Core.Path.{◌≡◌, ◌∙◌, subst}
use mathlib.Core.List.{List}
use native.Mathlib.Omega.{arith}
use lib.IntN.{ℤ}
use Rattle.layout_rules.specs.declared.Operation.{Operation}
use Rattle.layout_rules.specs.declared.Output.{Output}
use Rattle.layout_rules.specs.Records.{Netlist}
use Rattle.board_rules.specs.Width.{IsWidth}
use Rattle.board_rules.specs.Netlist.{Limits, OperationLimits, OutputOperand, WidthRight, IsNetlist}

-- the same samples, and nothing narrower
pub record Wider (l k : Limits) : Type 0 where
  pub same-samples : l.sample ≡ k.sample
  pub more-positions : l.positions ≤ k.positions
  pub wider : l.widest ≤ k.widest
  pub more-operations : l.most ≤ k.most

module _ {l k : Limits} (w : Wider l k) where
  pub operation_wider : {symbol : ℕ} {o : Operation} → OperationLimits l symbol o → OperationLimits k symbol o
  operation_wider h = record {
    sign = h.sign;
    first-shift = omega (arith, h.first-shift, w.more-positions);
    second-shift = omega (arith, h.second-shift, w.more-positions);
    first_earlier = h.first_earlier;
    second_earlier = h.second_earlier;
  }

  pub operand_wider : {symbols : ℕ} {o : Output} → OutputOperand l symbols o → OutputOperand k symbols o
  operand_wider h = record { sign = h.sign; shift = omega (arith, h.shift, w.more-positions); symbol = h.symbol; zero = h.zero }

  width_wider : {n : ℕ} {value : List ℤ → ℤ} {recorded : ℕ} → WidthRight l n value recorded → WidthRight k n value recorded
  width_wider {n} {value} {recorded} h = record {
    width = subst (λ (s : ℕ). IsWidth s n value recorded) w.same-samples h.width;
    narrow = omega (arith, h.narrow, w.wider);
  }

  pub netlist_wider : {net : Netlist} → IsNetlist l net → IsNetlist k net
  netlist_wider is = record {
    head = record {
      limits = is.head.limits;
      few = omega (arith, is.head.few, w.more-operations);
      none = is.head.none;
      width = is.head.width;
      samples = is.head.samples ∙ w.same-samples;
    };
    count = is.count;
    one_per_row = is.one_per_row;
    operation = λ before after o e.
        let h = is.operation before after o e in
        record { limits = operation_wider h.limits; width = width_wider h.width };
    output = λ before after o e.
        let h = is.output before after o e in
        record {
          limits = record { operand = operand_wider h.limits.operand; zero-width = h.limits.zero-width };
          width = width_wider h.width;
        };
    totals = is.totals;
  }
