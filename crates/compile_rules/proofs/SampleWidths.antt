-- Every sample width: a matrix compiled at 16 has the bytes of before, the sample width decides the head and the widths alone, and no
-- compiled width is more than 19 above it.
-- Assumes nothing.
use Prim.Native.Nat.{ℕ, ◌+◌, ◌≤◌}
use mathlib.Core.Path.{◌≡◌, refl, sym, ap, ◌∙◌}
use mathlib.Core.List.{List, [], ◌∷◌, ◌++◌, map}
use native.Mathlib.Omega.{arith}
use Rattle.limits.specs.Limits.{unstated_width}
use Rattle.limits.specs.Size.{SampleWidth}
use Rattle.layout_rules.specs.declared.Operation.{Operation}
use Rattle.layout_rules.specs.declared.Output.{Output}
use Rattle.layout_rules.specs.Matrix.{matrix_refusal, columns}
use Rattle.layout_rules.specs.Records.{head_kind_of, head_payload, netlist_bytes}
use Rattle.layout_rules.proofs.LittleEndian.{AreBytes}
use Rattle.compile_rules.specs.Compile.{operations_of, outputs_of, output_with_width, netlist_of, elimination_of, compiled_netlist, compiled_bytes, compile_accepted}
use Rattle.compile_rules.specs.Compiled.{SameCost, output_of_width, SameButWidths, bytes_before}
use Rattle.compile_rules.proofs.Counts.{negated_with_widths}
use Rattle.compile_rules.proofs.Widths.{with_widths_keep}
use Rattle.compile_rules.proofs.Compiled.{compiled-is}

-- ---- 16 bits: the bytes of before

pub at_sixteen : (bytes : List ℕ) → compiled_bytes unstated_width bytes ≡ bytes_before bytes
unfolding head_kind_of head_payload netlist_bytes netlist_of bytes_before
at_sixteen bytes = refl

-- ---- any two sample widths

outputs_keep : (s n : ℕ) (all : List Operation) (os : List Output) → map (output_of_width 0) (map (output_with_width s n all) os) ≡ map (output_of_width 0) os
outputs_keep s n all [] = refl
outputs_keep s n all (o ∷ os) = ap (λ l. output_of_width 0 o ∷ l) (outputs_keep s n all os)

module _ (s t : ℕ) (bytes : List ℕ) where
  abbrev n : ℕ
  n = columns bytes

  abbrev all : List Operation
  all = operations_of n (elimination_of bytes)

  abbrev outputs : List Output
  outputs = outputs_of n (elimination_of bytes)

  pub any_width : SameCost (compile_accepted s bytes) (compile_accepted t bytes)
  unfolding netlist_of
  any_width = record { plain = refl; divisors = refl; replacements = refl; operations = refl; depth = refl }

  pub any-width-negated : (compile_accepted s bytes).negated ≡ (compile_accepted t bytes).negated
  unfolding netlist_of
  any-width-negated = negated_with_widths s n all outputs ∙ sym (negated_with_widths t n all outputs)

  pub any-width-netlist : SameButWidths (compiled_netlist s bytes) (compiled_netlist t bytes)
  unfolding netlist_of
  any-width-netlist = record {
    rows = refl;
    columns = refl;
    count = refl;
    operations = with_widths_keep s n all n all ∙ sym (with_widths_keep t n all n all);
    outputs = outputs_keep s n all outputs ∙ sym (outputs_keep t n all outputs);
    totals = refl;
  }

-- ---- "compiled ones at most 19 more than the sample width"

module _ (s : ℕ) (bytes : List ℕ) (are-bytes : AreBytes bytes) (accepted : matrix_refusal bytes ≡ 0) (bits : SampleWidth s) where
  pub operation-narrow : (before after : List Operation) (o : Operation) → (compiled_netlist s bytes).operations ≡ before ++ (o ∷ after) → o.width ≤ s + 19
  operation-narrow before after o e = omega (arith, ((compiled-is s bytes are-bytes accepted bits).operation before after o e).width.narrow)

  pub output-narrow : (before after : List Output) (o : Output) → (compiled_netlist s bytes).outputs ≡ before ++ (o ∷ after) → o.width ≤ s + 19
  output-narrow before after o e = omega (arith, ((compiled-is s bytes are-bytes accepted bits).output before after o e).width.narrow)
