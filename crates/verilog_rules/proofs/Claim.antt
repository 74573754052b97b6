-- What is claimed of a written module holds: of every netlist that the checker passes for a matrix, and so of what compile writes.
-- Assumes nothing.
use Prim.Native.Nat.{ℕ, ◌≤◌}
use mathlib.Core.Path.{◌≡◌, sym, ◌∙◌, subst}
use mathlib.Core.List.{List}
use lib.IntN.{ℤ}
use lib.ListN.{length}
use Rattle.limits.specs.Size.{SampleWidth}
use Rattle.layout_rules.specs.Matrix.{columns}
use Rattle.layout_rules.specs.Records.{Netlist}
use Rattle.board_rules.specs.Width.{Samples}
use Rattle.compile_rules.specs.Compile.{netlist_of, compiled_netlist, compiled_bytes, compile_answer, compile_buffer}
use Rattle.compile_rules.proofs.Compiled.{input-accepted}
use Rattle.netlist_rules.specs.Exact.{IsNetlistOf}
use Rattle.bank_rules.specs.Claim.{MatrixWithinLimits, bytes_written}
use Rattle.bank_rules.proofs.Claim.{not-refused, bytes-written, compiled-netlist-of}
use Rattle.verilog_rules.specs.Module.{wire_of, output_of, module_of}
use Rattle.verilog_rules.specs.Meaning.{assigned}
use Rattle.verilog_rules.specs.Standard.{assigned_by_standard}
use Rattle.verilog_rules.specs.Answer.{netlist_text, enough_text}
use Rattle.verilog_rules.specs.Claim.{WrittenModule}
use Rattle.verilog_rules.proofs.Mapped.{each_mapped}
use Rattle.verilog_rules.proofs.StandardLaws.{wire_standard, output_standard}
use Rattle.verilog_rules.proofs.Exact.{settled_outputs_exact, in_order_settled}
use Rattle.verilog_rules.proofs.AnswerLaws.{verilog_writes, always_enough}

-- a netlist that the checker passes for the matrix, whoever made it
pub checked_module : (matrix_bytes b buffer : List ℕ) (net : Netlist) → IsNetlistOf matrix_bytes b net → length (netlist_text net) ≤ length buffer
    → WrittenModule net.head.width matrix_bytes b buffer
checked_module matrix_bytes b buffer net is room =
    let itself = is.netlist.netlist in
    let vector : (xs : List ℤ) → Samples net.head.width (columns matrix_bytes) xs → Samples net.head.width net.head.n xs =
    (λ xs x. subst (λ k. Samples net.head.width k xs) is.size.same-columns x) in
    let written = verilog_writes b buffer net is.netlist room in
    record {
      its_module = module_of net;
      accepts = written.0;
      its_text = written.1;
      standard_wires = λ signals. each_mapped wire_of net.operations (λ k a. assigned_by_standard signals a ≡ assigned signals a)
          (λ before after o e. wire_standard (itself.operation before after o e) signals);
      standard_outputs = λ signals. each_mapped output_of net.outputs (λ k a. assigned_by_standard signals a ≡ assigned signals a)
          (λ before after o e. output_standard (itself.output before after o e) signals);
      settles = λ xs x. in_order_settled net itself xs (vector xs x);
      row-times-vector = λ xs x signals settled. settled_outputs_exact net itself xs (vector xs x) signals settled ∙ is.computes xs (vector xs x);
    }

-- for every matrix within the limits, every sample width, every buffer long enough for the netlist and every one long enough for any text:
-- the module of the bytes that compile wrote
pub compiled_module : (s : ℕ) (matrix_bytes buffer text_buffer : List ℕ) → MatrixWithinLimits matrix_bytes → SampleWidth s
    → length (compiled_bytes s matrix_bytes) ≤ length buffer → enough_text ≤ length text_buffer
    → WrittenModule s matrix_bytes (bytes_written (compile_answer s matrix_bytes (length buffer)) (compile_buffer s matrix_bytes buffer)) text_buffer
unfolding netlist_of
compiled_module s matrix_bytes buffer text_buffer w bits long room =
    let is = compiled-netlist-of s bits matrix_bytes w in
    let written = bytes-written s matrix_bytes buffer (input-accepted s matrix_bytes bits (not-refused matrix_bytes w)) long in
    subst (λ b. WrittenModule s matrix_bytes b text_buffer) (sym written)
    (checked_module matrix_bytes (compiled_bytes s matrix_bytes) text_buffer (compiled_netlist s matrix_bytes) is
    (always_enough (compiled_bytes s matrix_bytes) text_buffer (compiled_netlist s matrix_bytes) is.netlist room))
