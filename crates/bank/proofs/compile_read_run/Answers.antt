-- `bank::compile_read_run` meets its contract. Assumes nothing.
use Prim.Native.Nat.{ℕ, ◌≤◌}
use mathlib.Core.Path.{◌≡◌, sym, subst₂}
use mathlib.Core.List.{List}
use lib.ListN.{length}
use lib.Seq.{length-take-le}
use Rattle.compile_rules.specs.declared.CompileAnswer.{CompileAnswer}
use Rattle.compile_rules.specs.Compile.{compile_answer, compile_buffer}
use Rattle.bank_rules.proofs.Claim.{calls_are}
use Rattle.bank.proofs.Lent.{written-within}
use Rattle.bank.proofs.compile_read_run.Goals as goal

within : (s : ℕ) (matrix_bytes buffer after : List ℕ) (answer : CompileAnswer)
    → answer ≡ compile_answer s matrix_bytes (length buffer) → after ≡ compile_buffer s matrix_bytes buffer → answer.written ≤ length after
within s matrix_bytes buffer after answer e f =
    subst₂ (λ (a : CompileAnswer) (b : List ℕ). a.written ≤ length b) (sym e) (sym f) (written-within s matrix_bytes buffer)

pub slice_bounds-bytes-end : goal.slice_bounds-bytes-end
slice_bounds-bytes-end c = let e = c.compile-compile.ensures in within _ _ _ _ _ e.value e.buffer_after

pub slice_bounds-bytes-end-2 : goal.slice_bounds-bytes-end-2
slice_bounds-bytes-end-2 c = let e = c.compile-compile.ensures in sym (length-take-le _ _ (within _ _ _ _ _ e.value e.buffer_after))

pub returns : goal.returns
returns c =
    let compiled = c.compile-compile.ensures in
    let ran = c.run-run.ensures in
    let all = calls_are c.args.sample_width c.args.matrix.now c.args.buffer.now _ c.args.samples.now c.args.outputs.now _ _ compiled.value compiled.buffer_after c.read-read.ensures ran.value ran.outputs_after in
    record { value = all.0; buffer_after = compiled.buffer_after; outputs_after = all.1.1.0; claim = all.1.1.1 }
