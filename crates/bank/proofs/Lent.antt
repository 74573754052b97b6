-- The bytes that compile reports written are a part of the buffer, whatever it answers: so they can be lent to read and run.
-- Assumes nothing.
use Prim.Native.Nat.{ℕ, zero, suc, ◌≤◌}
use mathlib.Core.Path.{◌≡◌, refl, ap}
use mathlib.Core.Bool.{Bool, true, false}
use mathlib.Core.List.{List}
use native.Mathlib.Omega.{arith}
use lib.Dec.{ltb}
use lib.ListN.{length, drop, length-append}
use borrow.Author.Tests.{ltb-true, ltb-false}
use Rattle.compile_rules.specs.declared.CompileAnswer.{CompileAnswer}
use Rattle.compile_rules.specs.Compile.{compiled_bytes, input_refusal, compile_answer, compile_buffer}
use Rattle.compile_rules.proofs.Compiled.{answer-refused, answer-short, answer-accepted, buffer-accepted}

pub written-within : (s : ℕ) (matrix_bytes buffer : List ℕ) → (compile_answer s matrix_bytes (length buffer)).written ≤ length (compile_buffer s matrix_bytes buffer)
written-within s matrix_bytes buffer = by_refusal (input_refusal s matrix_bytes) refl
  where
    count : CompileAnswer → ℕ
    count a = a.written

    room : (short : Bool) → input_refusal s matrix_bytes ≡ 0 → ltb (length buffer) (length (compiled_bytes s matrix_bytes)) ≡ short
        → (compile_answer s matrix_bytes (length buffer)).written ≤ length (compile_buffer s matrix_bytes buffer)
    room true e t = omega (arith, ap count (answer-short s matrix_bytes (length buffer) e (ltb-true (length buffer) (length (compiled_bytes s matrix_bytes)) t)))
    room false e f =
        let enough = ltb-false (length buffer) (length (compiled_bytes s matrix_bytes)) f in
        let bytes : List ℕ = compiled_bytes s matrix_bytes in
        omega (
          arith,
          ap count (answer-accepted s matrix_bytes (length buffer) e enough),
          ap length (buffer-accepted s matrix_bytes buffer e enough),
          length-append bytes (drop (length bytes) buffer),
        )

    by_refusal : (r : ℕ) → input_refusal s matrix_bytes ≡ r → (compile_answer s matrix_bytes (length buffer)).written ≤ length (compile_buffer s matrix_bytes buffer)
    by_refusal zero e = room (ltb (length buffer) (length (compiled_bytes s matrix_bytes))) e refl
    by_refusal (suc r) e = omega (arith, ap count (answer-refused s matrix_bytes r (length buffer) e))
