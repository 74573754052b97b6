-- Compile returns the number and the place of the first of its tests that fails, and accepts where all pass.
-- Assumes nothing.
use Prim.Native.Nat.{ℕ, ◌<◌, ◌≤◌}
use mathlib.Core.Path.{◌≡◌, refl, ap}
use mathlib.Core.Bool.{true, false}
use mathlib.Core.Logic.{◌↔◌, inl}
use mathlib.Core.List.{List, [], ◌∷◌}
use native.Mathlib.Omega.{arith}
use lib.Dec.{ltb}
use lib.ListN.{length}
use borrow.Author.Tests.{ltb-false, le-ltb}
use Rattle.limits.specs.Size.{SampleWidth, sample_width_outside}
use Rattle.limits.proofs.Size.{sample-width-within, sample-width-inside}
use Rattle.layout_rules.specs.Matrix.{matrix_refusal}
use Rattle.layout_rules.specs.Tests.{tested, AllPass, FirstFails, matrix_tests}
use Rattle.layout_rules.proofs.TestLaws.{RefusedBy, Decided, one_fault, behind-refusal, behind_fault, declined_first, passed_all}
use Rattle.layout_rules.proofs.MatrixTests.{matrix-refused}
use Rattle.compile_rules.specs.declared.CompileAnswer.{CompileAnswer}
use Rattle.compile_rules.specs.Compile.{compiled_bytes, compile_refused, compile_accepted, input_refusal, compile_answer}
use Rattle.compile_rules.specs.Tests.{compile_tests}

module _ (s : ℕ) (bytes : List ℕ) (room : ℕ) where
  abbrev size : ℕ
  size = length (compiled_bytes s bytes)

  -- 20, then 1 to 5
  input-refused : RefusedBy (tested 20 0 (SampleWidth s) ∷ matrix_tests bytes) (input_refusal s bytes) 0
  unfolding input_refusal
  input-refused =
      one_fault (matrix_tests bytes) (sample_width_outside s) (SampleWidth s) 20 0 (matrix_refusal bytes) (omega arith)
      (sample-width-within s, sample-width-inside s) (matrix-refused bytes)

  room_decided : Decided (tested 6 0 (size ≤ room) ∷ []) (elim (ltb room size) [ true ↦ compile_refused 6 0 | false ↦ compile_accepted s bytes ]) (compile_accepted s bytes) compile_refused
  room_decided =
      behind_fault [] (ltb room size) (size ≤ room) 6 0 (compile_accepted s bytes) (compile_accepted s bytes) compile_refused (omega arith)
      (ltb-false room size, le-ltb room size) (λ fits. inl (refl, tt))

  compile_decided : Decided (compile_tests s bytes room) (compile_answer s bytes room) (compile_accepted s bytes) compile_refused
  unfolding compile_tests compile_answer
  compile_decided =
      behind-refusal (tested 20 0 (SampleWidth s) ∷ matrix_tests bytes) (tested 6 0 (size ≤ room) ∷ []) (input_refusal s bytes) 0
      (elim (ltb room size) [ true ↦ compile_refused 6 0 | false ↦ compile_accepted s bytes ]) (compile_accepted s bytes) compile_refused
      input-refused room_decided

  other_number : (r place : ℕ) → 0 < r → compile_accepted s bytes ≡ compile_refused r place → ⊥
  other_number r place h e = omega (arith, ap (λ (a : CompileAnswer). a.refusal) e)

  -- a refusal is that of the first test that fails
  pub compile_refuses : (r place : ℕ) → 0 < r → (compile_answer s bytes room ≡ compile_refused r place) ↔ FirstFails (compile_tests s bytes room) r place
  compile_refuses r place h =
      declined_first (compile_tests s bytes room) (compile_answer s bytes room) (compile_accepted s bytes) compile_refused compile_decided
      (λ r p s q e. (ap (λ (a : CompileAnswer). a.refusal) e, ap (λ (a : CompileAnswer). a.place) e)) r place (other_number r place h)

  -- an accepting answer says that all pass
  pub compile_passes : (compile_answer s bytes room ≡ compile_accepted s bytes) ↔ AllPass (compile_tests s bytes room)
  compile_passes = passed_all (compile_tests s bytes room) (compile_answer s bytes room) (compile_accepted s bytes) compile_refused compile_decided other_number
