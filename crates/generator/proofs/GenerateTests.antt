-- Generate returns the number and the place of the first of its tests that fails, and accepts where all pass.
-- Assumes nothing.
use Rattle.std.proofs.Common.{◌≡◌, ℕ, ◌<◌, ◌≤◌, ltb, ◌↔◌, [], ◌∷◌, length, refl, ap, inl, arith, ltb-false, le-ltb}
use Rattle.limits.specs.Size.{SizeLimits, size_outside}
use Rattle.limits.proofs.Size.{size-within, size-inside}
use Rattle.layout_rules.specs.Tests.{tested, AllPass, FirstFails}
use Rattle.layout_rules.proofs.TestLaws.{Decided, RefusedBy, one_fault, no_test, behind-refusal, declined_first, passed_all}
use Rattle.generator.specs.declared.GenerateAnswer.{GenerateAnswer}
use Rattle.generator.specs.Generator.{generated_record, generate_refused, generate_accepted, generate_refusal, generate_answer}
use Rattle.generator.specs.Tests.{generate_tests}

module _ (m n seed room : ℕ) where
  abbrev size : ℕ
  size = length (generated_record m n seed)

  abbrev accepted : GenerateAnswer
  accepted = generate_accepted m n seed

  generate_refused_lem : RefusedBy (generate_tests m n seed room) (generate_refusal m n seed room) 0
  unfolding generate_tests generate_refusal
  generate_refused_lem =
      one_fault (tested 6 0 (size ≤ room) ∷ []) (size_outside m n) (SizeLimits m n) 4 0 _ (omega arith) (size-within m n, size-inside m n)
      (one_fault [] (ltb room size) (size ≤ room) 6 0 0 (omega arith) (ltb-false room size, le-ltb room size) (no_test 0))

  generate_decided : Decided (generate_tests m n seed room) (generate_answer m n seed room) accepted generate_refused
  unfolding generate_tests generate_answer
  generate_decided =
      behind-refusal (generate_tests m n seed room) [] (generate_refusal m n seed room) 0 accepted accepted generate_refused generate_refused_lem (inl (refl, tt))

  other_number : (r place : ℕ) → 0 < r → accepted ≡ generate_refused r place → ⊥
  other_number r place h e = omega (arith, ap (λ (a : GenerateAnswer). a.refusal) e)

  -- a refusal is that of the first test that fails
  pub generate_refuses : (r place : ℕ) → 0 < r → (generate_answer m n seed room ≡ generate_refused r place) ↔ FirstFails (generate_tests m n seed room) r place
  generate_refuses r place h =
      declined_first (generate_tests m n seed room) (generate_answer m n seed room) accepted generate_refused generate_decided
      (λ r p s q e. (ap (λ (a : GenerateAnswer). a.refusal) e, ap (λ (a : GenerateAnswer). a.place) e)) r place (other_number r place h)

  -- an accepting answer says that all pass
  pub generate_passes : (generate_answer m n seed room ≡ accepted) ↔ AllPass (generate_tests m n seed room)
  generate_passes = passed_all (generate_tests m n seed room) (generate_answer m n seed room) accepted generate_refused generate_decided other_number
