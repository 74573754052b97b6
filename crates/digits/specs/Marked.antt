-- Document 01, "Marked banks": the line of digits.
-- Assumes nothing.
use Rattle.std.specs.Prelude.{◌≡◌, List, [], ◌∷◌, ◌^◌, ℤ, pos, neg_ℤ}
use Rattle.limits.specs.Limits.{positions}
use Rattle.digits.specs.Digits.{digits, nonzero, summands_from}

-- a coefficient as the sum that its digits are, lowest position first
abbrev pub summands : ℤ → List ℤ
summands z = summands_from 0 (digits positions z)

pub record MarkedDigits : Type 0 where
  -- 0 none
  pub zero : summands (pos 0) ≡ []
  -- 6 = 8 − 2
  pub six : summands (pos 6) ≡ neg_ℤ (pos 2) ∷ pos 8 ∷ []
  -- 23 = 32 − 8 − 1
  pub twenty_three : summands (pos 23) ≡ neg_ℤ (pos 1) ∷ neg_ℤ (pos 8) ∷ pos 32 ∷ []
  -- 32,767 = 2^15 − 1
  pub largest : summands (pos 32767) ≡ neg_ℤ (pos 1) ∷ pos (2 ^ 15) ∷ []
  -- −32,768 = −2^15
  pub smallest : summands (neg_ℤ (pos 32768)) ≡ neg_ℤ (pos (2 ^ 15)) ∷ []
  -- 21,845 has eight
  pub eight : nonzero (digits positions (pos 21845)) ≡ 8
