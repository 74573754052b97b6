-- A list of one value in every place: its length, and its first places. Assumes nothing.
use Rattle.std.specs.Prelude.{◌≡◌, ℕ, ◌≤◌, length, take, replicate}
use Rattle.std.proofs.lemmas.List.{length-replicate, take-replicate}
use Rattle.arrays.specs.Filled.{filled}

module _ {A : Type 0} (x : A) where
  pub length-filled : (k : ℕ) → length (filled k x) ≡ k
  unfolding filled
  length-filled k = length-replicate k x

  pub take-filled : (n k : ℕ) → n ≤ k → take n (filled k x) ≡ replicate n x
  unfolding filled
  take-filled n k l = take-replicate n k x l
