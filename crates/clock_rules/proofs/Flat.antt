-- The theorem for samples and outputs that stand one clock after another: n samples and m outputs a clock.
-- Assumes nothing.
use Prim.Native.Nat.{ℕ, zero, suc, ◌+◌, ◌*◌, ◌≤◌, ◌<◌}
use mathlib.Core.Path.{◌≡◌, refl, ◌∙◌, ap}
use mathlib.Core.List.{List, [], ◌∷◌}
use native.Mathlib.Nat.{suc-mul}
use native.Mathlib.Omega.{arith}
use lib.IntN.{ℤ, pos}
use lib.ListN.{length, get_or, take, drop, length-map, length-drop, get_or-append, get_or-replicate}
use lib.Seq.{length-take-le, drop-drop, get_or-append-add}
use Rattle.layout_rules.specs.Records.{Netlist}
use Rattle.board_rules.specs.Machine.{entry_at}
use Rattle.netlist_rules.specs.Run.{netlist_outputs}
use Rattle.board_rules.specs.Netlist.{Limits, IsNetlist}
use Rattle.clock_rules.specs.Delays.{netlist_depth}
use Rattle.clock_rules.specs.Clocked.{edge, present_output, outputs_from, cleared, clocked_outputs, vectors_of, in_order}
use Rattle.clock_rules.specs.Pipelined.{Pipelined, Vectors}
use Rattle.clock_rules.proofs.Theorem.{netlist_pipelined}

-- ---- whole vectors

module _ (n : ℕ) where
  pub length-vectors : (clocks : ℕ) (samples : List ℤ) → length (vectors_of n clocks samples) ≡ clocks
  unfolding vectors_of
  length-vectors zero samples = refl
  length-vectors (suc clocks) samples = ap suc (length-vectors clocks (drop n samples))

  pub vectors-whole : (clocks : ℕ) (samples : List ℤ) → clocks * n ≤ length samples → Vectors n (vectors_of n clocks samples)
  unfolding vectors_of
  vectors-whole zero samples h = tt
  vectors-whole (suc clocks) samples h = (
    length-take-le n samples (omega (arith, suc-mul clocks n)),
    vectors-whole clocks (drop n samples) (omega (arith, suc-mul clocks n, length-drop n samples)),
  )

  -- the vector of clock t
  pub vector_at : (clocks : ℕ) (samples : List ℤ) (t : ℕ) → t < clocks → get_or (vectors_of n clocks samples) t [] ≡ take n (drop (t * n) samples)
  unfolding vectors_of
  vector_at zero samples t h = absurd (omega arith)
  vector_at (suc clocks) samples zero h = let e : 0 * n ≡ 0 = omega arith in rw e refl
  vector_at (suc clocks) samples (suc t) h =
      let e : n + t * n ≡ suc t * n = omega (arith, suc-mul t n) in
      vector_at clocks (drop n samples) t (omega arith) ∙ ap (take n) (drop-drop (t * n) n samples ∙ ap (λ p. drop p samples) e)

-- ---- outputs in order

-- the output i of clock t
pub in_order_at : (m : ℕ) (clocks : List (List ℤ)) → Vectors m clocks → (t i : ℕ) → t < length clocks → i < m
    → entry_at (in_order clocks) (t * m + i) ≡ entry_at (get_or clocks t []) i
unfolding in_order
in_order_at m [] v t i h l = absurd (omega arith)
in_order_at m (ys ∷ clocks) v zero i h l = let e : 0 * m + i ≡ i = omega arith in rw e (get_or-append ys (in_order clocks) (pos 0) i (omega (arith, v.0)))
in_order_at m (ys ∷ clocks) v (suc t) i h l =
    let e : suc t * m + i ≡ length ys + (t * m + i) = omega (arith, suc-mul t m, v.0) in
    rw e (get_or-append-add ys (in_order clocks) (t * m + i) (pos 0) ∙ in_order_at m clocks v.1 t i (omega arith) l)

pub outputs-whole : (net : Netlist) (store : List ℤ) (vectors : List (List ℤ)) → Vectors (length net.outputs) (outputs_from net store vectors)
unfolding outputs_from
outputs-whole net store [] = tt
outputs-whole net store (xs ∷ vectors) = (length-map net.outputs (present_output net xs store), outputs-whole net (edge net xs store) vectors)

-- ---- the theorem

module _ (net : Netlist) {l : Limits} (is : IsNetlist l net) (store samples : List ℤ) (clocks : ℕ) (whole : clocks * net.head.n ≤ length samples) where
  abbrev vectors : List (List ℤ)
  vectors = vectors_of net.head.n clocks samples

  abbrev outputs : List ℤ
  outputs = in_order (clocked_outputs net store vectors)

  promise : Pipelined net store vectors
  promise = netlist_pipelined net is store vectors (vectors-whole net.head.n clocks samples whole)

  place_of : (t i : ℕ) → t < clocks → i < net.head.m → entry_at outputs (t * net.head.m + i) ≡ entry_at (get_or (clocked_outputs net store vectors) t []) i
  place_of t i h l =
      let v : Vectors net.head.m (clocked_outputs net store vectors) = rw is.one_per_row at (outputs-whole net (cleared net store) vectors) in
      in_order_at net.head.m (clocked_outputs net store vectors) v t i
      (omega (arith, promise.one-a_clock, length-vectors net.head.n clocks samples)) l

  -- output i at clock t + depth is run's for the vector of clock t
  pub later_in_order : (t i : ℕ) → t + netlist_depth net < clocks → i < net.head.m
      → entry_at outputs ((t + netlist_depth net) * net.head.m + i) ≡ entry_at (netlist_outputs net (take net.head.n (drop (t * net.head.n) samples))) i
  later_in_order t i h l =
      place_of (t + netlist_depth net) i h l
      ∙ ap (λ ys. entry_at ys i) (promise.later t (omega (arith, length-vectors net.head.n clocks samples)))
      ∙ ap (λ xs. entry_at (netlist_outputs net xs) i) (vector_at net.head.n clocks samples t (omega arith))

  -- outputs before clock depth are zero
  pub zero_in_order : (t i : ℕ) → t < netlist_depth net → t < clocks → i < net.head.m → entry_at outputs (t * net.head.m + i) ≡ pos 0
  zero_in_order t i d h l =
      place_of t i h l
      ∙ ap (λ ys. entry_at ys i) (promise.before t d (omega (arith, length-vectors net.head.n clocks samples)))
      ∙ get_or-replicate (length net.outputs) i (pos 0) (pos 0) (omega (arith, is.one_per_row))
