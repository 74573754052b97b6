-- What holds of a symbol's entry on every vector of samples holds of what the registers and delays keep of it, so they fit where the board
-- machine's entries do; and the rest of a lent store stays as it was.
-- Assumes nothing.
use Prim.Native.Nat.{ℕ, zero, suc, ◌+◌, ◌-◌, ◌^◌, ◌≤◌, ◌<◌}
use mathlib.Core.Path.{◌≡◌, refl, sym, ◌∙◌, subst}
use mathlib.Core.List.{List, [], ◌∷◌, reverse_aux}
use native.Mathlib.Omega.{arith}
use lib.IntN.{ℤ, pos}
use lib.ListN.{length, drop, length-append, length-drop, length-replicate, get_or-replicate}
use lib.Pow.{pow_pos}
use lib.Seq.{drop_at}
use Rattle.integers.proofs.Expression.{nat, minus, ◌⊝◌, at_most}
use Rattle.layout_rules.specs.Records.{Netlist}
use Rattle.board_rules.specs.Machine.{entry_at, machine, Earlier, entry_form}
use Rattle.board_rules.specs.Width.{Within, Samples, width}
use Rattle.board_rules.specs.Table.{Small}
use Rattle.board_rules.proofs.BoundLaws.{entry_small}
use Rattle.clock_rules.specs.Delays.{symbols, symbol_depth, longest_delay, registers}
use Rattle.clock_rules.specs.Clocked.{delayed, edge, store_from, cleared, clocked_store}
use Rattle.clock_rules.specs.Pipelined.{Vectors}
use Rattle.clock_rules.proofs.DelayLaws.{length-edge, edge-rest}
use Rattle.clock_rules.proofs.Pipeline.{zeros, vector_before, StoreHolds, delayed-is}

-- ---- vectors of samples of s bits

module _ (s n : ℕ) where
  abbrev pub AllSamples : List (List ℤ) → Type 0
  AllSamples [] = Unit {0}
  AllSamples (xs ∷ vectors) = Samples s n xs × AllSamples vectors

  pub samples-vectors : (vectors : List (List ℤ)) → AllSamples vectors → Vectors n vectors
  samples-vectors [] a = tt
  samples-vectors (xs ∷ vectors) a = (a.0.count, samples-vectors vectors a.1)

  pub samples_reversed : (vectors past : List (List ℤ)) → AllSamples vectors → AllSamples past → AllSamples (reverse_aux vectors past)
  samples_reversed [] past a p = p
  samples_reversed (xs ∷ vectors) past a p = samples_reversed vectors (xs ∷ past) a.1 (a.0, p)

  zero-within : Within s (pos 0)
  zero-within =
      let P : ℕ = 2 ^ (s - 1) in
      let h : 0 < P = pow_pos (s - 1) in
      record { low = at_most (minus (nat P)) (nat 0) (omega arith); high = at_most (nat 0) (nat P ⊝ nat 1) (omega (arith, h)) }

  zeros-samples : Samples s n (zeros n)
  zeros-samples = record {
    count = length-replicate n (pos 0);
    within = λ j h. subst (Within s) (sym (get_or-replicate n j (pos 0) (pos 0) h)) zero-within;
  }

  before-samples : (past : List (List ℤ)) → AllSamples past → (clocks : ℕ) → Samples s n (vector_before n past clocks)
  before-samples [] a clocks = zeros-samples
  before-samples (xs ∷ past) a zero = a.0
  before-samples (xs ∷ past) a (suc clocks) = before-samples past a.1 clocks

-- ---- what is kept

module _ (net : Netlist) (earlier : Earlier net.head.n net.operations) (s : ℕ) (past : List (List ℤ)) (kept : AllSamples s net.head.n past)
    (store : List ℤ) (holds : StoreHolds net past store) (xs : List ℤ) (now : Samples s net.head.n xs)
    (symbol clocks : ℕ) (there : symbol < symbols net) (short : clocks ≤ longest_delay net symbol) where
  pub delayed_keeps : (P : ℤ → Type 0) → ((v : List ℤ) → Samples s net.head.n v → P (entry_at (machine v net.operations) symbol))
      → P (delayed net xs store symbol clocks)
  delayed_keeps P each =
      let c : ℕ = symbol_depth net symbol + clocks in
      subst P (sym (delayed-is net earlier past store holds xs now.count symbol clocks there short))
      (each (vector_before net.head.n (xs ∷ past) c) (before-samples s net.head.n (xs ∷ past) (now, kept) c))

  -- a shifted value does not wrap where W bounds the widths and k the shifts
  pub delayed-small : (W k shift : ℕ) → width s (entry_form net.head.n net.operations symbol) ≤ W → shift ≤ k → W + k ≤ 61
      → Small (delayed net xs store symbol clocks) shift
  delayed-small W k shift h l m = delayed_keeps (λ z. Small z shift) (entry_small s net.head.n W k net.operations symbol shift h l m)

-- ---- the rest of the store

module _ (net : Netlist) where
  pub length-cleared : (store : List ℤ) → registers net ≤ length store → length (cleared net store) ≡ length store
  unfolding cleared
  length-cleared store room =
      length-append (zeros (registers net)) (drop (registers net) store)
      ∙ omega (arith, length-replicate (registers net) (pos 0), length-drop (registers net) store)

  cleared-rest : (store : List ℤ) → drop (registers net) (cleared net store) ≡ drop (registers net) store
  unfolding cleared
  cleared-rest store = drop_at (zeros (registers net)) (drop (registers net) store) (registers net) (length-replicate (registers net) (pos 0))

  length_from : (store : List ℤ) (vectors : List (List ℤ)) → registers net ≤ length store → length (store_from net store vectors) ≡ length store
  unfolding store_from
  length_from store [] room = refl
  length_from store (xs ∷ vectors) room =
      let l : length (edge net xs store) ≡ length store = length-edge net xs store room in
      length_from (edge net xs store) vectors (omega arith) ∙ l

  rest_from : (store : List ℤ) (vectors : List (List ℤ)) → drop (registers net) (store_from net store vectors) ≡ drop (registers net) store
  unfolding store_from
  rest_from store [] = refl
  rest_from store (xs ∷ vectors) = rest_from (edge net xs store) vectors ∙ edge-rest net xs store

  pub length-clocked : (store : List ℤ) (vectors : List (List ℤ)) → registers net ≤ length store → length (clocked_store net store vectors) ≡ length store
  length-clocked store vectors room =
      let l : length (cleared net store) ≡ length store = length-cleared store room in
      length_from (cleared net store) vectors (omega arith) ∙ l

  pub rest-clocked : (store : List ℤ) (vectors : List (List ℤ)) → drop (registers net) (clocked_store net store vectors) ≡ drop (registers net) store
  rest-clocked store vectors = rest_from (cleared net store) vectors ∙ cleared-rest store
