-- The output at clock t + depth is run's for the vector of clock t, and outputs before clock depth are zero.
-- Assumes nothing.
use Prim.Native.Nat.{ℕ, zero, suc, ◌+◌, ◌-◌, ◌<◌}
use mathlib.Core.Path.{◌≡◌, refl, sym, ◌∙◌, ap}
use mathlib.Core.List.{List, [], ◌∷◌, ◌++◌, map, reverse_aux}
use native.Mathlib.Omega.{arith}
use lib.IntN.{ℤ, pos}
use lib.ListN.{length, get_or, take, length-append}
use lib.Seq.{append_snoc}
use Rattle.layout_rules.specs.declared.Operation.{Operation}
use Rattle.layout_rules.specs.declared.Output.{Output}
use Rattle.layout_rules.specs.Records.{Netlist}
use Rattle.board_rules.specs.Machine.{machine, Earlier, output_value}
use Rattle.netlist_rules.specs.Run.{netlist_outputs}
use Rattle.board_rules.specs.Netlist.{Limits, IsNetlist}
use Rattle.clock_rules.specs.Delays.{symbols, netlist_depth}
use Rattle.clock_rules.specs.Clocked.{edge, outputs_from, store_from, cleared, clocked_store}
use Rattle.clock_rules.specs.Pipelined.{Pipelined, Vectors}
use Rattle.clock_rules.proofs.DelayLaws.{outputs_covered}
use Rattle.clock_rules.proofs.Pipeline.{Among, zeros, output-zeros, vector_before, StoreHolds, holds-cleared, outputs-are, holds-edge}

-- ---- the vectors up to clock t, newest first, before others of the past

module _ {A : Type 0} (y z : A) where
  -- what came before the first of them
  past_older : (vectors past : List A) (t clocks : ℕ) → t < clocks → t < length vectors
      → get_or (reverse_aux (take (suc t) vectors) past) clocks z ≡ get_or past (clocks - suc t) z
  past_older [] past t clocks h l = absurd (omega arith)
  past_older (x ∷ vectors) past t zero h l = absurd (omega arith)
  past_older (x ∷ vectors) past zero (suc clocks) h l = let e : suc clocks - 1 ≡ clocks = omega arith in rw e refl
  past_older (x ∷ vectors) past (suc t) (suc clocks) h l =
      let e : suc clocks - suc t ≡ suc (suc clocks - suc (suc t)) = omega arith in
      past_older vectors (x ∷ past) t (suc clocks) (omega arith) (omega arith) ∙ ap (λ c. get_or (x ∷ past) c z) e

  -- one of them
  past_newer : (vectors past : List A) (t clocks : ℕ) → t + clocks < length vectors
      → get_or (reverse_aux (take (suc (t + clocks)) vectors) past) clocks z ≡ get_or vectors t y
  past_newer [] past t clocks l = absurd (omega arith)
  past_newer (x ∷ vectors) past zero zero l = refl
  past_newer (x ∷ vectors) past zero (suc clocks) l =
      let e : suc clocks - suc clocks ≡ 0 = omega arith in
      let f : 0 + suc clocks ≡ suc clocks = omega arith in
      rw f (past_older vectors (x ∷ past) clocks (suc clocks) (omega arith) (omega arith) ∙ ap (λ c. get_or (x ∷ past) c z) e)
  past_newer (x ∷ vectors) past (suc t) clocks l =
      let f : suc t + clocks ≡ suc (t + clocks) = omega arith in
      rw f (past_newer vectors (x ∷ past) t clocks (omega arith))

-- ---- a list of vectors, one a clock

map-zero : (f : Output → ℤ) → ((o : Output) → f o ≡ pos 0) → (os : List Output) → map f os ≡ zeros (length os)
map-zero f each [] = refl
map-zero f each (o ∷ os) = rw (each o, map-zero f each os) refl

module _ (net : Netlist) where
  length-outputs : (store : List ℤ) (vectors : List (List ℤ)) → length (outputs_from net store vectors) ≡ length vectors
  unfolding outputs_from
  length-outputs store [] = refl
  length-outputs store (xs ∷ vectors) = ap suc (length-outputs (edge net xs store) vectors)

  module _ (earlier : Earlier net.head.n net.operations) where
    -- what the store holds after a list of vectors
    pub holds_after : (past : List (List ℤ)) (store : List ℤ) → StoreHolds net past store → Vectors net.head.n past
        → (vectors : List (List ℤ)) → Vectors net.head.n vectors → StoreHolds net (reverse_aux vectors past) (store_from net store vectors)
    unfolding store_from
    holds_after past store h p [] v = h
    holds_after past store h p (xs ∷ vectors) v =
        holds_after (xs ∷ past) (edge net xs store) (holds-edge net earlier past store h xs v.0 p) (v.0, p) vectors v.1

    pub holds-from-cleared : (store : List ℤ) (vectors : List (List ℤ)) → Vectors net.head.n vectors → StoreHolds net (reverse_aux vectors []) (clocked_store net store vectors)
    holds-from-cleared store = holds_after [] (cleared net store) (holds-cleared net store) tt

    module _ (among : Among (symbols net) net.outputs) where
      abbrev seen : List (List ℤ) → List ℤ
      seen past = netlist_outputs net (vector_before net.head.n past (netlist_depth net))

      outputs_at_lem : (past : List (List ℤ)) (store : List ℤ) → StoreHolds net past store → Vectors net.head.n past
          → (vectors : List (List ℤ)) → Vectors net.head.n vectors → (t : ℕ) → t < length vectors
          → get_or (outputs_from net store vectors) t [] ≡ seen (reverse_aux (take (suc t) vectors) past)
      unfolding outputs_from
      outputs_at_lem past store h p [] v t l = absurd (omega arith)
      outputs_at_lem past store h p (xs ∷ vectors) v zero l = outputs-are net earlier past store h xs v.0 net.outputs among (outputs_covered net)
      outputs_at_lem past store h p (xs ∷ vectors) v (suc t) l =
          outputs_at_lem (xs ∷ past) (edge net xs store) (holds-edge net earlier past store h xs v.0 p) (v.0, p) vectors v.1 t (omega arith)

      -- the theorem, for every netlist whose operands are earlier
      pub pipelined : (store : List ℤ) (vectors : List (List ℤ)) → Vectors net.head.n vectors → Pipelined net store vectors
      pipelined store vectors v = record {
        one-a_clock = length-outputs (cleared net store) vectors;
        later = λ t l.
            outputs_at_lem [] (cleared net store) (holds-cleared net store) tt vectors v (t + netlist_depth net) l
            ∙ ap (netlist_outputs net) (past_newer [] (zeros net.head.n) vectors [] t (netlist_depth net) l);
        before = λ t d l.
            outputs_at_lem [] (cleared net store) (holds-cleared net store) tt vectors v t l
            ∙ ap (netlist_outputs net) (past_older [] (zeros net.head.n) vectors [] t (netlist_depth net) d l)
            ∙ map-zero (output_value (machine (zeros net.head.n) net.operations)) (output-zeros net.head.n net.operations) net.outputs;
      }

-- ---- a netlist that read accepts is one

is_earlier : (n : ℕ) (before os : List Operation)
    → ((front after : List Operation) (o : Operation) → before ++ os ≡ front ++ o ∷ after → (o.a < n + length front) × (o.b < n + length front))
    → Earlier (n + length before) os
is_earlier n before [] each = tt
is_earlier n before (o ∷ os) each =
    let l : n + length (before ++ (o ∷ [])) ≡ suc (n + length before) = omega (arith, length-append before (o ∷ [])) in
    let rest : Earlier (n + length (before ++ (o ∷ []))) os =
    is_earlier n (before ++ (o ∷ [])) os (λ front after p e. each front after p (sym (append_snoc before o os) ∙ e)) in
    (each before os o refl, rw l at rest)

is_among : (count : ℕ) (before os : List Output)
    → ((front after : List Output) (o : Output) → before ++ os ≡ front ++ o ∷ after → o.symbol < count) → Among count os
is_among count before [] each = tt
is_among count before (o ∷ os) each =
    (each before os o refl, is_among count (before ++ (o ∷ [])) os (λ front after p e. each front after p (sym (append_snoc before o os) ∙ e)))

module _ (net : Netlist) {l : Limits} (is : IsNetlist l net) where
  pub netlist_earlier : Earlier net.head.n net.operations
  netlist_earlier =
      let e : net.head.n + 0 ≡ net.head.n = omega arith in
      rw e at (is_earlier net.head.n [] net.operations
      (λ front after o s. let limits = (is.operation front after o s).limits in (limits.first_earlier, limits.second_earlier)))

  pub netlist-among : Among (symbols net) net.outputs
  netlist-among = is_among (symbols net) [] net.outputs (λ front after o s. (is.output front after o s).limits.operand.symbol)

  pub netlist_pipelined : (store : List ℤ) (vectors : List (List ℤ)) → Vectors net.head.n vectors → Pipelined net store vectors
  netlist_pipelined = pipelined net netlist_earlier netlist-among
