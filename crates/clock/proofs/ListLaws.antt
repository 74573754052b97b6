-- A list on its way through the clocked form: what is left to do at clock t, and what is left of it one clock later.
-- Assumes nothing.
use Prim.Native.Nat.{ℕ, suc, ◌+◌, ◌*◌, ◌-◌, ◌≤◌, ◌<◌}
use mathlib.Core.Path.{◌≡◌, refl, sym, ◌∙◌, ap, ap₂, subst}
use mathlib.Core.List.{List, [], ◌∷◌, ◌++◌, append_assoc, append-nil}
use native.Mathlib.Nat.{suc-mul, mul-le-mul_right}
use native.Mathlib.Omega.{arith}
use lib.IntN.{ℤ, pos}
use lib.ListN.{length, take, drop, replicate, length-append, length-drop, length-map}
use lib.Seq.{take_at, take_all, length-take-le, drop-drop}
use Rattle.layout_rules.specs.declared.Head.{Head}
use Rattle.layout_rules.specs.Records.{Netlist}
use Rattle.layout_rules.specs.Places.{head_at, output_at, operations_in, outputs_in, netlist_in}
use Rattle.layout_rules.proofs.FirstRecords.{length-first}
use Rattle.board_rules.specs.Machine.{Earlier}
use Rattle.board_rules.specs.Width.{Samples}
use Rattle.limits.specs.Size.{SampleWidth}
use Rattle.netlist_rules.specs.declared.RunAnswer.{RunAnswer}
use Rattle.netlist_rules.specs.Run.{ran}
use Rattle.netlist_read.specs.Tables.{NetlistRead}
use Rattle.netlist_read.proofs.NetlistLaws.{head-limits}
use Rattle.clock_rules.specs.Delays.{registers}
use Rattle.clock_rules.specs.Answer.{vector_count, vectors_in, list_answer}
use Rattle.clock_rules.proofs.AnswerLaws.{InOrder, list_in_order, Clocked, list_declines, list_accepts}
use Rattle.clock_rules.proofs.Ranges.{length-cleared}
use Rattle.clock_rules.specs.Clocked.{present_output, present_outputs, edge, outputs_from, store_from, cleared, clocked_outputs, clocked_store, vectors_of, in_order}
use Rattle.clock_rules.proofs.DelayLaws.{length-edge}
use Rattle.clock_rules.specs.Tables.{StoreReady}
use Rattle.clock_rules.proofs.Running.{Running, cleared_again, running_edge, running_ready, vectors_left}
use Rattle.clock_rules.proofs.InBytes.{symbols-are}
use Rattle.clock_rules.proofs.Claim.{vector-samples}
use Rattle.clock_delays.proofs.Entered.{operands_earlier}

module _ (net : Netlist) (n m clocks : ℕ) (samples : List ℤ) where
  -- the vectors from clock t on
  abbrev pub vectors_from : ℕ → List (List ℤ)
  vectors_from t = vectors_of n (clocks - t) (drop (t * n) samples)

  -- before clock t: store and outputs, where they began and where they are
  pub record Going (store₀ outputs₀ store outputs : List ℤ) (t : ℕ) : Type 0 where
    pub running : Running net store
    pub store_length_lem : length store ≡ length store₀
    pub outputs-length : length outputs ≡ length outputs₀
    pub store_left : store_from net store (vectors_from t) ≡ store_from net store₀ (vectors_of n clocks samples)
    pub outputs_left : take (t * m) outputs ++ in_order (outputs_from net store (vectors_from t)) ≡ in_order (outputs_from net store₀ (vectors_of n clocks samples))

  pub going_start : (store outputs : List ℤ) → Running net store → Going store outputs store outputs 0
  going_start store outputs r =
      let none : clocks - 0 ≡ clocks = omega arith in
      let first : 0 * n ≡ 0 = omega arith in
      let front : 0 * m ≡ 0 = omega arith in record {
        running = r;
        store_length_lem = refl;
        outputs-length = refl;
        store_left = rw (none, first) refl;
        outputs_left = rw (none, first, front) refl;
      }

  module _ (store₀ outputs₀ store outputs : List ℤ) (t : ℕ) (g : Going store₀ outputs₀ store outputs t) where
    -- one clock with the vector of clock t, which hands back the outputs with m new ones
    module _ (h : t < clocks) (earlier : Earlier net.head.n net.operations) (xs : List ℤ) (vector : xs ≡ take n (drop (t * n) samples))
        (now : Samples net.head.width net.head.n xs) (store_after outputs_after : List ℤ) (stored : store_after ≡ edge net xs store)
        (put : outputs_after ≡ take (t * m) outputs ++ (present_outputs net xs store ++ drop (t * m + m) outputs))
        (count : length (present_outputs net xs store) ≡ m) (room : t * m + m ≤ length outputs) where
      abbrev new : List ℤ
      new = present_outputs net xs store

      left_is : vectors_from t ≡ xs ∷ vectors_from (suc t)
      left_is = vectors_left n clocks t samples h ∙ ap (λ v. v ∷ vectors_from (suc t)) (sym vector)

      front_is : take (suc t * m) outputs_after ≡ take (t * m) outputs ++ new
      front_is =
          let before : List ℤ = take (t * m) outputs in
          let size : length (before ++ new) ≡ suc t * m =
          length-append before new ∙ omega (arith, length-take-le (t * m) outputs (omega arith), count, suc-mul t m) in
          ap (take (suc t * m)) (put ∙ sym (append_assoc before new (drop (t * m + m) outputs)))
          ∙ take_at (before ++ new) (drop (t * m + m) outputs) (suc t * m) size

      all_lengths : length outputs_after ≡ length outputs
      all_lengths =
          ap length put
          ∙ length-append (take (t * m) outputs) (new ++ drop (t * m + m) outputs)
          ∙ omega (arith, length-append new (drop (t * m + m) outputs), length-take-le (t * m) outputs (omega arith), length-drop (t * m + m) outputs, count)

      pub going_next : Going store₀ outputs₀ store_after outputs_after (suc t)
      unfolding store_from outputs_from in_order
      going_next = record {
        running = rw stored (running_edge net earlier store xs g.running now);
        store_length_lem = ap length stored ∙ length-edge net xs store g.running.room ∙ g.store_length_lem;
        outputs-length = all_lengths ∙ g.outputs-length;
        store_left = rw stored (ap (store_from net store) (sym left_is) ∙ g.store_left);
        outputs_left =
            ap (λ l. l ++ in_order (outputs_from net store_after (vectors_from (suc t)))) front_is
            ∙ append_assoc (take (t * m) outputs) new (in_order (outputs_from net store_after (vectors_from (suc t))))
            ∙ ap (λ s. take (t * m) outputs ++ (new ++ in_order (outputs_from net s (vectors_from (suc t))))) stored
            ∙ ap (λ v. take (t * m) outputs ++ in_order (outputs_from net store v)) (sym left_is)
            ∙ g.outputs_left;
      }

    -- behind the last clock
    module _ (h : clocks ≤ t) (all : length outputs₀ ≡ clocks * m) where
      none_left : vectors_from t ≡ []
      unfolding vectors_of
      none_left = let e : clocks - t ≡ 0 = omega arith in rw e refl

      pub store_done : store ≡ store_from net store₀ (vectors_of n clocks samples)
      unfolding store_from
      store_done = ap (store_from net store) (sym none_left) ∙ g.store_left

      pub outputs_done : outputs ≡ in_order (outputs_from net store₀ (vectors_of n clocks samples))
      unfolding outputs_from in_order
      outputs_done =
          let whole : take (t * m) outputs ≡ outputs = take_all (t * m) outputs (omega (arith, g.outputs-length, all, mul-le-mul_right m h)) in
          sym whole ∙ sym (append-nil (take (t * m) outputs)) ∙ ap (λ v. take (t * m) outputs ++ in_order (outputs_from net store v)) (sym none_left) ∙ g.outputs_left

-- ---- by a schedule

-- a part of so many from a place
part_is : (xs : List ℤ) (from count : ℕ) → take (from + count - from) (drop from xs) ≡ take count (drop from xs)
part_is xs from count = let e : from + count - from ≡ count = omega arith in rw e refl

part_length : (xs : List ℤ) (from count : ℕ) → from + count ≤ length xs → length (take (from + count - from) (drop from xs)) ≡ count
part_length xs from count h = ap length (part_is xs from count) ∙ length-take-le count (drop from xs) (omega (arith, length-drop from xs))

-- m new outputs, put into their place
put_is : (outputs new made : List ℤ) (to m : ℕ) → new ≡ made
    → take to outputs ++ (new ++ drop (to + m - to) (drop to outputs)) ≡ take to outputs ++ (made ++ drop (to + m) outputs)
put_is outputs new made to m e =
    let left : to + m - to ≡ m = omega arith in
    rw (left, e, drop-drop m to outputs) refl

-- at clock t of a list for a schedule's netlist
module _ (b : List ℕ) (N : NetlistRead b) (head : Head) (head-is : head ≡ head_at b) (n m clocks : ℕ) (n-is : n ≡ head.n) (m-is : m ≡ head.m)
    (samples store₀ outputs₀ : List ℤ) (whole : length samples ≡ clocks * head.n) (lent : length outputs₀ ≡ clocks * head.m)
    (fit : Samples head.width (length samples) samples) where
  abbrev net : Netlist
  net = netlist_in b

  samples-all : length samples ≡ clocks * n
  samples-all = rw n-is whole

  pub outputs-all : length outputs₀ ≡ clocks * m
  outputs-all = rw m-is lent

  columns : n ≡ (head_at b).n
  columns = n-is ∙ ap (λ (h : Head). h.n) head-is

  rows : m ≡ (head_at b).m
  rows = m-is ∙ ap (λ (h : Head). h.m) head-is

  earlier : Earlier (head_at b).n (operations_in b)
  earlier = operands_earlier b N

  module _ (t : ℕ) (store outputs : List ℤ) (g : Going net n m clocks samples store₀ outputs₀ store outputs t) where
    module _ (more : t < clocks) where
      pub samples-room : t * n + n ≤ length samples
      samples-room = omega (arith, samples-all, suc-mul t n, mul-le-mul_right n more)

      pub outputs-room : t * m + m ≤ length outputs
      outputs-room = omega (arith, g.outputs-length, outputs-all, suc-mul t m, mul-le-mul_right m more)

      abbrev xs : List ℤ
      xs = take (t * n + n - t * n) (drop (t * n) samples)

      vector-is : xs ≡ take n (drop (t * n) samples)
      vector-is = part_is samples (t * n) n

      in-range : Samples (head_at b).width (length samples) samples
      in-range = subst (λ (h : Head). Samples h.width (length samples) samples) head-is fit

      vector-samples-are : Samples (head_at b).width (head_at b).n xs
      vector-samples-are =
          subst (λ (k : ℕ). Samples (head_at b).width k xs) columns
          (subst (Samples (head_at b).width n) (sym vector-is) (vector-samples (head_at b).width n t clocks samples in-range more (omega (arith, samples-all))))

      pub ready : StoreReady net xs store
      ready = running_ready net earlier store xs g.running vector-samples-are (λ symbol h. N.narrow symbol (omega (arith, symbols-are b)))

      pub rows-lent : length (take (t * m + m - t * m) (drop (t * m) outputs)) ≡ head.m
      rows-lent = part_length outputs (t * m) m outputs-room ∙ m-is

      pub clocked-next : (store_after new : List ℤ) → store_after ≡ edge net xs store → new ≡ present_outputs net xs store
          → Going net n m clocks samples store₀ outputs₀ store_after (take (t * m) outputs ++ (new ++ drop (t * m + m - t * m) (drop (t * m) outputs))) (suc t)
      clocked-next store_after new stored made =
          going_next net n m clocks samples store₀ outputs₀ store outputs t g more earlier xs vector-is vector-samples-are store_after _ stored
          (put_is outputs new (present_outputs net xs store) (t * m) m made)
          (length-map (outputs_in b) (present_output net xs store) ∙ length-first (output_at b (length (operations_in b))) (head_at b).m ∙ sym rows)
          outputs-room

    -- behind the last one
    pub all-clocked : clocks ≤ t
        → (store ≡ store_from net store₀ (vectors_of head.n clocks samples)) × (outputs ≡ in_order (outputs_from net store₀ (vectors_of head.n clocks samples)))
    all-clocked over = subst (λ (k : ℕ). (store ≡ store_from net store₀ (vectors_of k clocks samples)) × (outputs ≡ in_order (outputs_from net store₀ (vectors_of k clocks samples)))) n-is
        (store_done net n m clocks samples store₀ outputs₀ store outputs t g over outputs-all, outputs_done net n m clocks samples store₀ outputs₀ store outputs t g over outputs-all)

-- ---- what the list is answered with

pub width-right : (b : List ℕ) → NetlistRead b → (head : Head) → head ≡ head_at b → SampleWidth head.width
width-right b N head head-is = subst (λ (h : Head). SampleWidth h.width) (sym head-is) (head-limits b N).width

module _ (b : List ℕ) (N : NetlistRead b) (head : Head) (head-is : head ≡ head_at b) (total : ℕ) (total-is : total ≡ registers (netlist_in b)) (samples store outputs : List ℤ) where
  abbrev list : RunAnswer
  list = list_answer head total samples (length store) (length outputs)

  list-is : list ≡ list_answer (head_at b) (registers (netlist_in b)) samples (length store) (length outputs)
  list-is = ap₂ (λ (h : Head) (k : ℕ). list_answer h k samples (length store) (length outputs)) head-is total-is

  pub list-refused : (r place : ℕ) → ran r place ≡ list → (r ≡ 0 → ⊥) → Clocked b samples store outputs (ran r place) store outputs
  list-refused r place e h = list_declines b samples store outputs (netlist_in b) N.netlist-read (ran r place) (e ∙ list-is) h

  pub list-in-order : ran 0 0 ≡ list → InOrder head total samples (length store) (length outputs)
  list-in-order e = list_in_order head total samples (length store) (length outputs) (ap (λ (a : RunAnswer). a.refusal) (sym e))

  pub list-clocked : ran 0 0 ≡ list
      → Clocked b samples store outputs (ran 0 0) (clocked_store (netlist_in b) store (vectors_in (netlist_in b) samples)) (in_order (clocked_outputs (netlist_in b) store (vectors_in (netlist_in b) samples)))
  list-clocked e = list_accepts b samples store outputs (netlist_in b) N.netlist-read (ran 0 0) (e ∙ list-is) refl

-- a store whose registers are filled with zeros, of which so many are asked
module _ (net : Netlist) (total : ℕ) (total-is : total ≡ registers net) (store filled : List ℤ) (zeros : filled ≡ replicate (length (take total store)) (pos 0)) (room : total ≤ length store) where
  pub cleared-is : filled ++ drop total store ≡ cleared net store
  unfolding cleared
  cleared-is = rw (zeros, length-take-le total store room, total-is) refl

  pub cleared-store : (filled ++ drop total store ≡ cleared net (filled ++ drop total store)) × (registers net ≤ length (filled ++ drop total store))
  cleared-store =
      rw cleared-is (sym (cleared_again net store), omega (arith, length-cleared net store (omega (arith, total-is)), total-is))

-- the vectors of a list are those of its netlist
pub vectors-are : (b : List ℕ) (head : Head) → head ≡ head_at b → (n clocks : ℕ) → n ≡ head.n → (samples : List ℤ) → clocks ≡ vector_count n (length samples)
    → vectors_of head.n clocks samples ≡ vectors_in (netlist_in b) samples
vectors-are b head e n clocks d samples c =
    rw (c, d) (ap (λ (h : Head). vectors_of h.n (vector_count h.n (length samples)) samples) e)
