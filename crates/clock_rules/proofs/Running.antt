-- A store on its way through a list: it holds what in-range vectors left there, so that no value that is read wraps.
-- Assumes nothing.
use Prim.Native.Nat.{ℕ, suc, ◌+◌, ◌*◌, ◌-◌, ◌≤◌, ◌<◌}
use mathlib.Core.Path.{◌≡◌, ◌∙◌, ap}
use mathlib.Core.List.{List, [], ◌∷◌, ◌++◌}
use native.Mathlib.Nat.{suc-mul}
use native.Mathlib.Omega.{arith}
use lib.IntN.{ℤ, pos}
use lib.ListN.{length, take, drop, replicate, length-replicate}
use lib.Seq.{drop-drop, drop_at}
use Rattle.limits.specs.Limits.{max_width, max_shift}
use Rattle.layout_rules.specs.Records.{Netlist}
use Rattle.board_rules.specs.Machine.{Earlier, entry_form}
use Rattle.board_rules.specs.Width.{Samples, width}
use Rattle.clock_rules.specs.Delays.{symbols, registers}
use Rattle.clock_rules.specs.Clocked.{edge, cleared, vectors_of}
use Rattle.clock_rules.specs.Tables.{StoreReady}
use Rattle.clock_rules.proofs.DelayLaws.{length-edge}
use Rattle.clock_rules.proofs.Pipeline.{StoreHolds, holds-cleared, holds-edge}
use Rattle.clock_rules.proofs.Ranges.{AllSamples, samples-vectors, delayed-small, length-cleared}

module _ (net : Netlist) where
  pub record Running (store : List ℤ) : Type 0 where
    pub past : List (List ℤ)
    pub in_range : AllSamples net.head.width net.head.n past
    pub holds : StoreHolds net past store
    pub room : registers net ≤ length store

  pub running_cleared : (store : List ℤ) → registers net ≤ length store → Running (cleared net store)
  running_cleared store room = record { past = []; in_range = tt; holds = holds-cleared net store; room = omega (arith, length-cleared net store room) }

  -- a store that is cleared stays as it is where it is cleared again
  pub cleared_again : (store : List ℤ) → cleared net (cleared net store) ≡ cleared net store
  unfolding cleared
  cleared_again store =
      ap (λ l. replicate (registers net) (pos 0) ++ l)
      (drop_at (replicate (registers net) (pos 0)) (drop (registers net) store) (registers net) (length-replicate (registers net) (pos 0)))

  module _ (earlier : Earlier net.head.n net.operations) (store xs : List ℤ) (running : Running store) (now : Samples net.head.width net.head.n xs) where
    pub running_edge : Running (edge net xs store)
    running_edge = record {
      past = xs ∷ running.past;
      in_range = (now, running.in_range);
      holds = holds-edge net earlier running.past store running.holds xs now.count (samples-vectors net.head.width net.head.n running.past running.in_range);
      room = omega (arith, length-edge net xs store running.room, running.room);
    }

    pub running_ready : ((symbol : ℕ) → symbol < symbols net → width net.head.width (entry_form net.head.n net.operations symbol) ≤ max_width)
        → StoreReady net xs store
    running_ready narrow = record {
      room = running.room;
      size = now.count;
      small = λ symbol clocks shift h l k.
          delayed-small net earlier net.head.width running.past running.in_range store running.holds xs now symbol clocks h l max_width max_shift shift (narrow symbol h) k (omega arith);
    }

-- ---- the vectors that are left at clock t

pub vectors_left : (n clocks t : ℕ) (samples : List ℤ) → t < clocks
    → vectors_of n (clocks - t) (drop (t * n) samples) ≡ take n (drop (t * n) samples) ∷ vectors_of n (clocks - suc t) (drop (suc t * n) samples)
unfolding vectors_of
vectors_left n clocks t samples h =
    let e : clocks - t ≡ suc (clocks - suc t) = omega arith in
    let f : t * n + n ≡ suc t * n = omega (arith, suc-mul t n) in
    rw e (ap (λ l. take n (drop (t * n) samples) ∷ vectors_of n (clocks - suc t) l) (drop-drop n (t * n) samples ∙ ap (λ k. drop k samples) f))
