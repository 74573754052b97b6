-- `clock::clock_list` meets its contract. Assumes nothing.
use mathlib.Core.Path.{sym, ◌∙◌, ap, ap₂}
use Prim.Native.Nat.{ℕ, ◌+◌}
use mathlib.Core.List.{List}
use native.Mathlib.Omega.{arith}
use lib.IntN.{ℤ}
use lib.ListN.{length}
use lib.Seq.{length-take-le}
use Rattle.limits.specs.Limits.{max_symbols}
use Rattle.layout_rules.specs.Places.{netlist_in}
use Rattle.board_rules.proofs.TableLaws.{length-filled}
use Rattle.clock_rules.specs.Clocked.{store_from, outputs_from, in_order}
use Rattle.clock_delays.proofs.Entered.{symbols_few}
use Rattle.clock_delays.proofs.Waiting.{waiting-taken}
use Rattle.clock.proofs.ListLaws.{cleared-is, cleared-store, vectors-are}
use Rattle.clock.proofs.clock_list.Goals as goal

pub overflow_add-symbols : goal.overflow_add-symbols
overflow_add-symbols c = omega (arith, symbols_few c.args.depths.now)

pub fill_waiting-entries-requires : goal.fill_waiting-entries-requires
fill_waiting-entries-requires c = (
  c.requires.longest_held.0.room,
  (omega (arith, symbols_few c.args.depths.now), ap (λ (l : List ℕ). length l) c.filled-waiting.ensures ∙ length-filled 0 max_symbols),
)

pub slice_bounds-waiting-end : goal.slice_bounds-waiting-end
slice_bounds-waiting-end c = let W = c.fill_waiting-entries.ensures in omega (arith, W.few, W.room, symbols_few c.args.depths.now)

pub slice_bounds-schedule-end : goal.slice_bounds-schedule-end
slice_bounds-schedule-end c = let W = c.fill_waiting-entries.ensures in
    sym (length-take-le c.fill_waiting-entries.result c.fill_waiting-entries.new.waiting (omega (arith, W.few, W.room, symbols_few c.args.depths.now)))

pub invariant_of-schedule : goal.invariant_of-schedule
invariant_of-schedule c = let D = c.args.depths.now in let w = c.fill_waiting-entries in record {
  longest_held = c.requires.longest_held.0;
  waiting_held = waiting-taken c.args.longest.now w.new.waiting (D.netlist.head.n + D.netlist.head.operations) w.result (rw (c.n.ensures, c.operations.ensures) at w.ensures)
      (omega (arith, w.ensures.few, w.ensures.room, symbols_few D));
  operands_held = c.fill_operands.ensures;
  outputs_held = c.fill_outputs.ensures;
}

pub clock_vectors-requires-clause-store_value : goal.clock_vectors-requires-clause-store_value
clock_vectors-requires-clause-store_value c =
    cleared-store (netlist_in c.args.depths.now.netlist.bytes.now) c.args.total c.requires.longest_held.1.1 c.args.store.now c.fill.new.self (c.fill.ensures.after (λ y e. e)) c.requires.samples.1

pub returns : goal.returns
returns c =
    let N = c.args.depths.now.netlist in
    let net = netlist_in N.bytes.now in
    let store = cleared-is net c.args.total c.requires.longest_held.1.1 c.args.store.now c.fill.new.self (c.fill.ensures.after (λ y e. e)) c.requires.samples.1 in
    let vectors = vectors-are N.bytes.now N.head N.head_read c.n-2.result c.vector_count-clocks.result c.n-2.ensures c.args.samples.now c.vector_count-clocks.ensures in
    record {
      store_after = c.clock_vectors.ensures.store_after ∙ ap₂ (λ (l : List ℤ) (vs : List (List ℤ)). store_from net l vs) store vectors;
      outputs_after = c.clock_vectors.ensures.outputs_after ∙ ap₂ (λ (l : List ℤ) (vs : List (List ℤ)). in_order (outputs_from net l vs)) store vectors;
    }
