-- `clock_delays::fill_waiting` meets its contract. The symbols with delays before one are in the table. Assumes nothing.
use Prim.Native.Nat.{suc}
use mathlib.Core.Path.{◌≡◌}
use native.Mathlib.Omega.{arith}
use native.Mathlib.Numerals.{add-one}
use Rattle.clock_rules.specs.Tables.{WaitingHeld}
use Rattle.clock_delays.proofs.Waiting.{waiting_started, waiting-same, waiting_next}
use Rattle.clock_delays.proofs.fill_waiting.Goals as goal
use Rattle.clock_delays.proofs.fill_waiting.Goals.{then-longest-symbol-ne0, else-longest-symbol-ne0}

pub loop-symbol-init : goal.loop-symbol-init
loop-symbol-init c = (omega arith, waiting_started c.args.longest.now c.args.waiting.now c.requires.1.1)

pub loop-symbol-preserved : goal.loop-symbol-preserved
loop-symbol-preserved c = let l = c in
    let longest = l.args.longest.now in let waiting = l.loop-symbol.waiting in let symbol = l.loop-symbol.symbol in let entries = l.loop-symbol.entries in
    let held : WaitingHeld longest (suc symbol) c.if-longest-symbol-ne0.waiting c.if-longest-symbol-ne0.entries =
    elim c.if-longest-symbol-ne0.branch [
      | then-longest-symbol-ne0 w ↦ rw (w.waiting-is, w.entries-is, add-one) (waiting_next longest waiting symbol entries l.loop-symbol.invariant.1 (omega arith))
      | else-longest-symbol-ne0 w ↦ rw (w.waiting-is, w.entries-is) (waiting-same longest waiting symbol entries l.loop-symbol.invariant.1 w.if-longest-symbol-ne0.false)
    ] in
    rw add-one (omega arith, held)

pub returns : goal.returns
returns c = let l = c in let s = l in
    let e : l.loop-symbol.symbol ≡ s.args.symbols = omega arith in
    rw e at l.loop-symbol.invariant.1
