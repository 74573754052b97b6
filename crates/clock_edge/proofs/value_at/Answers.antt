-- `clock_edge::value_at` meets its contract. Assumes nothing.
use Prim.Native.Nat.{ℕ, ◌+◌, ◌-◌, ◌≤◌}
use mathlib.Core.Path.{◌≡◌, sym, ◌∙◌, ap}
use mathlib.Core.List.{List, ◌++◌}
use native.Mathlib.Omega.{arith}
use lib.Dec.{lit≤}
use lib.IntN.{ℤ, pos}
use lib.ListN.{length, get_or, get_or-append}
use lib.Seq.{get_or-append-add}
use mir.Syntax.{w32, w64}
use Rattle.integers.proofs.Held.{is, held, need_widen, widened}
use Rattle.board_rules.specs.Machine.{entry_at}
use Rattle.clock_edge.proofs.value_at.Goals as goal

pub overflow_cast-result : goal.overflow_cast-result
overflow_cast-result c = let s = c in need_widen w32 w64 (lit≤ tt) {z = get_or s.args.samples.now s.args.source (pos 0)} (record { sfits = c.result-1.given })

pub returns-then-source-n : goal.returns-then-source-n
returns-then-source-n c = let s = c in let xs = s.args.samples.now in
    widened w32 w64 (lit≤ tt) {z = get_or xs s.args.source (pos 0)} (record { sfits = c.result-1.given })
    ∙ sym (get_or-append xs s.args.store.now (pos 0) s.args.source (omega arith))

behind : (xs store : List ℤ) (source : ℕ) → length xs ≤ source → entry_at store (source - length xs) ≡ entry_at (xs ++ store) source
behind xs store source h =
    let e : length xs + (source - length xs) ≡ source = omega arith in
    sym (get_or-append-add xs store (source - length xs) (pos 0)) ∙ ap (entry_at (xs ++ store)) e

pub returns : goal.returns
returns c = let s = c in
    is {w = w64} (held (record { sfits = c.result-2-1.given })) ∙ behind s.args.samples.now s.args.store.now s.args.source (omega arith)
