-- `clock_edge::store_values` meets its contract. Assumes nothing.
use Prim.Native.Nat.{ℕ, ◌+◌, ◌≤◌}
use mathlib.Core.Path.{◌≡◌, sym}
use mathlib.Core.List.{List, ◌++◌}
use native.Mathlib.Omega.{arith}
use lib.IntN.{ℤ}
use lib.ListN.{length, take, drop}
use lib.Seq.{sets, length-take-le}
use Rattle.std.proofs.lemmas.List.Edits.{sets-eq}
use Rattle.clock_edge.proofs.store_values.Goals as goal

copied : (values store part : List ℤ) (count : ℕ) → part ≡ values → length values ≡ count → count ≤ length store → part ++ drop count store ≡ sets store 0 values
copied values store part count e l h =
    let none : 0 + length values ≡ length values = omega arith in
    let fits : 0 + length values ≤ length store = omega arith in
    rw (e, ← l) (sym (rw none at (sets-eq values store 0 fits)))

pub returns-then-operations-gt0 : goal.returns-then-operations-gt0
returns-then-operations-gt0 c = copied (take c.args.operations c.args.values.now) c.args.store.now c.copy_from_slice.new.self c.args.operations c.copy_from_slice.ensures.after
    (length-take-le c.args.operations c.args.values.now (omega arith)) c.requires.1.1
