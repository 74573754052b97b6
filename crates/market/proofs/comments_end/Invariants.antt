-- `market::comments_end` meets its contract. Assumes nothing.
use Prim.Native.Nat.{◌+◌, ◌-◌, ◌≤◌}
use mathlib.Core.Path.{◌≡◌}
use lib.ListN.{length, drop}
use Rattle.market.specs.Parts.{comment_bytes}
use Rattle.market.proofs.comments_end.Given as goal

abbrev pub invariant-loop-start : goal.invariant-loop-start
invariant-loop-start l = (l.place ≤ length l.text) × (l.start + comment_bytes (drop l.start l.text) ≡ l.place + comment_bytes (drop l.place l.text))

abbrev pub decreases-loop-start : goal.decreases-loop-start
decreases-loop-start l = length l.text - l.place
