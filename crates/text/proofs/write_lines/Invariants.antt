-- What is written are the lines of the numbers passed. Assumes nothing.
use Rattle.std.proofs.Common.{ℕ, List, ◌*◌, ◌≤◌, length, ◌≡◌}
use Rattle.text.specs.Text.{lines_of}
use Rattle.text.specs.Wrote.{Wrote, WritesEach}
use Rattle.text.proofs.write_lines.Given as goal

abbrev pub invariant-loop-k : goal.invariant-loop-k
invariant-loop-k g l =
    ((each : ℕ → List ℕ) → WritesEach (goal.F-post g l.line) l.count each → Wrote l.initial.text l.text l.at (lines_of each l.k))
    × (l.at ≤ g.longest * l.k)
    × (length l.text ≡ length l.initial.text)
