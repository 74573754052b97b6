-- `clock_text::write_there` meets its contract. Assumes nothing.
use Prim.Native.Nat.{ℕ, ◌+◌, ◌*◌, ◌-◌}
use mathlib.Core.Path.{◌≡◌, ap}
use native.Mathlib.Omega.{arith}
use lib.ListN.{take, drop}
use Rattle.text.proofs.Wrote.{wrote_as}
use Rattle.clock_text.specs.Lines.{clock_line}
use Rattle.clock_text.proofs.write_there.Goals as goal

pub returns : goal.returns
returns c =
    let w = c.write_outputs.ensures in
    let a = c.args in
    let start : ℕ = a.clock * a.rows in
    let count : start + a.rows - start ≡ a.rows = omega arith in
    wrote_as (ap (λ (k : ℕ). clock_line (take k (drop start a.outputs.now))) count) w
