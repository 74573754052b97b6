-- `clock_sources::source_of` meets its contract. Assumes nothing.
use mathlib.Core.Path.{◌≡◌, refl}
use Prim.Native.Nat.{ℕ, zero, suc, ◌+◌, ◌-◌}
use native.Mathlib.Omega.{arith}
use Rattle.clock_rules.specs.InPlace.{source_at}
use Rattle.clock_sources.proofs.source_of.Goals as goal

delayed : (n place symbol clocks : ℕ) → (clocks ≡ 0 → ⊥) → n + (place + (clocks - 1)) ≡ source_at n place symbol clocks
delayed n place symbol zero h = absurd (h refl)
delayed n place symbol (suc older) h = omega arith

pub returns : goal.returns
returns c = delayed c.args.n c.args.place c.args.delay.symbol c.args.delay.clocks c.if-delay-eq0.false
