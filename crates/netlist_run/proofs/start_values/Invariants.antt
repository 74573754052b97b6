-- `netlist_run::start_values` meets its contract. The samples before j are in the table. Assumes nothing.
use mathlib.Core.Path.{◌≡◌}
use lib.ListN.{length, take}
use Rattle.limits.specs.Limits.{max_symbols}
use Rattle.netlist_run.proofs.start_values.Given as goal

abbrev pub invariant-loop-j : goal.invariant-loop-j
invariant-loop-j l = (length l.values ≡ max_symbols) × (take l.j l.values ≡ take l.j l.samples)
