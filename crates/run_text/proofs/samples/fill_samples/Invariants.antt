-- `run_text::samples::fill_samples` meets its contract. The samples before i are there. Assumes nothing.
use mathlib.Core.Path.{◌≡◌}
use lib.ListN.{length, take}
use Rattle.run_text.specs.Samples.{first_samples}
use Rattle.run_text.proofs.samples.fill_samples.Given as goal

abbrev pub invariant-loop-i : goal.invariant-loop-i
invariant-loop-i l = (length l.samples ≡ length l.initial.samples) × (take l.i l.samples ≡ first_samples l.bytes l.i)
