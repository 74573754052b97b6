-- `netlist_run::fit_answer` meets its contract. What is left to test is the samples from i on. Assumes nothing.
use mathlib.Core.Path.{◌≡◌}
use lib.ListN.{drop}
use Rattle.netlist_rules.specs.Run.{fit_answer}
use Rattle.netlist_run.proofs.fit_answer.Given as goal

abbrev pub invariant-loop-i : goal.invariant-loop-i
invariant-loop-i l = fit_answer l.s l.i (drop l.i l.samples) ≡ fit_answer l.s 0 l.samples
