-- `clock_delays::registers` meets its contract. Assumes nothing.
use mathlib.Core.Path.{sym}
use Rattle.clock_rules.proofs.AnswerLaws.{registers-refused}
use Rattle.refusals.specs.Numbers.{number}
use Rattle.clock_delays.proofs.registers.Goals as goal

pub returns-in-Err : goal.returns-in-Err
returns-in-Err c = rw c.number.ensures (sym (registers-refused c.args.netlist.now (number c.in-Err.refused.refusal) c.in-Err.refused.place c.in-Err.ensures.err))
