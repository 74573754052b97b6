-- `clock_delays::total_registers` meets its contract. Assumes nothing.
use Prim.Native.Nat.{ℕ}
use mathlib.Core.Path.{sym, ap, ◌∙◌}
use Rattle.layout_rules.specs.Places.{netlist_in}
use Rattle.clock_rules.specs.Answer.{registers_answer}
use Rattle.clock_rules.proofs.AnswerLaws.{registers-accepted}
use Rattle.clock_delays.proofs.Entered.{opened_depths}
use Rattle.clock_delays.proofs.total_registers.Goals as goal

pub invariant_of-depths : goal.invariant_of-depths
invariant_of-depths c = record { depths_held = opened_depths c.in_ok-netlist.netlist c.args.bytes.now c.open_with.new.depths c.in_ok-netlist.ensures.ok c.in_ok-netlist.ensures.held.1 }

pub returns-clause-ok : goal.returns-clause-ok
returns-clause-ok c = let N = c.in_ok-netlist.netlist in
    ap registers_answer (sym c.in_ok-netlist.ensures.ok)
    ∙ registers-accepted N.bytes.now (netlist_in N.bytes.now) N.read.netlist-read
    ∙ ap (λ (k : ℕ). record { refusal = 0; place = 0; registers = k }) (sym c.fill_places.ensures.0)
