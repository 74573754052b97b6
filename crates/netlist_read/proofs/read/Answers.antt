-- `netlist_read::read` meets its contract. Assumes nothing.
use mathlib.Core.Path.{◌∙◌}
use Rattle.layout_rules.specs.Places.{netlist_in}
use Rattle.netlist_read.proofs.NetlistLaws.{answer-refused, answer-accepted, answer-fields}
use Rattle.netlist_read.proofs.read.Goals as goal

pub returns-in-Ok : goal.returns-in-Ok
returns-in-Ok c =
    let net = c.in-Ok.netlist in
    let b = net.bytes.now in
    rw (← c.in-Ok.ensures.ok) (answer-fields b net.head net.totals net.head_read net.totals_read ∙ answer-accepted b (netlist_in b) net.read.netlist-read)

pub returns-in-Err : goal.returns-in-Err
returns-in-Err c = rw c.number.ensures at c.refused.ensures ∙ answer-refused c.args.bytes.now _ _ c.in-Err.ensures.err
