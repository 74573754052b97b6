-- `netlist_read::sample_width` meets its contract. Assumes nothing.
use Rattle.netlist_read.proofs.NetlistLaws.{width-refused, width-accepted}
use Rattle.netlist_read.proofs.sample_width.Goals as goal

pub returns-in-Ok : goal.returns-in-Ok
returns-in-Ok c =
    let net = c.in-Ok.netlist in
    rw (← c.in-Ok.ensures.ok) (width-accepted net.bytes.now net.head net.head_read net.read.netlist-read)

pub returns-in-Err : goal.returns-in-Err
returns-in-Err c = rw c.number.ensures (width-refused c.args.bytes.now _ _ c.in-Err.ensures.err)
