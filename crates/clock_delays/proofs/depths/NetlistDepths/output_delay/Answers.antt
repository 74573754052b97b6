-- `NetlistDepths::output_delay` meets its contract. Assumes nothing.
use Prim.Native.Nat.{ℕ, ◌-◌}
use mathlib.Core.Path.{ap, ap₂, ◌∙◌}
use native.Mathlib.Omega.{arith}
use Rattle.layout_rules.specs.Places.{netlist_in}
use Rattle.clock_rules.specs.Delays.{delay_by, delay_of_output}
use Rattle.clock_delays.proofs.Entered.{output_ready, deepest, other_delay}
use Rattle.clock_delays.proofs.depths.NetlistDepths.output_delay.Goals as goal

pub depth-requires : goal.depth-requires
depth-requires c = (output_ready c.args.self.now c.args.i c.requires c.output-o.result c.output-o.ensures).0

pub overflow_sub-result : goal.overflow_sub-result
overflow_sub-result c = let R = output_ready c.args.self.now c.args.i c.requires c.output-o.result c.output-o.ensures in omega (arith, c.depth.ensures, deepest c.args.self.now, R.1.1)

pub returns : goal.returns
returns c =
    let net = netlist_in c.args.self.now.netlist.bytes.now in
    let o = c.output-o.result in
    let R = output_ready c.args.self.now c.args.i c.requires o c.output-o.ensures in
    ap (delay_by o.symbol) (ap₂ (λ (x y : ℕ). x - y) (deepest c.args.self.now) c.depth.ensures ∙ other_delay net o.sign o.symbol R.1.0 c.if-o-eq2.false)
    ∙ ap (delay_of_output net) c.output-o.ensures
