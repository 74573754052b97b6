-- `clock_delays::enter_outputs` meets its contract. Assumes nothing.
use Prim.Native.Nat.{ℕ}
use mathlib.Core.Path.{◌≡◌, sym, ap, ◌∙◌}
use native.Mathlib.Omega.{arith}
use native.Mathlib.Numerals.{add-one}
use Rattle.limits.specs.Limits.{max_symbols}
use Rattle.layout_rules.specs.Places.{head_at}
use Rattle.board_rules.specs.Table.{filled}
use Rattle.clock_rules.specs.Tables.{entered}
use Rattle.clock_delays.proofs.Entered.{operations-are, symbols-few, entered-room, output_below, all-rows, delays_to, operands_entered, output-entered, all-entered}
use Rattle.clock_delays.proofs.enter_outputs.Goals as goal

pub loop-i-init : goal.loop-i-init
loop-i-init c = c.requires ∙ ap (entered (filled max_symbols 0)) (sym (operands_entered c.args.depths.now.netlist.bytes.now))

pub enter-requires : goal.enter-requires
enter-requires c = let D = c.args.depths.now in (
  output_below D c.loop-i.i (omega arith) c.output_delay.result c.output_delay.ensures,
  entered-room (delays_to D.netlist.bytes.now c.loop-i.i) c.loop-i.longest c.loop-i.invariant,
)

pub loop-i-preserved : goal.loop-i-preserved
loop-i-preserved c = let N = c.args.depths.now.netlist in
    rw add-one (output-entered N.bytes.now N.head.operations (operations-are N.bytes.now N.read N.head N.head_read) c.loop-i.i c.output_delay.result c.output_delay.ensures
    c.loop-i.longest c.enter.new.longest c.enter.ensures c.loop-i.invariant)

pub returns : goal.returns
returns c = let N = c.args.depths.now.netlist in let b = N.bytes.now in
    let e : c.loop-i.i ≡ (head_at b).m = all-rows c.args.depths.now c.loop-i.i (omega arith) in
    all-entered b c.loop-i.longest (symbols-few b N.read) (c.loop-i.invariant ∙ ap (λ (j : ℕ). entered (filled max_symbols 0) (delays_to b j)) e)
