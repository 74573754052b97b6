-- `Netlist::output` meets its contract: the record stands where the place says. Assumes nothing.
use mathlib.Core.Path.{ap, ap₂, ◌∙◌}
use Prim.Native.Nat.{ℕ, ◌<◌}
use native.Mathlib.Omega.{arith}
use Rattle.layout_rules.specs.declared.Head.{Head}
use Rattle.layout_rules.specs.Records.{output_length, output_of}
use Rattle.layout_rules.specs.Places.{payload_of, output_place, head_at}
use Rattle.layout_rules.proofs.InBytes.{length-due}
use Rattle.netlist_read.proofs.NetlistLaws.{output-there}
use Rattle.netlist_read.proofs.accepted.Netlist.output.Goals as goal

pub output_place-requires : goal.output_place-requires
output_place-requires c = let s = c.args.self.now in (omega (arith, s.start_read, length-due s.bytes.now), omega arith, omega arith)

pub output_at-requires : goal.output_at-requires
output_at-requires c =
    let s = c.args.self.now in
    let inside : c.args.i < (head_at s.bytes.now).m = rw (← s.head_read) c.requires in
    omega (arith, c.output_place.ensures, c.operations-operations.ensures, s.start_read, ap (λ (h : Head). h.operations) s.head_read, (output-there s.bytes.now s.read c.args.i inside).0)

pub returns : goal.returns
returns c =
    let s = c.args.self.now in
    c.output_at.ensures
    ∙ ap (λ (p : ℕ). output_of (payload_of s.bytes.now p output_length))
    (c.output_place.ensures ∙ ap₂ (λ (start operations : ℕ). output_place start operations c.args.i) s.start_read c.operations-operations.ensures)
