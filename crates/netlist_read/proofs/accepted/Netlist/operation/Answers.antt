-- `Netlist::operation` meets its contract: the record stands where the place says. Assumes nothing.
use mathlib.Core.Path.{ap, ◌∙◌}
use Prim.Native.Nat.{ℕ, ◌<◌}
use native.Mathlib.Omega.{arith}
use Rattle.layout_rules.specs.Records.{operation_length, operation_of}
use Rattle.layout_rules.specs.Places.{payload_of, operation_place, head_at}
use Rattle.layout_rules.proofs.InBytes.{length-due}
use Rattle.netlist_read.proofs.NetlistLaws.{operation-there}
use Rattle.netlist_read.proofs.accepted.Netlist.operation.Goals as goal

pub operation_place-requires : goal.operation_place-requires
operation_place-requires c = let s = c.args.self.now in (omega (arith, s.start_read, length-due s.bytes.now), omega arith)

pub operation_at-requires : goal.operation_at-requires
operation_at-requires c =
    let s = c.args.self.now in
    let inside : c.args.k < (head_at s.bytes.now).operations = rw (← s.head_read) c.requires in
    omega (arith, c.operation_place.ensures, s.start_read, (operation-there s.bytes.now s.read c.args.k inside).0)

pub returns : goal.returns
returns c =
    let s = c.args.self.now in
    c.operation_at.ensures
    ∙ ap (λ (p : ℕ). operation_of (payload_of s.bytes.now p operation_length)) (c.operation_place.ensures ∙ ap (λ (start : ℕ). operation_place start c.args.k) s.start_read)
