-- `byte_slices::find` meets its contract. Assumes nothing.
use Rattle.std.proofs.Common.{rules, arith, length-take, length-drop}
use Rattle.byte_slices.proofs.Search.{found, slice-in-bytes}
use Rattle.byte_slices.proofs.find.Goals as goal

pub returns : goal.returns
returns c =
    let a = c.args in
    rw (slice-in-bytes a.start a.end a.bytes.now c.requires.0 c.requires.1) at
    (found a.wanted _ c.first.result a.start a.end c.map_or.result _ c.first.ensures (simp (length-take, length-drop) (omega arith)) c.map_or.ensures (λ i q. search rules))
