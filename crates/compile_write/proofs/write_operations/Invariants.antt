-- `compile_write::write_operations` meets its contract. Assumes nothing.
use Rattle.std.proofs.Common.{◌≡◌, take}
use mathlib.Core.List.{flat_map}
use Rattle.layout_rules.specs.Records.{operation_bytes}
use Rattle.layout_rules.specs.Places.{operation_place}
use Rattle.layout_rules.specs.Written.{written}
use Rattle.board_rules.specs.Table.{HoldsForms}
use Rattle.compile_lists.specs.Lists.{operations_list}
use Rattle.compile_rules.specs.Compile.{with_widths}
use Rattle.compile_write.proofs.WriteLaws.{recorded_from}
use Rattle.compile_write.proofs.write_operations.Given as goal

abbrev pub invariant-loop-k : goal.invariant-loop-k
invariant-loop-k l =
    let os = operations_list l.fn.operations in
    HoldsForms l.layout.n (take l.k os) l.forms
    × (written l.buffer (operation_place l.layout.head l.k) (flat_map operation_bytes (recorded_from l.layout.sample_width l.layout.n os l.k))
    ≡ written l.initial.buffer l.layout.head (flat_map operation_bytes (with_widths l.layout.sample_width l.layout.n os l.layout.n os)))
