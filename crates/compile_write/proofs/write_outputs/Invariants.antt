-- `compile_write::write_outputs` meets its contract. Assumes nothing.
use Rattle.std.proofs.Common.{◌≡◌, drop}
use mathlib.Core.List.{flat_map, map}
use Rattle.layout_rules.specs.Records.{output_bytes}
use Rattle.layout_rules.specs.Places.{operation_place, output_place}
use Rattle.layout_rules.specs.Written.{written}
use Rattle.compile_lists.specs.Lists.{outputs_list}
use Rattle.compile_write.specs.Tables.{with_table_width}
use Rattle.compile_write.proofs.write_outputs.Given as goal

abbrev pub invariant-loop-i : goal.invariant-loop-i
invariant-loop-i l =
    let outputs = outputs_list l.fn.outputs in
    let place = output_place l.layout.head l.operations l.i in
    let f = with_table_width l.layout.sample_width l.layout.n l.forms in
    written l.buffer place (flat_map output_bytes (map f (drop l.i outputs)))
    ≡ written l.initial.buffer (operation_place l.layout.head l.operations) (flat_map output_bytes (map f outputs))
