-- `compile_write::write_netlist` meets its contract. Assumes nothing.
use Rattle.std.proofs.Common.{ap, ap₂, ◌∙◌, ℕ, pos, ◌-◌, List, ◌++◌, length, take, drop, arith}
use mathlib.Core.List.{flat_map}
use lib.ListN.{length-map}
use Rattle.layout_rules.specs.declared.Output.{Output}
use Rattle.layout_rules.specs.Records.{head_length_of, head_bytes, operation_bytes, output_bytes, totals_length, totals_bytes}
use Rattle.layout_rules.specs.Places.{operation_place}
use Rattle.layout_rules.specs.Written.{written}
use Rattle.layout_rules.proofs.Lengths.{head-length}
use Rattle.board_rules.specs.Table.{filled, forms_length}
use Rattle.board_rules.proofs.TableLaws.{length-filled, started_holds}
use Rattle.compile_lists.specs.Lists.{operations_list, outputs_list}
use Rattle.compile_rules.specs.Compile.{with_widths, output_with_width}
use Rattle.compile_rules.proofs.Counts.{length_with_widths}
use Rattle.compile_write.specs.Tables.{recorded_netlist}
use Rattle.compile_write.proofs.WriteLaws.{outputs_writable, table-widths, netlist-written}
use Rattle.compile_write.proofs.write_netlist.Goals as goal

pub invariant_of-layout-clause-place : goal.invariant_of-layout-clause-place
invariant_of-layout-clause-place c = omega (arith, c.head_length.ensures, head-length c.args.s)

pub write_operations-requires-clause-writable : goal.write_operations-requires-clause-writable
write_operations-requires-clause-writable c =
    let w = c.requires.writable.0 in
    (w, rw (c.start_forms.ensures, c.filled-forms.ensures) (started_holds c.args.n (filled forms_length (pos 0)) w.inputs (length-filled (pos 0) forms_length)))

pub write_outputs-requires-clause-writable_outputs : goal.write_outputs-requires-clause-writable_outputs
write_outputs-requires-clause-writable_outputs c =
    outputs_writable c.args.s c.args.n (operations_list c.args.operations) c.write_operations.new.forms c.write_operations.ensures.holds_forms c.requires.sample_width c.requires.writable.0
    (outputs_list c.args.outputs) c.requires.writable.1

pub output_place-end-requires : goal.output_place-end-requires
output_place-end-requires c =
    (omega (arith, c.head_length.ensures, head-length c.args.s), omega (arith, c.count-count.ensures.number, c.requires.writable.0.few), omega (arith, c.count.ensures.within))

pub returns-clause-buffer_after : goal.returns-clause-buffer_after
returns-clause-buffer_after c =
    let n = c.args.n in
    let s = c.args.s in
    let buffer = c.args.buffer.now in
    let os = operations_list c.args.operations in
    let outputs = outputs_list c.args.outputs in
    let count = c.count-count in
    let head = c.head_length in
    let table = c.write_operations.new.forms in
    let place : ℕ = operation_place head.result count.result in
    let end = c.output_place-end in
    let after : List ℕ = c.write_outputs.new.buffer in
    netlist-written (recorded_netlist s c.args.m n os outputs) buffer c.write_head.new.buffer c.write_operations.new.buffer after c.write_totals.new.buf place end.result
    (omega (arith, head.ensures, count.ensures.number, length_with_widths s n os n os))
    (omega (arith, head.ensures, end.ensures, count.ensures.number, c.count.ensures.number, length_with_widths s n os n os, length-map outputs (output_with_width s n os)))
    (omega (arith, head.ensures, end.ensures, count.ensures.number, c.count.ensures.number, c.requires.outputs_in_bounds))
    (c.write_head.ensures ∙ ap (λ (x : ℕ). head_bytes (record { m = c.args.m; n = n; operations = x; width = s }) ++ drop (head_length_of s) buffer) count.ensures.number)
    (c.write_operations.ensures.buffer_after ∙ ap (λ (x : ℕ). written c.write_head.new.buffer x (flat_map operation_bytes (with_widths s n os n os))) head.ensures)
    (c.write_outputs.ensures ∙ ap (λ (ps : List Output). written c.write_operations.new.buffer place (flat_map output_bytes ps)) (table-widths s n os table c.write_operations.ensures.holds_forms outputs c.requires.writable.1))
    (c.write_totals.ensures ∙ ap₂ (λ (x y : ℕ). totals_bytes (record { operations = x; depth = y }) ++ drop totals_length (take (length after - end.result) (drop end.result after))) count.ensures.number c.depth_of-depth.ensures)
