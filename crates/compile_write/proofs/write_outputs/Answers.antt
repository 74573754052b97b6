-- `compile_write::write_outputs` meets its contract. Assumes nothing.
use Rattle.std.proofs.Common.{◌≡◌, refl, ap, ◌∙◌, ℕ, ◌-◌, ◌≤◌, ◌<◌, ◌++◌, length, take, drop, arith}
use mathlib.Core.List.{flat_map, map}
use native.Mathlib.Numerals.{add-one}
use lib.ListN.{get_or, length-take}
use Rattle.limits.specs.Limits.{max_rows}
use Rattle.lists.specs.Items.{items_of}
use Rattle.layout_rules.specs.declared.Output.{Output}
use Rattle.layout_rules.specs.Records.{output_length, output_bytes}
use Rattle.layout_rules.specs.Places.{operation_place, output_place}
use Rattle.layout_rules.specs.Written.{written}
use Rattle.compile_lists.specs.Lists.{outputs_list, no_output}
use Rattle.compile_write.specs.Tables.{with_table_width}
use Rattle.compile_write.proofs.WriteLaws.{output-written, outputs-written}
use Rattle.compile_write.proofs.write_outputs.Goals as goal

pub loop-i-init : goal.loop-i-init
loop-i-init c =
    let head = c.args.layout.head in
    let first : output_place head c.args.operations 0 ≡ operation_place head c.args.operations = omega arith in
    ap (λ (p : ℕ). written c.args.buffer.now p (flat_map output_bytes (map (with_table_width c.args.layout.sample_width c.args.layout.n c.args.forms.now) (outputs_list c.args.outputs)))) first

pub output_width-width-requires : goal.output_width-width-requires
output_width-width-requires c =
    let w = c.requires.writable_outputs in
    let i = c.loop-i.i in
    let same = c.as_slice-o-items.ensures in
    let inside : i < length (outputs_list c.args.outputs) = omega (arith, ap (length {A = Output}) same) in
    rw same record {
      symbol_lt_max_symbols = (w.symbol i inside, (omega (arith, w.shift i inside), w.inputs));
      le_s = (omega (arith, c.args.layout.width.least), omega (arith, c.args.layout.width.most));
      small_range = w.range i inside;
    }

pub output_place-at-requires : goal.output_place-at-requires
unfolding items_of
output_place-at-requires c =
    let outputs = c.args.outputs in
    let few : length (items_of outputs) ≤ max_rows = omega (arith, outputs.within, length-take outputs.count outputs.items) in
    (omega (arith, c.args.layout.place), omega (arith, c.requires.operations_le_max_operations), omega (arith, few, ap (length {A = Output}) c.as_slice-o-items.ensures))

pub loop-i-preserved : goal.loop-i-preserved
loop-i-preserved c =
    let os = outputs_list c.args.outputs in
    let i = c.loop-i.i in
    let place = c.output_place-at.result in
    let p = get_or c.as_slice-o-items.result.now i no_output in
    let f = with_table_width c.args.layout.sample_width c.args.layout.n c.args.forms.now in
    let same = c.as_slice-o-items.ensures in
    let e = c.write_output.ensures
    ∙ ap (λ (w : ℕ). output_bytes (record { sign = p.sign; symbol = p.symbol; shift = p.shift; width = w }) ++ drop output_length (take (length c.loop-i.buffer - place) (drop place c.loop-i.buffer))) c.output_width-width.ensures in
    rw (add-one i) (
    output-written c.args.layout.head f os c.args.operations i (omega (arith, ap (length {A = Output}) same)) c.loop-i.buffer c.write_output.new.buf p place (rw same refl) c.output_place-at.ensures
    (omega (arith, c.requires.operations_le_max_operations.1)) e
    ∙ c.loop-i.invariant
    )

pub returns : goal.returns
returns c =
    outputs-written c.args.layout.head (with_table_width c.args.layout.sample_width c.args.layout.n c.args.forms.now) (outputs_list c.args.outputs) c.args.operations c.loop-i.i
    (omega (arith, ap (length {A = Output}) c.as_slice-o-items.ensures)) c.loop-i.buffer
    ∙ c.loop-i.invariant
