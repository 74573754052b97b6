-- `compile_write::write_operations` meets its contract. Assumes nothing.
use Rattle.std.proofs.Common.{◌≡◌, refl, ap, ap₂, ◌∙◌, ℕ, ◌+◌, ◌≤◌, ◌<◌, List, length, arith}
use mathlib.Core.List.{flat_map}
use mathlib.Core.Path.{subst}
use native.Mathlib.Numerals.{add-one}
use lib.ListN.{get_or, length-take, length-drop}
use lib.Seq.{take_all}
use Rattle.limits.specs.Limits.{max_symbols}
use Rattle.layout_rules.specs.declared.Operation.{Operation}
use Rattle.layout_rules.specs.Records.{operation_length, operation_bytes}
use Rattle.layout_rules.specs.Places.{operation_place}
use Rattle.layout_rules.specs.Written.{written}
use Rattle.layout_rules.proofs.Lengths.{length-operation}
use Rattle.layout_rules.proofs.Written.{records_none}
use Rattle.board_rules.specs.Table.{HoldsForms}
use Rattle.compile_lists.specs.Lists.{operations_list, no_operation}
use Rattle.compile_rules.specs.Compile.{with_widths}
use Rattle.compile_write.proofs.WriteLaws.{recorded_from, recorded-end, small-forms, small-range, holds_next, operation-written}
use Rattle.compile_write.proofs.write_operations.Goals as goal

pub loop-k-init : goal.loop-k-init
loop-k-init c =
    let n = c.args.layout.n in
    let head = c.args.layout.head in
    let os = operations_list c.args.operations in
    let start : operation_place head 0 ≡ head = omega arith in
    let first : n + 0 ≡ n = omega arith in
    (c.requires.writable.1, ap₂ (λ (place symbol : ℕ). written c.args.buffer.now place (flat_map operation_bytes (with_widths c.args.layout.sample_width n os symbol os))) start first)

pub write_operation-requires : goal.write_operation-requires
write_operation-requires c =
    let n = c.args.layout.n in
    let s = c.args.layout.sample_width in
    let os = operations_list c.args.operations in
    let k = c.loop-k.k in
    let w = c.requires.writable.0 in
    let bits = c.args.layout.width in
    let same = c.as_slice-o-items.ensures in
    let inside : k < length os = omega (arith, ap (length {A = Operation}) same) in
    let symbol : n + k < max_symbols = omega (arith, w.few, w.inputs) in
    let H = c.loop-k.invariant.0 in
    rw same record {
      symbol_lt_max_symbols = symbol;
      a_lt_symbol = ((w.operation k inside).first_earlier, (w.operation k inside).second_earlier);
      small_forms = (small-forms s n os bits w c.loop-k.forms k inside H, small-range s n os bits w c.loop-k.forms k inside H);
      forms_len = (H.room, simp (length-take, length-drop) (omega (arith, c.requires.operations_in_bounds, c.operation_place-place.ensures)));
    }

pub loop-k-preserved : goal.loop-k-preserved
loop-k-preserved c =
    let n = c.args.layout.n in
    let s = c.args.layout.sample_width in
    let os = operations_list c.args.operations in
    let k = c.loop-k.k in
    let w = c.requires.writable.0 in
    let bits = c.args.layout.width in
    let H = c.loop-k.invariant.0 in
    let forms = c.loop-k.forms in
    let same = c.as_slice-o-items.ensures in
    let inside : k < length os = omega (arith, ap (length {A = Operation}) same) in
    let own : get_or c.as_slice-o-items.result.now k no_operation ≡ get_or os k no_operation = rw same refl in
    let record_written = operation-written s n os bits w forms k inside H c.args.layout.head c.loop-k.buffer c.write_operation.new.buffer (get_or c.as_slice-o-items.result.now k no_operation) c.operation_place-place.result own
    c.operation_place-place.ensures (omega (arith, c.requires.operations_in_bounds)) c.write_operation.ensures.buffer_after in
    rw (add-one k) (
      rw (c.write_operation.ensures.forms_after, same) (holds_next s n os bits w forms k inside H),
      record_written ∙ c.loop-k.invariant.1,
    )

pub returns : goal.returns
returns c =
    let n = c.args.layout.n in
    let s = c.args.layout.sample_width in
    let os = operations_list c.args.operations in
    let k = c.loop-k.k in
    let all : length os ≤ k = omega (arith, ap (length {A = Operation}) c.as_slice-o-items.ensures) in
    record {
      holds_forms = subst (λ (ps : List Operation). HoldsForms n ps c.loop-k.forms) (take_all k os all) c.loop-k.invariant.0;
      buffer_after = records_none operation_bytes operation_length length-operation c.loop-k.buffer (operation_place c.args.layout.head k) (recorded_from s n os k) (recorded-end s n os k all) ∙ c.loop-k.invariant.1;
    }
