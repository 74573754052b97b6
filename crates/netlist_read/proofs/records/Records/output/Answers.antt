-- `Records::output` meets its contract. Assumes nothing.
use mathlib.Core.Path.{◌≡◌, ◌∙◌}
use native.Mathlib.Omega.{arith}
use Rattle.std.proofs.lemmas.Result.{err_from_is_err_and}
use Rattle.layout_rules.proofs.FirstRecords.{length-first}
use Rattle.layout_rules.specs.Places.{operation_at, first_operations}
use Rattle.refusals.proofs.NumberLaws.{number-positive}
use Rattle.refusals.specs.Numbers.{number}
use Rattle.netlist_read.proofs.OutputLaws.{output-record, output-read, output-out, output-small, output-too_wide, output-fine}
use Rattle.netlist_tests.proofs.RecordLaws.{output_stops, output_record_refusal}
use Rattle.netlist_read.proofs.records.Records.output.Goals as goal

pub returns-in_err-record_refusal : goal.returns-in_err-record_refusal
returns-in_err-record_refusal c =
    let s = c.args.self.now in
    let k = s.head.operations in
    let p = err_from_is_err_and c.from_residual.result c.from_residual.ensures.1 in
    let r = c.in_err-record_refusal.field-0.0 in
    let e : number r ≡ output_record_refusal s.bytes.now k c.args.i = output-record s.bytes.now k c.args.i s.start _ s.start_read c.output_place-place.ensures c.in_err-record_refusal.ensures.refusal in
    rw (p.1, p.2) (e ∙ output_stops s.bytes.now s.head.width s.head.n k (first_operations s.bytes.now k) (length-first (operation_at s.bytes.now) k) c.args.i (λ z. omega (arith, number-positive r, e, z)))

pub returns-then-not-output_in_range : goal.returns-then-not-output_in_range
returns-then-not-output_in_range c =
    let s = c.args.self.now in
    let k = s.head.operations in
    let T = output-read s.bytes.now k c.args.i s.start _ s.start_read c.output_place-place.ensures c.in_ok-record_refusal.ensures.refusal c.output_at-o.ensures in
    output-out s.bytes.now s.head.width s.head.n k c.args.i T c.if-not-output_in_range.ensures

pub output_width-width-requires-clause-small_range : goal.output_width-width-requires-clause-small_range
output_width-width-requires-clause-small_range c =
    let s = c.args.self.now in
    let k = s.head.operations in
    let T = output-read s.bytes.now k c.args.i s.start _ s.start_read c.output_place-place.ensures c.in_ok-record_refusal.ensures.refusal c.output_at-o.ensures in
    output-small s.bytes.now s.head.width s.head.n k c.args.i T c.if-not-output_in_range.ensures s.head_limits.width c.args.forms.now c.requires.forms_held

pub returns-then-not-width_right : goal.returns-then-not-width_right
returns-then-not-width_right c =
    let s = c.args.self.now in
    let k = s.head.operations in
    let T = output-read s.bytes.now k c.args.i s.start _ s.start_read c.output_place-place.ensures c.in_ok-record_refusal.ensures.refusal c.output_at-o.ensures in
    output-too_wide s.bytes.now s.head.width s.head.n k c.args.i T c.if-not-output_in_range.ensures s.head_limits.width c.args.forms.now c.requires.forms_held c.output_width-width.ensures c.if-not-width_right.ensures

pub returns : goal.returns
returns c =
    let s = c.args.self.now in
    let k = s.head.operations in
    let T = output-read s.bytes.now k c.args.i s.start _ s.start_read c.output_place-place.ensures c.in_ok-record_refusal.ensures.refusal c.output_at-o.ensures in
    output-fine s.bytes.now s.head.width s.head.n k c.args.i T c.if-not-output_in_range.ensures s.head_limits.width c.args.forms.now c.requires.forms_held c.output_width-width.ensures c.if-not-width_right.ensures
