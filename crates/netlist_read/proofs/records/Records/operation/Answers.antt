-- `Records::operation` meets its contract. Assumes nothing.
use mathlib.Core.Path.{◌≡◌, ◌∙◌}
use native.Mathlib.Omega.{arith}
use Rattle.std.proofs.lemmas.Result.{err_from_is_err_and}
use Rattle.refusals.proofs.NumberLaws.{number-positive}
use Rattle.refusals.specs.Numbers.{number}
use Rattle.netlist_read.proofs.OperationLaws.{operation-record, operation-read, operation-out, operands-held, row-small, operation-too_wide, operation-fine, forms-next, depths-asked, depths-next}
use Rattle.netlist_tests.proofs.RecordLaws.{operation_stops, operation_record_refusal}
use Rattle.netlist_read.proofs.records.Records.operation.Goals as goal

pub returns-in_err-record_refusal-clause-refusal : goal.returns-in_err-record_refusal-clause-refusal
returns-in_err-record_refusal-clause-refusal c =
    let s = c.args.self.now in
    let p = err_from_is_err_and c.from_residual.result c.from_residual.ensures.1 in
    let r = c.in_err-record_refusal.field-0.0 in
    let e : number r ≡ operation_record_refusal s.bytes.now c.args.k = operation-record s.bytes.now c.args.k s.start _ s.start_read c.operation_place-place.ensures c.in_err-record_refusal.ensures.refusal in
    rw (p.1, p.2) (e ∙ operation_stops s.bytes.now s.head.width s.head.n c.args.k (λ z. omega (arith, number-positive r, e, z)))

pub returns-then-not-operation_in_range-clause-refusal : goal.returns-then-not-operation_in_range-clause-refusal
returns-then-not-operation_in_range-clause-refusal c =
    let s = c.args.self.now in
    let T = operation-read s.bytes.now c.args.k s.start _ s.start_read c.operation_place-place.ensures c.in_ok-record_refusal.ensures.refusal c.operation_at-o.ensures in
    operation-out s.bytes.now s.head.width s.head.n c.args.k T c.if-not-operation_in_range.ensures

pub append_form-requires-clause-small_forms : goal.append_form-requires-clause-small_forms
append_form-requires-clause-small_forms c =
    let s = c.args.self.now in
    let T = operation-read s.bytes.now c.args.k s.start _ s.start_read c.operation_place-place.ensures c.in_ok-record_refusal.ensures.refusal c.operation_at-o.ensures in
    operands-held s.bytes.now s.head.width s.head.n c.args.k T c.if-not-operation_in_range.ensures s.head_limits.width c.args.forms.now c.requires.forms_held

pub entry_width-width-requires-clause-small_range : goal.entry_width-width-requires-clause-small_range
entry_width-width-requires-clause-small_range c =
    let s = c.args.self.now in
    let T = operation-read s.bytes.now c.args.k s.start _ s.start_read c.operation_place-place.ensures c.in_ok-record_refusal.ensures.refusal c.operation_at-o.ensures in
    row-small s.bytes.now s.head.width s.head.n c.args.k T c.if-not-operation_in_range.ensures s.head_limits.width c.args.forms.now c.requires.forms_held (omega arith) (omega arith) c.append_form.ensures

pub returns-then-not-width_right-clause-refusal : goal.returns-then-not-width_right-clause-refusal
returns-then-not-width_right-clause-refusal c =
    let s = c.args.self.now in
    let T = operation-read s.bytes.now c.args.k s.start _ s.start_read c.operation_place-place.ensures c.in_ok-record_refusal.ensures.refusal c.operation_at-o.ensures in
    operation-too_wide s.bytes.now s.head.width s.head.n c.args.k T c.if-not-operation_in_range.ensures s.head_limits.width c.args.forms.now c.requires.forms_held (omega arith) (omega arith) c.append_form.ensures c.entry_width-width.ensures c.if-not-width_right.ensures

pub operation_depth-depth-requires-clause-a_bound : goal.operation_depth-depth-requires-clause-a_bound
operation_depth-depth-requires-clause-a_bound c =
    let s = c.args.self.now in
    let T = operation-read s.bytes.now c.args.k s.start _ s.start_read c.operation_place-place.ensures c.in_ok-record_refusal.ensures.refusal c.operation_at-o.ensures in
    depths-asked s.bytes.now s.head.width s.head.n c.args.k T c.if-not-operation_in_range.ensures c.args.depths.now c.requires.depths_held (omega arith) (omega arith)

pub returns-clause-refusal : goal.returns-clause-refusal
returns-clause-refusal c =
    let s = c.args.self.now in
    let T = operation-read s.bytes.now c.args.k s.start _ s.start_read c.operation_place-place.ensures c.in_ok-record_refusal.ensures.refusal c.operation_at-o.ensures in
    operation-fine s.bytes.now s.head.width s.head.n c.args.k T c.if-not-operation_in_range.ensures s.head_limits.width c.args.forms.now c.requires.forms_held (omega arith) (omega arith) c.append_form.ensures c.entry_width-width.ensures c.if-not-width_right.ensures

pub returns-clause-forms_held : goal.returns-clause-forms_held
returns-clause-forms_held c =
    let s = c.args.self.now in
    let T = operation-read s.bytes.now c.args.k s.start _ s.start_read c.operation_place-place.ensures c.in_ok-record_refusal.ensures.refusal c.operation_at-o.ensures in
    forms-next s.bytes.now s.head.width s.head.n c.args.k T c.if-not-operation_in_range.ensures s.head_limits.width c.args.forms.now c.requires.forms_held (omega arith) (omega arith) c.append_form.ensures c.entry_width-width.ensures c.if-not-width_right.ensures

pub returns-clause-depths_held : goal.returns-clause-depths_held
returns-clause-depths_held c =
    let s = c.args.self.now in
    let T = operation-read s.bytes.now c.args.k s.start _ s.start_read c.operation_place-place.ensures c.in_ok-record_refusal.ensures.refusal c.operation_at-o.ensures in
    depths-next s.bytes.now s.head.width s.head.n c.args.k T c.if-not-operation_in_range.ensures c.args.depths.now c.requires.depths_held (omega arith) (omega arith) c.operation_depth-depth.ensures
