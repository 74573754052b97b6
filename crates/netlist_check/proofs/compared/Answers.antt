-- `netlist_check::compared` meets its contract. Assumes nothing.
use mathlib.Core.Path.{◌≡◌, sym, ap, ◌∙◌}
use Prim.Native.Nat.{ℕ}
use native.Mathlib.Omega.{arith}
use Rattle.std.proofs.lemmas.Result.{err_from_is_err_and}
use mathlib.Core.Logic.{inl, inr}
use Rattle.layout_rules.specs.declared.Head.{Head}
use Rattle.layout_rules.specs.Matrix.{matrix_refusal}
use Rattle.layout_rules.specs.Places.{head_at, netlist_in}
use Rattle.netlist_rules.specs.Check.{checked}
use Rattle.refusals.proofs.NumberLaws.{number-positive}
use Rattle.refusals.specs.Numbers.{number}
use Rattle.netlist_read.specs.Tables.{NetlistHeld}
use Rattle.netlist_check.specs.Compared.{rows_matched}
use Rattle.netlist_check.proofs.CheckLaws.{matrix_declines, netlist_declines, sizes-differ, sizes_agree}
use Rattle.netlist_check.proofs.compared.Goals as goal
use Rattle.netlist_check.proofs.compared.Goals.{then-row_count-read-via-then-row_count-read, then-row_count-read-via-else-row_count-read+then-column_count-read}

pub returns-in-Err : goal.returns-in-Err
returns-in-Err c =
    let r = c.in-Err.refusal in
    let e : number r ≡ matrix_refusal c.args.matrix.now = c.in-Err.ensures in
    rw c.at.ensures (ap (λ (x : ℕ). checked x 0) e ∙ matrix_declines c.args.matrix.now c.args.netlist.now (λ z. omega (arith, number-positive r, e, z)))

pub returns-in_err-read : goal.returns-in_err-read
returns-in_err-read c =
    let p = err_from_is_err_and c.from_residual.result c.from_residual.ensures.1 in
    rw (p.1, p.2) (netlist_declines c.args.matrix.now c.args.netlist.now (sym c.in_default.ensures) c.in_err-read.ensures.err)

pub returns-then-row_count-read : goal.returns-then-row_count-read
returns-then-row_count-read c =
    let m = c.args.matrix.now in
    let b = c.args.netlist.now in
    let net = c.in_ok-read.read in
    let held = c.in_ok-read.ensures.held.0 in
    let head : net.head ≡ head_at b = net.head_read ∙ ap head_at c.in_ok-read.ensures.ok in
    let differ = sizes-differ m b (sym c.in_default.ensures) (netlist_in b) held.read.netlist-read in
    rw c.at-then-row_count-read.ensures (
    elim c.then-row_count-read.branch [
      | then-row_count-read-via-then-row_count-read w ↦ differ (inl (λ z. w.if-row_count-read.true (c.row_count.ensures ∙ z ∙ sym (ap (λ (h : Head). h.m) head))))
      | then-row_count-read-via-else-row_count-read+then-column_count-read w ↦ differ (inr (
        sym c.row_count.ensures ∙ w.if-row_count-read.false ∙ ap (λ (h : Head). h.m) head,
        λ z. w.if-column_count-read.true (w.column_count.ensures ∙ z ∙ sym (ap (λ (h : Head). h.n) head)),
      ))
    ]
    )

pub rows_answer-requires : goal.rows_answer-requires
rows_answer-requires c =
    let held = c.in_ok-read.ensures.held.0 in
    let there : NetlistHeld c.in_ok-read.read.bytes.now c.open_with.new.forms = rw c.in_ok-read.ensures.ok held in
    record {
      netlist_held = there;
      matrix_value = sym c.in_default.ensures;
      same_size = record { same_rows = sym c.row_count.ensures ∙ c.if-row_count-read.false; same-columns = sym c.column_count.ensures ∙ c.if-column_count-read.false };
    }

pub returns : goal.returns
returns c =
    let m = c.args.matrix.now in
    let b = c.args.netlist.now in
    let net = c.in_ok-read.read in
    let held = c.in_ok-read.ensures.held.0 in
    let head : net.head ≡ head_at b = net.head_read ∙ ap head_at c.in_ok-read.ensures.ok in
    c.rows_answer.ensures ∙ ap (rows_matched m) c.in_ok-read.ensures.ok
    ∙ sizes_agree m b (sym c.in_default.ensures) (netlist_in b) held.read.netlist-read
    (sym c.row_count.ensures ∙ c.if-row_count-read.false ∙ ap (λ (h : Head). h.m) head) (sym c.column_count.ensures ∙ c.if-column_count-read.false ∙ ap (λ (h : Head). h.n) head)
