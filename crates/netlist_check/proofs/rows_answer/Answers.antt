-- `netlist_check::rows_answer` meets its contract. Assumes nothing.
use mathlib.Core.Path.{◌∙◌}
use native.Mathlib.Omega.{arith}
use native.Mathlib.Numerals.{add-one}
use Rattle.netlist_check.proofs.CheckLaws.{row_asked, read_row-ready, read_row-differs, read_row-same, read_rows-end}
use Rattle.netlist_check.proofs.rows_answer.Goals as goal

pub same_row-requires-clause-n_le_max_columns : goal.same_row-requires-clause-n_le_max_columns
same_row-requires-clause-n_le_max_columns c = let s = c.args.netlist.now in row_asked s.bytes.now c.args.matrix.now c.args.forms.now c.requires.netlist_held c.requires.matrix_value s.head s.head_read c.requires.same_size c.loop-i.i (omega arith) c.n-n.ensures c.output.ensures

pub same_row-requires-clause-row_ready : goal.same_row-requires-clause-row_ready
same_row-requires-clause-row_ready c = let s = c.args.netlist.now in read_row-ready s.bytes.now c.args.matrix.now c.args.forms.now c.requires.netlist_held c.requires.matrix_value s.head s.head_read c.requires.same_size c.loop-i.i (omega arith) c.n-n.ensures c.output.ensures

pub returns-then-not-same_row : goal.returns-then-not-same_row
returns-then-not-same_row c =
    let s = c.args.netlist.now in
    rw c.at.ensures (read_row-differs s.bytes.now c.args.matrix.now c.args.forms.now c.requires.netlist_held c.requires.matrix_value s.head s.head_read c.requires.same_size c.loop-i.i (omega arith) c.n-n.ensures c.output.ensures c.if-not-same_row.ensures ∙ c.loop-i.invariant)

pub loop-i-preserved : goal.loop-i-preserved
loop-i-preserved c = let s = c.args.netlist.now in rw add-one (read_row-same s.bytes.now c.args.matrix.now c.args.forms.now c.requires.netlist_held c.requires.matrix_value s.head s.head_read c.requires.same_size c.loop-i.i (omega arith) c.n-n.ensures c.output.ensures c.if-not-same_row.ensures ∙ c.loop-i.invariant)

pub returns : goal.returns
returns c = let s = c.args.netlist.now in read_rows-end s.bytes.now c.args.matrix.now c.args.forms.now c.requires.netlist_held c.requires.matrix_value s.head s.head_read c.requires.same_size c.loop-i.i (omega arith) ∙ c.loop-i.invariant
