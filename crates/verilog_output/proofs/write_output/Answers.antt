-- `verilog_output::write_output` meets its contract. Assumes nothing.
use Prim.Native.Nat.{ℕ, ◌≤◌}
use mathlib.Core.Path.{◌≡◌, subst}
use mathlib.Core.List.{List}
use native.Mathlib.Omega.{arith}
use lib.ListN.{length}
use Rattle.layout_rules.proofs.LittleEndian.{AreBytes}
use Rattle.text.specs.Text.{refused_line}
use Rattle.text.specs.Wrote.{Wrote}
use Rattle.text.proofs.Wrote.{wrote_as}
use Rattle.verilog_rules.specs.Answer.{enough_text}
use Rattle.verilog_output.specs.VerilogOutput.{verilog_output}
use Rattle.verilog_output.proofs.Outputs.{line_refused, output-written}
use Rattle.verilog_output.proofs.write_output.Goals as goal
use Rattle.verilog_output.proofs.write_output.Lts
use Rattle.verilog_output.proofs.write_output.Reads
use Rattle.verilog_output.proofs.write_output.Tie

-- what is known once write_verilog has answered
module _ (c : Lts.After-write_verilog Tie.the-claims Reads.Pre Reads.Post Tie.handed_clauses) where
  abbrev known : Lts.After-shared_slice_known Tie.the-claims Reads.Pre Reads.Post Tie.handed_clauses
  known = c.before.before.before

  abbrev bytes : List ℕ
  bytes = known.args.netlist.now

  abbrev old : List ℕ
  old = known.args.output.now

  abbrev after : List ℕ
  after = c.write_verilog-answer.new.buffer

  all : AreBytes bytes
  all i = omega (arith, known.shared_slice_known-1.given i)

  room : enough_text ≤ length old
  room = known.requires

  refused : (c.write_verilog-answer.result.refusal ≡ 0 → ⊥)
      → (refused_line c.write_verilog-answer.result.refusal c.write_verilog-answer.result.place ≡ verilog_output bytes) × (after ≡ old)
  refused = line_refused bytes all old after c.write_verilog-answer.result room c.write_verilog-answer.ensures.value c.write_verilog-answer.ensures.buffer_after

  accepted : c.write_verilog-answer.result.refusal ≡ 0 → Wrote old after c.write_verilog-answer.result.written (verilog_output bytes)
  accepted = output-written bytes all old after c.write_verilog-answer.result room c.write_verilog-answer.ensures.value c.write_verilog-answer.ensures.buffer_after

pub returns-then-answer-ne0 : goal.returns-then-answer-ne0
returns-then-answer-ne0 c =
    let place = c.before.before.before.before.before.before.before.before.before in
    let line = refused place c.if-answer-ne0.true in
    let w = c.write_refused in
    subst (λ (l : List ℕ). Wrote l w.new.text w.result (verilog_output (bytes place))) line.1 (wrote_as line.0 w.ensures.wrote)

pub returns : goal.returns
returns c = accepted c.before.before.before.before.before c.if-answer-ne0.false
