-- `compile_output::write_output` meets its contract. Assumes nothing.
use Prim.Native.Nat.{ℕ, ◌≤◌}
use mathlib.Core.Path.{◌≡◌, subst}
use mathlib.Core.List.{List}
use native.Mathlib.Omega.{arith}
use lib.ListN.{length}
use Rattle.layout_rules.specs.Places.{enough_bytes}
use Rattle.layout_rules.proofs.LittleEndian.{AreBytes}
use Rattle.text.specs.Text.{refused_line}
use Rattle.text.specs.Wrote.{Wrote}
use Rattle.text.proofs.Wrote.{wrote_as}
use Rattle.compile_output.specs.CompileOutput.{compile_output}
use Rattle.compile_output.proofs.Outputs.{line_refused, kept, netlist-written}
use Rattle.compile_output.proofs.write_output.Goals as goal
use Rattle.compile_output.proofs.write_output.Lts
use Rattle.compile_output.proofs.write_output.Reads
use Rattle.compile_output.proofs.write_output.Tie

-- what is known once compile has answered
module _ (c : Lts.After-compile Tie.the-claims Reads.Pre Reads.Post Tie.handed_clauses) where
  abbrev known : Lts.After-shared_slice_known Tie.the-claims Reads.Pre Reads.Post Tie.handed_clauses
  known = c.before.before.before

  abbrev bytes : List ℕ
  bytes = known.args.matrix.now

  -- the sample width
  abbrev s : ℕ
  s = known.args.sample_width

  abbrev old : List ℕ
  old = known.args.output.now

  all : AreBytes bytes
  all i = omega (arith, known.shared_slice_known-1.given i)

  room : enough_bytes ≤ length old
  room = known.requires

  abbrev after : List ℕ
  after = c.compile-answer.new.buffer

  module _ (refused : c.compile-answer.result.refusal ≡ 0 → ⊥) where
    line : refused_line c.compile-answer.result.refusal c.compile-answer.result.place ≡ compile_output s bytes
    line = line_refused s bytes all old after c.compile-answer.result room c.compile-answer.ensures.value c.compile-answer.ensures.buffer_after refused

    unchanged : after ≡ old
    unchanged = kept s bytes all old after c.compile-answer.result room c.compile-answer.ensures.value c.compile-answer.ensures.buffer_after refused

  module _ (accepted : c.compile-answer.result.refusal ≡ 0) where
    netlist : Wrote old after c.compile-answer.result.written (compile_output s bytes)
    netlist = netlist-written s bytes all old after c.compile-answer.result room c.compile-answer.ensures.value c.compile-answer.ensures.buffer_after accepted

pub write_refused-requires : goal.write_refused-requires
write_refused-requires c = omega (arith, c.compile-answer.auto.buffer, room c.before.before.before.before.before.before)

pub returns-then-answer-ne0 : goal.returns-then-answer-ne0
returns-then-answer-ne0 c =
    let place = c.before.before.before.before.before.before.before.before.before in
    let refused = c.if-answer-ne0.true in
    let w = c.write_refused.ensures in
    subst (λ (l : List ℕ). Wrote l c.write_refused.new.text c.write_refused.result (compile_output (s place) (bytes place)))
    (unchanged place refused) (wrote_as (line place refused) w.wrote)

pub returns : goal.returns
returns c = netlist c.before.before.before.before.before c.if-answer-ne0.false
