-- `run_text::run_and_write` meets its contract. Assumes nothing.
use Prim.Native.Nat.{ℕ}
use mathlib.Core.Path.{◌≡◌, ap, ◌∙◌}
use mathlib.Core.List.{List}
use lib.IntN.{ℤ, pos}
use lib.ListN.{length, replicate, length-replicate}
use Rattle.netlist_rules.specs.Run.{run_answer, run_outputs}
use Rattle.text.proofs.Wrote.{wrote_as}
use Rattle.run_text.specs.Samples.{samples_of}
use Rattle.run_text.specs.RunText.{value_lines, rows_read}
use Rattle.run_text.proofs.Texts.{text-refused, text-accepted}
use Rattle.run_text.proofs.run_and_write.Goals as goal
use Rattle.run_text.proofs.run_and_write.Lts
use Rattle.run_text.proofs.run_and_write.Reads
use Rattle.run_text.proofs.run_and_write.Tie

-- run has answered
module _ (c : Lts.After-run_on_bytes Tie.the-claims Reads.Pre Reads.Post Tie.handed_clauses) where
  abbrev s : Lts.Start Tie.the-claims Reads.Pre Reads.Post Tie.handed_clauses
  s = c.before.before.before.before.before

  abbrev netlist : List ℕ
  netlist = s.args.netlist.now

  abbrev samples : List ℕ
  samples = s.args.samples.now

  count : length s.args.outputs.now ≡ rows_read netlist
  count = ap (λ (l : List ℤ). length l) s.requires.outputs_value ∙ length-replicate (rows_read netlist) (pos 0)

  answered : c.run_on_bytes-answer.result ≡ run_answer netlist (samples_of samples) (rows_read netlist)
  answered = c.run_on_bytes-answer.ensures.value ∙ ap (λ (k : ℕ). run_answer netlist (samples_of samples) k) count

  filled : c.run_on_bytes-answer.new.outputs ≡ run_outputs netlist (samples_of samples) (replicate (rows_read netlist) (pos 0))
  filled = c.run_on_bytes-answer.ensures.outputs_after ∙ ap (λ (l : List ℤ). run_outputs netlist (samples_of samples) l) s.requires.outputs_value

pub returns-then-answer-ne0 : goal.returns-then-answer-ne0
returns-then-answer-ne0 c =
    let w = c.write_refused.ensures in
    let t = c in
    let r = t in
    wrote_as (text-refused (netlist r.before.before.before.before.before.before.before.before) (samples r.before.before.before.before.before.before.before.before) r.run_on_bytes-answer.result (answered r.before.before.before.before.before.before.before.before) t.if-answer-ne0.true) w.wrote

pub returns : goal.returns
returns c =
    let w = c.write_outputs.ensures in
    let e = c in
    let r = e in
    wrote_as (ap value_lines (filled r.before.before.before.before.before.before.before.before) ∙ text-accepted (netlist r.before.before.before.before.before.before.before.before) (samples r.before.before.before.before.before.before.before.before) r.run_on_bytes-answer.result (answered r.before.before.before.before.before.before.before.before) e.if-answer-ne0.false) w.wrote
