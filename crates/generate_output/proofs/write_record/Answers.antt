-- `generate_output::write_record` meets its contract. Assumes nothing.
use mathlib.Core.Path.{subst}
use mathlib.Core.List.{List}
use Prim.Native.Nat.{ℕ}
use native.Mathlib.Omega.{arith}
use Rattle.text.specs.Wrote.{Wrote}
use Rattle.text.proofs.Wrote.{wrote_as}
use Rattle.generate_output.specs.GenerateOutput.{generate_output}
use Rattle.generate_output.proofs.Outputs.{line_refused, output-written}
use Rattle.generate_output.proofs.write_record.Goals as goal

pub returns-in-0 : goal.returns-in-0
returns-in-0 c =
    let answer = c.generate-answer in
    output-written c.args.m c.args.n c.args.seed _ _ answer.result c.requires answer.ensures.value answer.ensures.buffer_after c.in-0.is

pub returns-in_default : goal.returns-in_default
returns-in_default c =
    let answer = c.generate-answer in
    let w = c.write_refused in
    let line = line_refused c.args.m c.args.n c.args.seed _ _ answer.result c.requires answer.ensures.value answer.ensures.buffer_after (λ none. omega arith) in
    subst (λ (l : List ℕ). Wrote l w.new.text w.result (generate_output c.args.m c.args.n c.args.seed)) line.1 (wrote_as line.0 w.ensures.wrote)
