-- `netlist_run::try_run` meets its contract. Assumes nothing.
use mathlib.Core.Path.{◌≡◌, sym, ap, ◌∙◌}
use Prim.Native.Nat.{ℕ, ◌+◌}
use mathlib.Core.List.{List}
use native.Mathlib.Omega.{arith}
use lib.IntN.{ℤ, pos}
use lib.ListN.{length, take}
use Rattle.std.proofs.lemmas.Result.{err_from_is_err_and}
use Rattle.limits.specs.Limits.{max_symbols}
use Rattle.layout_rules.specs.Places.{operations_in}
use Rattle.board_rules.specs.Machine.{machine}
use Rattle.board_rules.specs.Width.{Samples}
use Rattle.board_rules.proofs.TableLaws.{length-filled}
use Rattle.netlist_rules.specs.Run.{run_outputs}
use Rattle.refusals.proofs.NumberLaws.{number-positive}
use Rattle.refusals.specs.Numbers.{number}
use Rattle.netlist_run.proofs.BoardLaws.{run_declines, width-right, columns-few, sample-count-refused, output-count-refused, samples-of_width, samples-refused, board-ready, run-accepted}
use Rattle.netlist_run.proofs.try_run.Goals as goal

pub returns-in_err-read : goal.returns-in_err-read
returns-in_err-read c =
    let p = err_from_is_err_and c.from_residual.result c.from_residual.ensures.1 in
    let both = run_declines c.args.netlist.now c.args.samples.now c.args.outputs.now c.in_err-read.ensures.err in
    record { value = rw (p.1, p.2) both.0; outputs_after = both.1 }

pub returns-then-samples-n : goal.returns-then-samples-n
returns-then-samples-n c =
    let net = c.in_ok-read.read in
    let ok = c.in_ok-read.ensures.ok in
    let samples = c.args.samples.now in
    let outputs = c.args.outputs.now in
    let both = sample-count-refused net.bytes.now net.read net.head net.head_read samples outputs (λ e. c.if-samples-n.true (e ∙ sym c.n.ensures)) in
    record { value = rw (c.at.ensures, ← ok) both.0; outputs_after = rw (← ok) both.1 }

pub returns-then-outputs-m : goal.returns-then-outputs-m
returns-then-outputs-m c =
    let net = c.in_ok-read.read in
    let ok = c.in_ok-read.ensures.ok in
    let samples = c.args.samples.now in
    let outputs = c.args.outputs.now in
    let count : length samples ≡ net.head.n = c.if-samples-n.false ∙ c.n.ensures in
    let both = output-count-refused net.bytes.now net.read net.head net.head_read samples outputs count (λ e. c.if-outputs-m.true (e ∙ sym c.m.ensures)) in
    record { value = rw (c.at-then-outputs-m.ensures, ← ok) both.0; outputs_after = rw (← ok) both.1 }

pub fit_answer-requires : goal.fit_answer-requires
fit_answer-requires c =
    let net = c.in_ok-read.read in
    let ok = c.in_ok-read.ensures.ok in
    let samples = c.args.samples.now in
    let outputs = c.args.outputs.now in
    width-right net.bytes.now net.read net.head net.head_read samples outputs

pub returns-in_err-fit_answer : goal.returns-in_err-fit_answer
returns-in_err-fit_answer c =
    let net = c.in_ok-read.read in
    let ok = c.in_ok-read.ensures.ok in
    let samples = c.args.samples.now in
    let outputs = c.args.outputs.now in
    let count : length samples ≡ net.head.n = c.if-samples-n.false ∙ c.n.ensures in
    let lent : length outputs ≡ net.head.m = c.if-outputs-m.false ∙ c.m.ensures in
    let p = err_from_is_err_and c.from_residual-in_err-fit_answer.result c.from_residual-in_err-fit_answer.ensures.1 in
    let r = c.in_err-fit_answer.field-0.0 in
    let both = samples-refused net.bytes.now net.read net.head net.head_read samples outputs count lent (number r.refusal) r.place (λ z. omega (arith, number-positive r.refusal, z)) c.in_err-fit_answer.ensures in
    record { value = rw (p.1, p.2, ← ok) both.0; outputs_after = rw (← ok) both.1 }

pub start_values-requires : goal.start_values-requires
start_values-requires c =
    let net = c.in_ok-read.read in
    let ok = c.in_ok-read.ensures.ok in
    let samples = c.args.samples.now in
    let outputs = c.args.outputs.now in
    let count : length samples ≡ net.head.n = c.if-samples-n.false ∙ c.n.ensures in
    (omega (arith, count, columns-few net.bytes.now net.read net.head net.head_read samples outputs), ap (λ (l : List ℤ). length l) c.filled-values.ensures ∙ length-filled (pos 0) max_symbols)

pub run_operations-requires : goal.run_operations-requires
run_operations-requires c =
    let net = c.in_ok-read.read in
    let ok = c.in_ok-read.ensures.ok in
    let samples = c.args.samples.now in
    let outputs = c.args.outputs.now in
    let count : length samples ≡ net.head.n = c.if-samples-n.false ∙ c.n.ensures in
    let X : Samples net.head.width net.head.n samples = samples-of_width net.bytes.now net.read net.head net.head_read samples outputs count c.in_ok-fit_answer.ensures in
    let started : take net.head.n c.start_values.new.values ≡ samples = ap (λ (k : ℕ). take k c.start_values.new.values) (sym count) ∙ c.start_values.ensures.held in
    (c.start_values.ensures.room, rw started X)

pub fill_outputs-requires-clause-board_ready : goal.fill_outputs-requires-clause-board_ready
fill_outputs-requires-clause-board_ready c =
    let net = c.in_ok-read.read in
    let ok = c.in_ok-read.ensures.ok in
    let samples = c.args.samples.now in
    let outputs = c.args.outputs.now in
    let count : length samples ≡ net.head.n = c.if-samples-n.false ∙ c.n.ensures in
    let lent : length outputs ≡ net.head.m = c.if-outputs-m.false ∙ c.m.ensures in
    let X : Samples net.head.width net.head.n samples = samples-of_width net.bytes.now net.read net.head net.head_read samples outputs count c.in_ok-fit_answer.ensures in
    let started : take net.head.n c.start_values.new.values ≡ samples = ap (λ (k : ℕ). take k c.start_values.new.values) (sym count) ∙ c.start_values.ensures.held in
    let T : take (net.head.n + net.head.operations) c.run_operations.new.values ≡ machine samples (operations_in net.bytes.now) = c.run_operations.ensures.1 ∙ ap (λ (l : List ℤ). machine l (operations_in net.bytes.now)) started in
    board-ready net.bytes.now net.read net.head net.head_read samples outputs count lent X c.run_operations.new.values T c.run_operations.ensures.0

pub returns : goal.returns
returns c =
    let net = c.in_ok-read.read in
    let ok = c.in_ok-read.ensures.ok in
    let samples = c.args.samples.now in
    let outputs = c.args.outputs.now in
    let count : length samples ≡ net.head.n = c.if-samples-n.false ∙ c.n.ensures in
    let lent : length outputs ≡ net.head.m = c.if-outputs-m.false ∙ c.m.ensures in
    let X : Samples net.head.width net.head.n samples = samples-of_width net.bytes.now net.read net.head net.head_read samples outputs count c.in_ok-fit_answer.ensures in
    let started : take net.head.n c.start_values.new.values ≡ samples = ap (λ (k : ℕ). take k c.start_values.new.values) (sym count) ∙ c.start_values.ensures.held in
    let T : take (net.head.n + net.head.operations) c.run_operations.new.values ≡ machine samples (operations_in net.bytes.now) = c.run_operations.ensures.1 ∙ ap (λ (l : List ℤ). machine l (operations_in net.bytes.now)) started in
    let both = run-accepted net.bytes.now net.read net.head net.head_read samples outputs count lent X c.run_operations.new.values T in
    record { value = rw (← ok) both.0; outputs_after = c.fill_outputs.ensures ∙ both.1 ∙ ap (λ (b : List ℕ). run_outputs b samples outputs) ok }
