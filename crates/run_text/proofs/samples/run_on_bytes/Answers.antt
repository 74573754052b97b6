-- `run_text::samples::run_on_bytes` meets its contract. Assumes nothing.
use Prim.Native.Nat.{ℕ, suc, ◌≤◌, ◌<◌}
use mathlib.Core.Path.{◌≡◌, ap, ◌∙◌}
use mathlib.Core.List.{List, ◌++◌}
use native.Mathlib.Omega.{arith}
use lib.IntN.{ℤ, pos}
use lib.ListN.{length, take, drop, length-take, replicate}
use Rattle.limits.specs.Limits.{max_columns}
use Rattle.netlist_rules.specs.Run.{run_answer, run_outputs}
use Rattle.run_text.specs.Samples.{first_samples, samples_of}
use Rattle.run_text.proofs.SampleBytes.{samples-there, length-samples, samples-lent, room-lent, count-lent, many_alike}
use Rattle.run_text.proofs.samples.run_on_bytes.Goals as goal
use Rattle.run_text.proofs.samples.run_on_bytes.Lts
use Rattle.run_text.proofs.samples.run_on_bytes.Reads
use Rattle.run_text.proofs.samples.run_on_bytes.Tie

-- the samples are there
module _ (c : Lts.After-fill_samples Tie.the-claims Reads.Pre Reads.Post Tie.handed_clauses) where
  abbrev start : Lts.Start Tie.the-claims Reads.Pre Reads.Post Tie.handed_clauses
  start = c.before.before.before.before.before.before

  abbrev bytes : List ℕ
  bytes = start.args.samples.now

  abbrev vector : List ℤ
  vector = replicate max_columns (pos 0)

  abbrev part : List ℤ
  part = c.fill_samples.new.samples

  abbrev counted : Lts.After-sample_count Tie.the-claims Reads.Pre Reads.Post Tie.handed_clauses
  counted = c.before.before.before

  abbrev count : ℕ
  count = counted.sample_count-count.result

  few : count ≤ max_columns
  few = omega (arith, c.if-count-gt-MAX_COLUMNS.false)

  lent : take count (part ++ drop count vector) ≡ samples_of bytes
  lent = samples-lent bytes vector part count few c.fill_samples.ensures ∙ ap (first_samples bytes) counted.sample_count-count.ensures

pub returns-then-count-gt-MAX_COLUMNS : goal.returns-then-count-gt-MAX_COLUMNS
returns-then-count-gt-MAX_COLUMNS c =
    let r = c in
    let t = r in
    let known = t in
    let args = known.args in
    let bytes = args.samples.now in
    let many : max_columns < length (samples_of bytes) = omega (arith, length-samples bytes, t.sample_count-count.ensures, t.if-count-gt-MAX_COLUMNS.true) in
    let alike = many_alike args.netlist.now args.outputs.now (replicate (suc max_columns) (pos 0)) (samples_of bytes) (λ i. omega (arith, known.shared_slice_known-1.given i)) (omega arith) many in
    record { value = r.run.ensures.value ∙ alike.0; outputs_after = r.run.ensures.outputs_after ∙ alike.1 }

pub slice_bounds-fill_samples-end : goal.slice_bounds-fill_samples-end
slice_bounds-fill_samples-end c = simp length-take (omega arith)

pub fill_samples-requires : goal.fill_samples-requires
fill_samples-requires c =
    let there = samples-there _ _ c.sample_count-count.ensures c.if-count-gt-MAX_COLUMNS.false in
    simp length-take (omega arith)

pub slice_bounds-vector-end-2 : goal.slice_bounds-vector-end-2
slice_bounds-vector-end-2 c = let f = c in room-lent (bytes f.before.before) (vector f.before.before) (part f.before.before) (count f.before.before) (few f.before.before) f.fill_samples.ensures

pub slice_bounds-run-end-2 : goal.slice_bounds-run-end-2
slice_bounds-run-end-2 c = let f = c in count-lent (bytes f.before.before.before) (vector f.before.before.before) (part f.before.before.before) (count f.before.before.before) (few f.before.before.before) f.fill_samples.ensures

pub returns : goal.returns
returns c =
    let r = c in
    let f = r in
    let b = (start f.before.before.before.before.before.before).args.netlist.now in
    let outputs = (start f.before.before.before.before.before.before).args.outputs.now in record {
      value = r.run-2.ensures.value ∙ ap (λ (xs : List ℤ). run_answer b xs (length outputs)) (lent f.before.before.before.before.before.before);
      outputs_after = r.run-2.ensures.outputs_after ∙ ap (λ (xs : List ℤ). run_outputs b xs outputs) (lent f.before.before.before.before.before.before);
    }
