-- `clock_text::lists::clock_on_bytes` meets its contract. Assumes nothing.
use Prim.Native.Nat.{ℕ, ◌/◌, ◌≤◌}
use mathlib.Core.Path.{◌≡◌, ap, ◌∙◌}
use mathlib.Core.List.{List, ◌++◌}
use native.Mathlib.Omega.{arith}
use lib.IntN.{ℤ, pos}
use Rattle.arrays.proofs.FilledLaws.{length-filled}
use lib.ListN.{length, take, drop, length-take}
use Rattle.clock_rules.specs.Answer.{clock_answer, clock_outputs}
use Rattle.run_text.proofs.SampleBytes.{samples-lent, room-lent, count-lent}
use Rattle.clock_text.specs.ListBytes.{most_samples, store_length, store_lent, list_of}
use Rattle.clock_text.proofs.ListBytes.{whole-answer, whole-outputs, part_answer, part_outputs}
use Rattle.clock_text.proofs.lists.clock_on_bytes.Goals as goal
use Rattle.clock_text.proofs.lists.clock_on_bytes.Lts
use Rattle.clock_text.proofs.lists.clock_on_bytes.Reads
use Rattle.clock_text.proofs.lists.clock_on_bytes.Tie

-- the samples are there
module _ (c : Lts.After-fill_samples Tie.the-claims Reads.Pre Reads.Post Tie.handed_clauses) where
  abbrev start : Lts.Start Tie.the-claims Reads.Pre Reads.Post Tie.handed_clauses
  start = c.before.before.before.before.before.before

  abbrev bytes : List ℕ
  bytes = start.args.bytes.now

  abbrev table : List ℤ
  table = c.filled-samples.result

  abbrev part : List ℤ
  part = c.fill_samples.new.samples

  abbrev count : ℕ
  count = length bytes / 4

  few : count ≤ length table
  few = omega (arith, ap length c.filled-samples.ensures, length-filled (pos 0) most_samples)

  lent : take count (part ++ drop count table) ≡ list_of bytes
  lent = samples-lent bytes table part count few c.fill_samples.ensures

pub returns-then-bytes-ne0 : goal.returns-then-bytes-ne0
returns-then-bytes-ne0 c =
    let a = c.args in
    let odd = c.if-bytes-ne0.true in record {
      value = c.not_whole.ensures ∙ part_answer a.netlist.now a.bytes.now odd (length a.outputs.now);
      outputs_after = part_outputs a.netlist.now a.bytes.now odd a.outputs.now;
    }

pub slice_bounds-fill_samples-end : goal.slice_bounds-fill_samples-end
slice_bounds-fill_samples-end c = simp length-take (omega arith)

pub fill_samples-requires : goal.fill_samples-requires
fill_samples-requires c = simp length-take (omega arith)

pub slice_bounds-samples-end-2 : goal.slice_bounds-samples-end-2
slice_bounds-samples-end-2 c = let f = c in room-lent (bytes f.before.before) (table f.before.before) (part f.before.before) (count f.before.before) (few f.before.before) f.fill_samples.ensures

pub slice_bounds-clock_list-end : goal.slice_bounds-clock_list-end
slice_bounds-clock_list-end c = let f = c in count-lent (bytes f.before.before.before) (table f.before.before.before) (part f.before.before.before) (count f.before.before.before) (few f.before.before.before) f.fill_samples.ensures

pub returns : goal.returns
returns c =
    let r = c in
    let f = r in
    let a = (start f.before.before.before.before.before.before).args in
    let netlist = a.netlist.now in
    let outputs = a.outputs.now in
    let even = f.if-bytes-ne0.false in record {
      value = r.clock_list.ensures.value
          ∙ ap (λ (xs : List ℤ). clock_answer netlist xs store_length (length outputs)) (lent f.before.before.before.before.before.before)
          ∙ whole-answer netlist (bytes f.before.before.before.before.before.before) even (length outputs);
      outputs_after = r.clock_list.ensures.outputs_after
          ∙ ap (λ (xs : List ℤ). clock_outputs netlist xs store_lent outputs) (lent f.before.before.before.before.before.before)
          ∙ whole-outputs netlist (bytes f.before.before.before.before.before.before) even outputs;
    }
