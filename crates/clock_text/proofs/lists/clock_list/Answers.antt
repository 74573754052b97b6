-- `clock_text::lists::clock_list` meets its contract. Assumes nothing.
use Prim.Native.Nat.{ℕ}
use mathlib.Core.Path.{ap, ◌∙◌}
use mathlib.Core.List.{List}
use lib.IntN.{ℤ, pos}
use lib.ListN.{length}
use Rattle.board_rules.proofs.TableLaws.{length-filled}
use Rattle.clock_rules.specs.Answer.{clock_answer, clock_outputs}
use Rattle.clock_text.specs.ListBytes.{store_length}
use Rattle.clock_text.proofs.lists.clock_list.Goals as goal

pub returns : goal.returns
returns c =
    let clocked = c.clock.ensures in
    let blank = c.filled-store.ensures in
    let a = c.args in
    let room = ap (λ (l : List ℤ). length l) blank ∙ length-filled (pos 0) store_length in record {
      value = clocked.value ∙ ap (λ (k : ℕ). clock_answer a.netlist.now a.samples.now k (length a.outputs.now)) room;
      outputs_after = clocked.outputs_after ∙ ap (λ (l : List ℤ). clock_outputs a.netlist.now a.samples.now l a.outputs.now) blank;
    }
