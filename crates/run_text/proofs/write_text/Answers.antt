-- `run_text::write_text` meets its contract. Assumes nothing.
use Prim.Native.Nat.{ℕ, ◌≤◌}
use mathlib.Core.Path.{◌≡◌, sym, ap, ◌∙◌}
use mathlib.Core.List.{List}
use native.Mathlib.Omega.{arith}
use lib.IntN.{ℤ, pos}
use lib.ListN.{length, take, replicate, length-replicate}
use Rattle.limits.specs.Limits.{max_rows}
use Rattle.netlist_rules.specs.declared.ReadAnswer.{ReadAnswer}
use Rattle.board_rules.specs.Table.{filled}
use Rattle.board_rules.proofs.TableLaws.{take-filled}
use Rattle.run_text.specs.RunText.{rows_read}
use Rattle.run_text.proofs.Texts.{rows_few}
use Rattle.run_text.proofs.write_text.Goals as goal
use Rattle.run_text.proofs.write_text.Lts
use Rattle.run_text.proofs.write_text.Reads
use Rattle.run_text.proofs.write_text.Tie

-- read has answered
module _ (c : Lts.After-read Tie.the-claims Reads.Pre Reads.Post Tie.handed_clauses) where
  abbrev known : Lts.After-shared_slice_known Tie.the-claims Reads.Pre Reads.Post Tie.handed_clauses
  known = c.before.before.before

  abbrev netlist : List ℕ
  netlist = known.args.netlist.now

  rows : c.read-m.result.m ≡ rows_read netlist
  rows = ap (λ (a : ReadAnswer). a.m) c.read-m.ensures

  few : c.read-m.result.m ≤ max_rows
  few = omega (arith, rows, rows_few netlist (λ i. omega (arith, known.shared_slice_known-1.given i)))

  lent : take c.read-m.result.m (replicate max_rows (pos 0)) ≡ replicate (rows_read netlist) (pos 0)
  unfolding filled
  lent = take-filled (pos 0) c.read-m.result.m max_rows few ∙ ap (λ (k : ℕ). replicate k (pos 0)) rows

  count : length (take c.read-m.result.m (replicate max_rows (pos 0))) ≡ c.read-m.result.m
  count = ap (λ (l : List ℤ). length l) lent ∙ length-replicate (rows_read netlist) (pos 0) ∙ sym rows

pub slice_bounds-outputs-end : goal.slice_bounds-outputs-end
slice_bounds-outputs-end c = few c.before.before

pub slice_bounds-run_and_write-end : goal.slice_bounds-run_and_write-end
slice_bounds-run_and_write-end c = sym (count c.before.before.before)

pub run_and_write-requires : goal.run_and_write-requires
run_and_write-requires c = let r = c in record { outputs_value = lent r.before.before.before.before; outputs_len_bound = (omega (arith, count r.before.before.before.before, few r.before.before.before.before), omega arith) }
