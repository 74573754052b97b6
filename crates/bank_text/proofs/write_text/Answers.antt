-- `bank_text::write_text` meets its contract. Assumes nothing.
use Prim.Native.Nat.{ℕ, ◌≤◌}
use mathlib.Core.Path.{◌≡◌, sym, ap, ◌∙◌}
use mathlib.Core.List.{List}
use native.Mathlib.Omega.{arith}
use lib.ListN.{length}
use Rattle.arrays.proofs.FilledLaws.{length-filled}
use Rattle.limits.specs.Limits.{max_operations}
use Rattle.layout_rules.specs.Places.{enough_bytes, output_place, head_length_in}
use Rattle.layout_rules.specs.Matrix.{rows, columns}
use Rattle.layout_rules.proofs.LittleEndian.{AreBytes}
use Rattle.layout_rules.proofs.MatrixRefusal.{AcceptedMatrix}
use Rattle.text.specs.Text.{refused_line}
use Rattle.text.proofs.Wrote.{wrote_as}
use Rattle.listing_rules.specs.Records.{listing_of}
use Rattle.bank_text.specs.BankText.{bank_text}
use Rattle.bank_text.proofs.Texts.{counts_from, text-refused, text-accepted, limits, few, long}
use Rattle.bank_text.proofs.write_text.Goals as goal
use Rattle.bank_text.proofs.write_text.Lts
use Rattle.bank_text.proofs.write_text.Reads
use Rattle.bank_text.proofs.write_text.Tie

-- what is known once compile has answered
module _ (c : Lts.After-compile Tie.the-claims Reads.Pre Reads.Post Tie.handed_clauses) where
  abbrev known : Lts.After-shared_slice_known Tie.the-claims Reads.Pre Reads.Post Tie.handed_clauses
  known = c.before.before.before.before

  abbrev bytes : List ℕ
  bytes = known.args.matrix.now

  -- the sample width
  abbrev s : ℕ
  s = known.args.sample_width

  room : enough_bytes ≡ length c.filled-netlist.result
  room = sym (ap length c.filled-netlist.ensures ∙ length-filled 0 enough_bytes)

  all : AreBytes bytes
  all i = omega (arith, known.shared_slice_known-1.given i)

  refusal-text : (c.compile-answer.result.refusal ≡ 0 → ⊥) → refused_line c.compile-answer.result.refusal c.compile-answer.result.place ≡ bank_text s bytes
  refusal-text = text-refused s bytes all _ _ c.compile-answer.result room c.compile-answer.ensures.value c.compile-answer.ensures.buffer_after

  module _ (e : c.compile-answer.result.refusal ≡ 0) where
    netlist-text : (n m : ℕ) → n ≡ columns bytes → m ≡ rows bytes → listing_of (counts_from n m c.compile-answer.result) c.compile-answer.new.buffer ≡ bank_text s bytes
    netlist-text = text-accepted s bytes all _ _ c.compile-answer.result room c.compile-answer.ensures.value c.compile-answer.ensures.buffer_after e

    within : AcceptedMatrix bytes
    within = limits s bytes all _ _ c.compile-answer.result room c.compile-answer.ensures.value c.compile-answer.ensures.buffer_after e

    enough : output_place (head_length_in c.compile-answer.new.buffer) c.compile-answer.result.operations (rows bytes) ≤ length c.compile-answer.new.buffer
    enough = long s bytes all _ _ c.compile-answer.result room c.compile-answer.ensures.value c.compile-answer.ensures.buffer_after e

    operations : c.compile-answer.result.operations ≤ max_operations
    operations = few s bytes all _ _ c.compile-answer.result room c.compile-answer.ensures.value c.compile-answer.ensures.buffer_after e

pub returns-then-answer-ne0 : goal.returns-then-answer-ne0
returns-then-answer-ne0 c =
    let w = c.write_refused.ensures in
    wrote_as (refusal-text c.before.before.before.before.before.before.before.before c.if-answer-ne0.true) w.wrote

pub write_listing-requires : goal.write_listing-requires
write_listing-requires c =
    let k = c.before.before.before.before.before.before.before.before in
    let e = c.if-answer-ne0.false in
    let l = within k e in
    let f = operations k e in
    let same_rows = c.row_count.ensures in record {
      operations_bound = omega (arith, c.column_count.ensures, l.limits.columns-most, f);
      outputs_in_bounds = omega (arith, same_rows, enough k e);
      outputs_in_bounds_2 = omega (arith, same_rows, l.limits.rows-most, f);
    }

pub returns : goal.returns
returns c =
    let k = c.before.before.before.before.before.before.before.before.before.before.before in
    let e = c.if-answer-ne0.false in
    let w = c.write_listing.ensures in
    wrote_as (netlist-text k e _ _ c.column_count.ensures c.row_count.ensures) w.wrote
