-- `listing::write_listing` meets its contract. Assumes nothing.
use native.Mathlib.Omega.{arith}
use Rattle.layout_rules.proofs.InBytes.{length-due}
use Rattle.text.proofs.Wrote.{wrote_more}
use Rattle.listing.proofs.write_listing.Goals as goal

pub due_length-head-requires : goal.due_length-head-requires
due_length-head-requires c = let s = c in omega (arith, s.requires.outputs_in_bounds, length-due s.args.netlist.now)

pub returns : goal.returns
returns c =
    let counts = c.write_counts-operations in
    let operations = c.write_operations in
    let outputs = c.write_outputs in record {
      wrote = wrote_more (wrote_more counts.ensures.wrote operations.ensures.wrote) outputs.ensures.wrote;
      upper_bound = omega (arith, counts.ensures.upper_bound, operations.ensures.upper_bound, outputs.ensures.upper_bound);
    }
