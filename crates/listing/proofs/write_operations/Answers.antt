-- `listing::write_operations` meets its contract. Assumes nothing.
use Rattle.std.proofs.Common.{rules, arith}
use borrow.Author.Rules.{in_lives}
use Rattle.layout_rules.proofs.FirstRecords.{length-first, get_d_first}
use Rattle.layout_rules.proofs.InBytes.{length-due}
use Rattle.layout_rules.specs.Places.{operation_at, first_operations}
use Rattle.listing_rules.specs.Listing.{operation_line}
use Rattle.text.proofs.Numbered.{lines_listed}
use Rattle.text.proofs.Wrote.{wrote_as}
use Rattle.listing.proofs.write_operations.Goals as goal

pub write_lines-requires : goal.write_lines-requires
write_lines-requires c κs within =
    let due = length-due c.args.netlist.now in (
      simp (in_lives, within.0, within.1.0, within.1.1.0) (search rules),
      (omega arith, (λ k part h room. search (rules, due), λ k before written after h w. search rules)),
    )

pub returns-clause-wrote : goal.returns-clause-wrote
returns-clause-wrote c =
    let a = c.args in
    let operation = operation_at a.netlist.now in
    wrote_as (lines_listed operation_line a.inputs (first_operations a.netlist.now a.operations) operation a.operations (length-first operation a.operations) (get_d_first operation a.operations))
    (c.write_lines.ensures.wrote _ (λ k before after written h w. search rules))
