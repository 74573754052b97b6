-- `listing::write_outputs` meets its contract. Assumes nothing.
use Rattle.std.proofs.Common.{rules, arith}
use borrow.Author.Rules.{in_lives}
use Rattle.layout_rules.proofs.FirstRecords.{length-first, get_d_first}
use Rattle.layout_rules.proofs.InBytes.{length-due}
use Rattle.layout_rules.specs.Places.{output_at, first_outputs}
use Rattle.listing_rules.specs.Listing.{output_line}
use Rattle.text.proofs.Numbered.{lines_listed}
use Rattle.text.proofs.Wrote.{wrote_as}
use Rattle.listing.proofs.write_outputs.Goals as goal

pub write_lines-requires : goal.write_lines-requires
write_lines-requires c κs within =
    let due = length-due c.args.netlist.now in (
      simp (in_lives, within.0, within.1.0, within.1.1.0) (search rules),
      (omega arith, (λ k part h room. search (rules, due), λ k before written after h w. search rules)),
    )

pub returns-clause-wrote : goal.returns-clause-wrote
returns-clause-wrote c =
    let a = c.args in
    let output = output_at a.netlist.now a.operations in
    wrote_as (lines_listed output_line 0 (first_outputs a.netlist.now a.operations a.outputs) output a.outputs (length-first output a.outputs) (get_d_first output a.outputs))
    (c.write_lines.ensures.wrote _ (λ k before after written h w. search rules))
