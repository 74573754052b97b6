-- `market_lines::line_end` meets its contract. Assumes nothing.
use native.Mathlib.Omega.{arith}
use Rattle.market_lines.proofs.Scan.{end-behind, end-open, end-within}
use Rattle.market_lines.proofs.line_end.Goals as goal

pub returns-then-found-text-clause-value : goal.returns-then-found-text-clause-value
returns-then-found-text-clause-value c = end-behind c.args.text.now c.args.place _ c.requires c.find-found.ensures c.if-found-text.true

pub returns-else-found-text-clause-value : goal.returns-else-found-text-clause-value
returns-else-found-text-clause-value c = end-open c.args.text.now c.args.place _ c.requires c.find-found.ensures c.if-found-text.false

pub returns-else-found-text-clause-lower_bound : goal.returns-else-found-text-clause-lower_bound
returns-else-found-text-clause-lower_bound c =
    (omega (arith, c.find-found.ensures), end-within c.args.text.now c.args.place _ c.requires c.find-found.ensures)
