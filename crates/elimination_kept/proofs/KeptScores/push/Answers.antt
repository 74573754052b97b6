-- `elimination_kept::KeptScores::push` meets its contract. Assumes nothing.
use mathlib.Core.Path.{◌≡◌, ap, ◌∙◌}
use mathlib.Core.List.{List, [], ◌∷◌, ◌++◌}
use native.Mathlib.Omega.{arith}
use lib.ListN.{length, length-set}
use Rattle.elimination_rules.specs.Elimination.{Scored}
use Rattle.elimination_kept.specs.Table.{entry_of, table_of}
use Rattle.elimination_kept.proofs.TableLaws.{table-length, table_more}
use Rattle.elimination_kept.proofs.KeptScores.push.Goals as goal

pub bounds-self-inside-self-inside : goal.bounds-self-inside-self-inside
bounds-self-inside-self-inside c =
    let s = c.self.inside in
    let is : table_of s.keys s.scores s.count ≡ c.args.self.now = c.self.view_is in
    omega (arith, table-length s.keys s.scores s.count c.self.invariant, ap length is)

pub bounds-self-inside-self-inside-2 : goal.bounds-self-inside-self-inside-2
bounds-self-inside-self-inside-2 c =
    let s = c.self.inside in
    let is : table_of s.keys s.scores s.count ≡ c.args.self.now = c.self.view_is in
    omega (arith, table-length s.keys s.scores s.count c.self.invariant, ap length is)

pub invariant_of-self : goal.invariant_of-self
invariant_of-self c =
    let s = c.self.inside in
    let is : table_of s.keys s.scores s.count ≡ c.args.self.now = c.self.view_is in
    record {
      keys-room = length-set _ _ _ ∙ c.self.invariant.keys-room;
      scores-room = length-set _ _ _ ∙ c.self.invariant.scores-room;
      within = omega (arith, table-length s.keys s.scores s.count c.self.invariant, ap length is);
    }

pub returns : goal.returns
returns c =
    let s = c.self.inside in
    let is : table_of s.keys s.scores s.count ≡ c.args.self.now = c.self.view_is in
    table_more s.keys s.scores s.count c.self.invariant c.args.key c.args.score (omega (arith, table-length s.keys s.scores s.count c.self.invariant, ap length is))
    ∙ ap (λ (t : List Scored). t ++ (entry_of c.args.key c.args.score ∷ [])) is
