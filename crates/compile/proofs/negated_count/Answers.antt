-- `compile::negated_count` meets its contract. Assumes nothing.
use Rattle.std.proofs.Common.{◌≡◌, sym, ◌∙◌, List, arith, rules, tests}
use Rattle.std.proofs.lemmas.Iterator.{YieldsList-from_slice}
use Rattle.std.proofs.lemmas.Iterator.Consumers.{count_from_yields_List, YieldsList-from_filter}
use lib.Dec.{eqb}
use lib.ListN.{length-take}
use Rattle.lists.specs.Items.{items_of}
use Rattle.layout_rules.specs.declared.Output.{Output}
use Rattle.compile_lists.specs.Lists.{outputs_list}
use Rattle.compile_rules.specs.Compile.{negated_outputs}
use Rattle.compile_rules.proofs.Counts.{negated-most}
use Rattle.compile.proofs.AnswerLaws.{negated-filtered}
use Rattle.compile.proofs.negated_count.Goals as goal

counted : (c : goal.After-count) → c.count.result ≡ negated_outputs (outputs_list c.args.outputs)
counted c =
    let outputs : List Output = outputs_list c.args.outputs in
    count_from_yields_List c.filter.result _ c.count.ensures.ran
    (YieldsList-from_filter _ (λ o. eqb o.sign 1) (YieldsList-from_slice outputs cc) c.filter.ensures.closure (λ x r q k. search (rules, tests)))
    ∙ sym (negated-filtered outputs)

pub overflow_cast-result : goal.overflow_cast-result
unfolding items_of
overflow_cast-result c =
    let outputs = c.args.outputs in
    omega (arith, counted c, negated-most (items_of outputs), length-take outputs.count outputs.items, outputs.within)

pub returns : goal.returns
returns c = counted c
