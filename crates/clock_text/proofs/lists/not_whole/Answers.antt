-- `clock_text::lists::not_whole` meets its contract. Assumes nothing.
use mathlib.Core.Path.{ap, ◌∙◌}
use Rattle.clock_text.specs.ListBytes.{or_not_whole}
use Rattle.clock_text.proofs.ListBytes.{refused-before, refused_here}
use Rattle.clock_text.proofs.lists.not_whole.Goals as goal

pub returns-then-empty-ne0 : goal.returns-then-empty-ne0
returns-then-empty-ne0 c =
    let empty = c.clock_list-empty in
    refused-before empty.result c.if-empty-ne0.true ∙ ap or_not_whole empty.ensures.value

pub returns : goal.returns
returns c =
    let empty = c.clock_list-empty in
    rw c.number.ensures (refused_here empty.result c.if-empty-ne0.false ∙ ap or_not_whole empty.ensures.value)
