-- The items of a list by value.
-- Assumes nothing.
use Rattle.std.specs.Prelude.{ℕ, take}
use mathlib.Core.List.{List}
use Rattle.lists.specs.declared.List.{List as ListOf}

unfoldable pub items_of : {A : Type 0} {n : ℕ} → ListOf A n → List A
items_of l = take l.count l.items
