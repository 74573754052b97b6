-- The rows as a lent slice: how many they are, and the terms of each.
-- Assumes nothing.
use Prim.Native.Nat.{ℕ, ◌<◌}
use mathlib.Core.Path.{◌≡◌, sym, ap, ◌∙◌}
use mathlib.Core.List.{List, [], map}
use lib.ListN.{length, get_or, length-map}
use Rattle.std.proofs.lemmas.List.{get_or-map}
use Rattle.limits.specs.Limits.{max_rows, max_terms}
use Rattle.lists.specs.declared.List.{List as ListOf}
use Rattle.lists.specs.Items.{items_of}
use Rattle.term.specs.declared.Term.{Term}
use Rattle.elimination_rows.specs.State.{row_terms, rows_terms}

abbrev pub Stored : Type 0
Stored = ListOf Term max_terms

module _ (rows : ListOf Stored max_rows) (slice : List Stored) (same : slice ≡ items_of rows) where
  pub slice-rows : length (rows_terms rows) ≡ length slice
  slice-rows = length-map (items_of rows) row_terms ∙ ap (length {A = Stored}) (sym same)

  pub row_in_slice : (i : ℕ) (row : Stored) → row ≡ get_or slice i row → i < length slice → row_terms row ≡ get_or (rows_terms rows) i []
  row_in_slice i row is h = ap row_terms is ∙ sym (get_or-map row_terms slice i row [] h) ∙ ap (λ (l : List Stored). get_or (map row_terms l) i []) same
