-- `board_tables::append_form` meets its contract. What is left to write is the operation's row from column j on, and the rows below keep what
-- they held. Assumes nothing.
use mathlib.Core.Path.{◌≡◌, refl, sym, ap, ◌∙◌}
use Prim.Native.Nat.{ℕ, suc, ◌+◌, ◌*◌, ◌^◌, ◌≤◌, ◌<◌}
use native.Mathlib.Omega.{arith}
use native.Mathlib.Numerals.{add-one}
use mathlib.Core.List.{List}
use lib.IntN.{ℤ, pos}
use lib.ListN.{get_or, set, drop}
use lib.Seq.{sets, get_or-set_other}
use lib.Signed.{mag}
use mir.Syntax.{w64}
use mir.Val.{SFits, to_z, of_z}
use Rattle.limits.specs.Limits.{max_columns}
use Rattle.layout_rules.specs.declared.Operation.{Operation}
use Rattle.integers.proofs.Held.{is, held, call_result}
use Rattle.board_rules.specs.Machine.{shifted, joined}
use Rattle.board_rules.specs.Table.{table_coefficient, operation_coefficient, operation_row, Small, SmallForms}
use Rattle.board_rules.proofs.FormLaws.{length-columns, columns_at}
use Rattle.board_rules.proofs.TableLaws.{sets_next, sets_none}
use Rattle.board_tables.proofs.append_form.Goals as goal
use Rattle.board_tables.proofs.append_form.Invariants.{Kept}

pub loop-j-init : goal.loop-j-init
loop-j-init c = let e : c.args.symbol * max_columns + 0 ≡ c.args.symbol * max_columns = omega arith in (omega arith, (rw e refl, λ i h. refl))

-- one turn, over plain numbers
module _ (table₀ table : List ℤ) (o : Operation) (symbol n j : ℕ) (kept : Kept symbol table₀ table) (h : j < n) (l : n ≤ max_columns) (ha : o.a < symbol) (hb : o.b < symbol)
    (fx : SFits w64 (table_coefficient table o.a j)) (fy : SFits w64 (table_coefficient table o.b j)) where
  abbrev x : ℤ
  x = to_z w64 (of_z w64 (table_coefficient table o.a j))

  abbrev y : ℤ
  y = to_z w64 (of_z w64 (table_coefficient table o.b j))

  x-is : x ≡ table_coefficient table₀ o.a j
  x-is = is (held fx) ∙ kept (o.a * max_columns + j) (omega arith)

  y-is : y ≡ table_coefficient table₀ o.b j
  y-is = is (held fy) ∙ kept (o.b * max_columns + j) (omega arith)

  asked : SmallForms table₀ n o → Small x o.sa × Small y o.sb
  asked s = (rw x-is (s.first j h), rw y-is (s.second j h))

  row_at : get_or (operation_row table₀ n o) j (pos 0) ≡ operation_coefficient table₀ o j
  row_at = columns_at 0 n (operation_coefficient table₀ o) j h ∙ ap (operation_coefficient table₀ o) (omega arith)

  module _ (r : ℤ) (ok : mag r < 2 ^ 63) (e : r ≡ joined o.sign (shifted x o.sa) (shifted y o.sb)) where
    written : to_z w64 (of_z w64 r) ≡ get_or (operation_row table₀ n o) j (pos 0)
    written = call_result w64 ok e ∙ rw (x-is, y-is) (sym row_at)

    next : sets (set table (symbol * max_columns + j) (to_z w64 (of_z w64 r))) (symbol * max_columns + suc j) (drop (suc j) (operation_row table₀ n o)) ≡ sets table (symbol * max_columns + j) (drop j (operation_row table₀ n o))
    next = sets_next (pos 0) (operation_row table₀ n o) table (symbol * max_columns) j (to_z w64 (of_z w64 r)) (omega (arith, length-columns 0 n (operation_coefficient table₀ o))) written

    kept_next : Kept symbol table₀ (set table (symbol * max_columns + j) (to_z w64 (of_z w64 r)))
    kept_next i k = get_or-set_other table (symbol * max_columns + j) i (to_z w64 (of_z w64 r)) (pos 0) (λ d. omega arith) ∙ kept i k

pub combined-z-requires : goal.combined-z-requires
combined-z-requires c = let L = c in let s = L in
    asked s.args.table.now L.loop-j.table s.args.o s.args.symbol s.args.n L.loop-j.j L.loop-j.invariant.1.1
    c.loop-j-test.true s.requires.symbol_lt_max_symbols.1 s.requires.a_lt_symbol.0 s.requires.a_lt_symbol.1
    (record { sfits = c.x-1.given }) (record { sfits = c.y-1.given }) s.requires.small_forms

pub loop-j-preserved : goal.loop-j-preserved
loop-j-preserved c = let L = c in let s = L in
    let t = next s.args.table.now L.loop-j.table s.args.o s.args.symbol s.args.n L.loop-j.j L.loop-j.invariant.1.1
    c.loop-j-test.true s.requires.symbol_lt_max_symbols.1 s.requires.a_lt_symbol.0 s.requires.a_lt_symbol.1
    (record { sfits = c.x-1.given }) (record { sfits = c.y-1.given }) c.combined-z.result c.combined-z.type_inv c.combined-z.ensures in
    let k = kept_next s.args.table.now L.loop-j.table s.args.o s.args.symbol s.args.n L.loop-j.j L.loop-j.invariant.1.1
    c.loop-j-test.true s.requires.symbol_lt_max_symbols.1 s.requires.a_lt_symbol.0 s.requires.a_lt_symbol.1
    (record { sfits = c.x-1.given }) (record { sfits = c.y-1.given }) c.combined-z.result c.combined-z.type_inv c.combined-z.ensures in
    rw add-one (omega arith, (t ∙ L.loop-j.invariant.1.0, k))

pub returns : goal.returns
returns c = let L = c in let s = L in
    sym (sets_none (pos 0) (operation_row s.args.table.now s.args.n s.args.o) L.loop-j.table (s.args.symbol * max_columns + L.loop-j.j) L.loop-j.j
    (omega (arith, length-columns 0 s.args.n (operation_coefficient s.args.table.now s.args.o)))) ∙ L.loop-j.invariant.1.0
