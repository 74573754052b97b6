-- `netlist_check::same_row` meets its contract. What is left to compare is the columns from j on. Assumes nothing.
use mathlib.Core.Path.{◌≡◌, sym, ap, ◌∙◌}
use Prim.Native.Nat.{ℕ, ◌+◌, ◌^◌, ◌<◌}
use mathlib.Core.List.{List}
use native.Mathlib.Omega.{arith}
use native.Mathlib.Numerals.{add-one}
use lib.Dec.{lit≤}
use lib.IntN.{ℤ}
use lib.Signed.{mag}
use mir.Syntax.{w16, w64}
use mir.Val.{SFits, to_z, of_z}
use Rattle.integers.proofs.Size.{fits_wider}
use Rattle.integers.proofs.Held.{Held, is, held, held-is, need_widen, held_cast, when_eq, when_ne}
use Rattle.layout_rules.specs.declared.Output.{Output}
use Rattle.layout_rules.specs.Matrix.{coefficients_from}
use Rattle.board_rules.specs.Machine.{shifted, with_sign}
use Rattle.board_rules.specs.Table.{Small, table_coefficient}
use Rattle.netlist_check.proofs.CheckLaws.{columns-start, column-same, column-differs, columns-end}
use Rattle.netlist_check.proofs.same_row.Goals as goal
use Rattle.netlist_check.proofs.same_row.Invariants.{f}
use Rattle.netlist_check.proofs.same_row.Lts
use Rattle.netlist_check.proofs.same_row.Reads
use Rattle.netlist_check.proofs.same_row.Tie

pub loop-j-init : goal.loop-j-init
loop-j-init c = let s = c in (omega arith, columns-start (f s.args.forms.now s.args.o) s.args.matrix.now s.args.index s.args.n)

-- the two coefficients, over plain numbers
module _ (forms : List ℤ) (o : Output) (j : ℕ) (fx : SFits w64 (table_coefficient forms o.symbol j)) where
  abbrev x : ℤ
  x = to_z w64 (of_z w64 (table_coefficient forms o.symbol j))

  x-is : x ≡ table_coefficient forms o.symbol j
  x-is = is (held fx)

  asked : Small (table_coefficient forms o.symbol j) o.shift → Small x o.shift
  asked s = rw x-is s

  first : (r : ℤ) → mag r < 2 ^ 63 → r ≡ with_sign o.sign (shifted x o.shift) → Held w64 (of_z w64 r) (f forms o j)
  first r ok e = held-is (held (record { sfits = ok })) (e ∙ ap (λ (z : ℤ). with_sign o.sign (shifted z o.shift)) x-is)

second : (r y : ℤ) → mag r < 2 ^ 15 → r ≡ y → Held w64 (of_z w64 (to_z w16 (of_z w16 r))) y
second r y ok e = held-is (held_cast {w = w16} w64 (held (record { sfits = ok })) (fits_wider w16 w64 r (lit≤ tt) (record { sfits = ok }))) e

pub output_value-x-requires : goal.output_value-x-requires
output_value-x-requires c = let l = c in let s = l in asked s.args.forms.now s.args.o l.loop-j.j (record { sfits = c.c-1.given }) (s.requires.row_ready.small l.loop-j.j c.loop-j-test.true)

pub coefficient-y-requires : goal.coefficient-y-requires
coefficient-y-requires c = let l = c in let s = l in s.requires.row_ready.there l.loop-j.j c.loop-j-test.true

pub overflow_cast-y : goal.overflow_cast-y
overflow_cast-y c = need_widen w16 w64 (lit≤ tt) {z = c.coefficient-y.result} (record { sfits = c.coefficient-y.type_inv })

module _ (c : Lts.After-coefficient Tie.the-claims Reads.Pre Reads.Post goal.the-invariant-loop-j goal.the-decreases-loop-j Tie.handed_clauses) where
  abbrev l : Lts.At-loop Tie.the-claims Reads.Pre Reads.Post goal.the-invariant-loop-j goal.the-decreases-loop-j Tie.handed_clauses
  l = c.before.before.before.before

  abbrev s : Lts.Start Tie.the-claims Reads.Pre Reads.Post goal.the-invariant-loop-j goal.the-decreases-loop-j Tie.handed_clauses
  s = l.before.before.before

  abbrev g : ℕ → ℤ
  g = f s.args.forms.now s.args.o

  abbrev y : ℤ
  y = Rattle.layout_rules.specs.Matrix.coefficient_at s.args.matrix.now (s.args.index + l.loop-j.j)

  inside : l.loop-j.j < s.args.n
  inside = c.loop-j-test.true

  one : Held w64 (of_z w64 c.output_value-x.result) (g l.loop-j.j)
  one = first s.args.forms.now s.args.o l.loop-j.j (record { sfits = c.c-1.given }) c.output_value-x.result c.output_value-x.type_inv c.output_value-x.ensures

  other : Held w64 (of_z w64 (to_z w16 (of_z w16 c.coefficient-y.result))) y
  other = second c.coefficient-y.result y c.coefficient-y.type_inv c.coefficient-y.ensures

pub returns-then-x-y : goal.returns-then-x-y
returns-then-x-y c = let d = c in sym (column-differs (g d.before.before) (s d.before.before).args.matrix.now (s d.before.before).args.index (s d.before.before).args.n (l d.before.before).loop-j.j (inside d.before.before) (when_ne (one d.before.before) (other d.before.before) c.if-x-y.true)) ∙ (l d.before.before).loop-j.invariant.1

pub loop-j-preserved : goal.loop-j-preserved
loop-j-preserved c = let d = c in
    rw add-one (omega arith, sym (column-same (g d.before.before) (s d.before.before).args.matrix.now (s d.before.before).args.index (s d.before.before).args.n (l d.before.before).loop-j.j (inside d.before.before) (when_eq (one d.before.before) (other d.before.before) c.if-x-y.false)) ∙ (l d.before.before).loop-j.invariant.1)

pub returns : goal.returns
returns c = let L = c in let s = L in sym (columns-end (f s.args.forms.now s.args.o) s.args.matrix.now s.args.index s.args.n L.loop-j.j c.loop-j-test.false) ∙ L.loop-j.invariant.1
