-- `board_tables::start_form` meets its contract. What is left to write is the unit vector from column j on. Assumes nothing.
use mathlib.Core.Path.{◌≡◌, refl, sym, ◌∙◌}
use Prim.Native.Nat.{ℕ, ◌+◌, ◌*◌, ◌<◌}
use native.Mathlib.Omega.{arith}
use native.Mathlib.Numerals.{add-one}
use lib.IntN.{pos}
use lib.ListN.{get_or}
use mir.Syntax.{w64}
use mir.Val.{to_z}
use Rattle.limits.specs.Limits.{max_columns}
use Rattle.board_rules.specs.Machine.{unit}
use Rattle.board_rules.proofs.FormLaws.{length-unit, unit-same, unit_other}
use Rattle.board_rules.proofs.TableLaws.{sets_next, sets_none}
use Rattle.board_tables.proofs.start_form.Goals as goal
use Rattle.board_tables.proofs.start_form.Goals.{else-j-symbol, then-j-symbol}

pub loop-j-init : goal.loop-j-init
loop-j-init c = let e : c.args.symbol * max_columns + 0 ≡ c.args.symbol * max_columns = omega arith in (omega arith, rw e refl)

one-is : (n symbol j v : ℕ) → j ≡ symbol → symbol < n → v ≡ 1 → to_z w64 v ≡ get_or (unit n symbol) j (pos 0)
one-is n symbol j v e h d = rw (d, e) (sym (unit-same n symbol h))

none_is : (n symbol j v : ℕ) → (j ≡ symbol → ⊥) → v ≡ 0 → to_z w64 v ≡ get_or (unit n symbol) j (pos 0)
none_is n symbol j v e d = rw d (sym (unit_other n symbol j (λ i. e (sym i))))

pub loop-j-preserved : goal.loop-j-preserved
loop-j-preserved c = let L = c in let s = L in
    let v : to_z w64 c.if-j-symbol.c-bits ≡ get_or (unit s.args.n s.args.symbol) L.loop-j.j (pos 0) = (elim c.if-j-symbol.branch [ then-j-symbol w ↦ one-is s.args.n s.args.symbol L.loop-j.j c.if-j-symbol.c-bits w.if-j-symbol.true s.requires.0 w.c-is-bits | else-j-symbol w ↦ none_is s.args.n s.args.symbol L.loop-j.j c.if-j-symbol.c-bits w.if-j-symbol.false w.c-is-bits ]) in
    rw add-one (
      omega arith,
      sets_next (pos 0) (unit s.args.n s.args.symbol) L.loop-j.table (s.args.symbol * max_columns) L.loop-j.j (to_z w64 c.if-j-symbol.c-bits)
          (omega (arith, length-unit s.args.n s.args.symbol, c.loop-j-test.true)) v
          ∙ L.loop-j.invariant.1,
    )

pub returns : goal.returns
returns c = let L = c in let s = L in
    sym (sets_none (pos 0) (unit s.args.n s.args.symbol) L.loop-j.table (s.args.symbol * max_columns + L.loop-j.j) L.loop-j.j
    (omega (arith, length-unit s.args.n s.args.symbol, c.loop-j-test.false))) ∙ L.loop-j.invariant.1
