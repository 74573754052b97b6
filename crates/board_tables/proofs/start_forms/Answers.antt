-- `board_tables::start_forms` meets its contract. What is left to write is the rows from i on. Assumes nothing.
use mathlib.Core.Path.{◌≡◌, refl, ◌∙◌}
use Prim.Native.Nat.{ℕ, suc, ◌*◌, ◌-◌, ◌≤◌, ◌<◌}
use native.Mathlib.Omega.{arith}
use native.Mathlib.Numerals.{add-one}
use mathlib.Core.List.{List}
use lib.IntN.{ℤ}
use lib.Seq.{sets}
use Rattle.limits.specs.Limits.{max_columns}
use Rattle.board_rules.specs.Machine.{unit}
use Rattle.board_rules.specs.Table.{unit_rows_from}
use Rattle.board_tables.proofs.start_forms.Goals as goal

-- one row of those that are left, and none
next : (n i : ℕ) (table later : List ℤ) → i < n → later ≡ sets table (i * max_columns) (unit n i) → unit_rows_from n (suc i) (n - suc i) later ≡ unit_rows_from n i (n - i) table
unfolding unit_rows_from
next n i table later h e = let less : n - i ≡ suc (n - suc i) = omega arith in rw (less, e) refl

none : (n i : ℕ) (table : List ℤ) → n ≤ i → table ≡ unit_rows_from n i (n - i) table
unfolding unit_rows_from
none n i table h = let e : n - i ≡ 0 = omega arith in rw e refl

pub loop-i-init : goal.loop-i-init
loop-i-init c = let e : c.args.n - 0 ≡ c.args.n = omega arith in (omega arith, rw e refl)

pub loop-i-preserved : goal.loop-i-preserved
loop-i-preserved c = let L = c in
    let t = next L.args.n L.loop-i.i L.loop-i.table c.start_form.new.table c.loop-i-test.true c.start_form.ensures in
    rw add-one (omega arith, t ∙ L.loop-i.invariant.1)

pub returns : goal.returns
returns c = let L = c in none L.args.n L.loop-i.i L.loop-i.table c.loop-i-test.false ∙ L.loop-i.invariant.1
