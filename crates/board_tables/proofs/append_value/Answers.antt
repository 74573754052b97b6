-- `board_tables::append_value` meets its contract. Assumes nothing.
use mathlib.Core.Path.{◌≡◌, ap}
use Prim.Native.Nat.{◌^◌, ◌<◌}
use mathlib.Core.List.{List}
use lib.IntN.{ℤ}
use lib.ListN.{set}
use lib.Signed.{mag}
use mir.Syntax.{w64}
use mir.Val.{SFits, to_z, of_z}
use Rattle.layout_rules.specs.declared.Operation.{Operation}
use Rattle.integers.proofs.Held.{is, held, call_result}
use Rattle.board_rules.specs.Machine.{entry_at, shifted, joined, operation_value}
use Rattle.board_tables.proofs.append_value.Goals as goal

-- what is written, over plain numbers
value-is : (values : List ℤ) (o : Operation) (r : ℤ) → SFits w64 (entry_at values o.a) → SFits w64 (entry_at values o.b) → mag r < 2 ^ 63
    → r ≡ joined o.sign (shifted (to_z w64 (of_z w64 (entry_at values o.a))) o.sa) (shifted (to_z w64 (of_z w64 (entry_at values o.b))) o.sb)
    → to_z w64 (of_z w64 r) ≡ operation_value values o
value-is values o r f g ok e = call_result w64 ok (rw (is (held f), is (held g)) at e)

pub returns : goal.returns
returns c = let s = c in
    ap (set s.args.values.now s.args.symbol) (value-is s.args.values.now s.args.o c.combined-z.result
    (record { sfits = c.x-1.given }) (record { sfits = c.y-1.given }) c.combined-z.type_inv c.combined-z.ensures)
