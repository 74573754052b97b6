-- `clock_edge::shift_in` meets its contract. Assumes nothing.
use Prim.Native.Nat.{ℕ, suc, ◌+◌, ◌-◌, ◌≤◌, ◌<◌}
use mathlib.Core.Path.{◌≡◌, refl, sym, ap, ap₂, ◌∙◌}
use mathlib.Core.List.{List}
use native.Mathlib.Numerals.{add-one}
use native.Mathlib.Omega.{arith}
use lib.IntN.{ℤ}
use lib.ListN.{set, length-set}
use mir.Syntax.{w64}
use mir.Val.{to_z}
use Rattle.integers.proofs.Held.{is, held, call_result}
use Rattle.board_rules.specs.Machine.{entry_at}
use Rattle.clock_rules.specs.InPlace.{shifted_in}
use Rattle.clock_edge.proofs.shift_in.Goals as goal

-- the definition's clauses, in the loop's terms
shift-next : (store : List ℤ) (place end : ℕ) (value : ℤ) → place < end
    → shifted_in (set store place value) (place + 1) (end - (place + 1)) (entry_at store place) ≡ shifted_in store place (end - place) value
unfolding shifted_in
shift-next store place end value h = let e : end - place ≡ suc (end - suc place) = omega arith in rw (add-one, e) refl

shift_none : (store : List ℤ) (place end : ℕ) (value : ℤ) → end ≤ place → shifted_in store place (end - place) value ≡ store
unfolding shifted_in
shift_none store place end value h = let e : end - place ≡ 0 = omega arith in rw e refl

pub loop-at-preserved : goal.loop-at-preserved
loop-at-preserved c = let l = c.loop-at in let end = c.args.place + c.args.count in (
  length-set l.store l.at c.replace-carried.new.dest ∙ l.invariant.0,
  ap₂ (λ (new old : ℤ). shifted_in (set l.store l.at new) (l.at + 1) (end - (l.at + 1)) old) c.replace-carried.ensures.after (call_result w64 c.replace-carried.type_inv c.replace-carried.ensures.value)
      ∙ shift-next l.store l.at end (to_z w64 l.carried-bits) (omega arith)
      ∙ l.invariant.1,
)

pub returns : goal.returns
returns c = let l = c.loop-at in
    sym (shift_none l.store l.at (c.args.place + c.args.count) (to_z w64 l.carried-bits) (omega arith))
    ∙ l.invariant.1
    ∙ ap (shifted_in c.args.store.now c.args.place c.args.count) (is (held c.ranges.value))
