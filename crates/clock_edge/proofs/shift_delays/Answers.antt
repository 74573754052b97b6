-- `clock_edge::shift_delays` meets its contract. Assumes nothing.
use mathlib.Core.Path.{ap, ◌∙◌}
use native.Mathlib.Numerals.{add-one}
use native.Mathlib.Omega.{arith}
use lib.ListN.{get_or}
use mir.Syntax.{w64}
use Rattle.integers.proofs.Held.{call_result}
use Rattle.clock_rules.specs.InPlace.{shifted_in}
use Rattle.clock_edge.proofs.ShiftLaws.{started, at-entry, entry-next, entries-all}
use Rattle.clock_edge.proofs.shift_delays.Goals as goal

pub loop-symbol-init : goal.loop-symbol-init
loop-symbol-init c = rw c.operations-place.ensures (started c.args.schedule.now c.args.samples.now c.args.store.now c.requires)

pub value_at-value-requires : goal.value_at-value-requires
value_at-value-requires c = let l = c.loop-symbol in
    (at-entry c.args.schedule.now c.args.samples.now c.args.store.now c.requires l.symbol-index l.place l.store l.invariant (omega arith)).among

pub offset_bounds-schedule-symbol : goal.offset_bounds-schedule-symbol
offset_bounds-schedule-symbol c = let l = c.loop-symbol in
    let A = at-entry c.args.schedule.now c.args.samples.now c.args.store.now c.requires l.symbol-index l.place l.store l.invariant (omega arith) in omega (arith, A.below)

pub bounds-schedule-symbol : goal.bounds-schedule-symbol
bounds-schedule-symbol c = let l = c.loop-symbol in
    (at-entry c.args.schedule.now c.args.samples.now c.args.store.now c.requires l.symbol-index l.place l.store l.invariant (omega arith)).below

pub shift_in-requires : goal.shift_in-requires
shift_in-requires c = let l = c.loop-symbol in
    (at-entry c.args.schedule.now c.args.samples.now c.args.store.now c.requires l.symbol-index l.place l.store l.invariant (omega arith)).room

pub overflow_add-place : goal.overflow_add-place
overflow_add-place c = let l = c.loop-symbol in
    omega (arith, (at-entry c.args.schedule.now c.args.samples.now c.args.store.now c.requires l.symbol-index l.place l.store l.invariant (omega arith)).room)

pub loop-symbol-preserved : goal.loop-symbol-preserved
loop-symbol-preserved c = let l = c.loop-symbol in let longest = c.args.schedule.now.longest.now in let symbol = get_or c.args.schedule.now.waiting.now l.symbol-index 0 in
    rw add-one (entry-next c.args.schedule.now c.args.samples.now c.args.store.now c.requires l.symbol-index l.place l.store l.invariant (omega arith) c.shift_in.new.store
    (c.shift_in.ensures ∙ ap (shifted_in l.store l.place (get_or longest symbol 0)) (call_result w64 c.value_at-value.type_inv c.value_at-value.ensures)))

pub returns : goal.returns
returns c = let l = c.loop-symbol in
    entries-all c.args.schedule.now c.args.samples.now c.args.store.now c.requires l.symbol-index l.place l.store l.invariant (omega arith)
