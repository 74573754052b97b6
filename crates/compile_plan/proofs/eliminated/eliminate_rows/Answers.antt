-- `compile_plan::eliminated::eliminate_rows` meets its contract. Assumes nothing.
use native.Mathlib.Omega.{arith}
use native.Mathlib.Numerals.{add-one}
use Prim.Native.Nat.{suc, ◌+◌, ◌-◌, ◌≤◌}
use mathlib.Core.Path.{◌≡◌, ap, ◌∙◌}
use mathlib.Core.List.{[], ◌∷◌, ◌++◌, map}
use Rattle.layout_rules.specs.declared.Operation.{Operation}
use Rattle.limits.specs.Limits.{max_operations}
use Rattle.elimination_rules.specs.declared.Divisor.{Divisor}
use Rattle.elimination_rules.specs.Rows.{plain_count}
use Rattle.elimination_rules.specs.Elimination.{shallowest_first, rows_after, Eliminated, eliminate}
use Rattle.elimination_rows.specs.State.{rows_terms, Ready}
use Rattle.compile_lists.specs.Lists.{operations_list}
use Rattle.elimination_kept.specs.Table.{scored_of}
use Rattle.elimination_state.proofs.Next.{table_fits}
use Rattle.sum_rules.specs.Joins.{divisor_operation}
use Rattle.compile_plan.proofs.EndLaws.{before-first, symbols-few, best_picked, length-made, spent_is, ended_is, plain_less, next_within, within, depths-small, proper, before_next}
use Rattle.compile_plan.proofs.eliminated.eliminate_rows.Goals as goal
use Rattle.compile_plan.proofs.eliminated.eliminate_rows.Goals.{else-loop-test, then-loop-test+then-best-lt2}

pub loop-init : goal.loop-init
loop-init c =
    let st = c.start-state.result in
    let e = c.start-state.ensures in
    let none : c.args.most - 0 ≡ c.args.most = omega arith in
    let ready : Ready c.args.n (rows_terms st.rows) = rw e.0 c.requires.0 in
    let few : plain_count (rows_terms st.rows) ≤ max_operations = rw e.0 c.requires.2 in (
      rw (none, e.1, c.no_operations-operations.ensures) (before-first c.args.most c.args.n (rows_terms st.rows) c.filled-depths.result ready c.requires.1 few c.filled-depths.ensures),
      rw e.0 e.2,
    )

pub pick-best-requires : goal.pick-best-requires
pick-best-requires c =
    let l = c.loop in
    table_fits l.state.symbol (symbols-few l.invariant.0 c.requires.1) (rows_terms l.state.rows) l.invariant.0.ready l.kept l.invariant.1.kept

pub operation_depth-requires : goal.operation_depth-requires
operation_depth-requires c =
    let l = c.loop in
    let b = l.invariant.0 in
    let best = scored_of c.pick-best.result in
    let picked = best_picked b c.requires.1 l.kept l.invariant.1.kept best c.pick-best.ensures in
    let two : 2 ≤ best.score = omega (arith, c.if-best-lt2.false) in
    let w = within b best picked two in
    let next = next_within b best picked two c.requires.1 in
    rw (c.divisor_operation-operation.ensures, c.divisor_of_key-divisor.ensures) record {
      a_lt_max_symbols = (omega (arith, w.a, next), omega (arith, w.b, next));
      a_bound = depths-small b best picked two;
    }

pub bounds-depths-state : goal.bounds-depths-state
bounds-depths-state c =
    let l = c.loop in
    let b = l.invariant.0 in
    let best = scored_of c.pick-best.result in
    let picked = best_picked b c.requires.1 l.kept l.invariant.1.kept best c.pick-best.ensures in
    let two : 2 ≤ best.score = omega (arith, c.if-best-lt2.false) in
    omega (arith, next_within b best picked two c.requires.1)

pub push-requires : goal.push-requires
push-requires c =
    let l = c.loop in
    let b = l.invariant.0 in
    let best = scored_of c.pick-best.result in
    let picked = best_picked b c.requires.1 l.kept l.invariant.1.kept best c.pick-best.ensures in
    let two : 2 ≤ best.score = omega (arith, c.if-best-lt2.false) in
    omega (arith, length-made b, b.few, plain_less b best picked two, two)

pub step-state-requires : goal.step-state-requires
step-state-requires c =
    let l = c.loop in
    let b = l.invariant.0 in
    let best = scored_of c.pick-best.result in
    let picked = best_picked b c.requires.1 l.kept l.invariant.1.kept best c.pick-best.ensures in
    let two : 2 ≤ best.score = omega (arith, c.if-best-lt2.false) in
    let w = within b best picked two in
    rw c.divisor_of_key-divisor.ensures (
      b.ready,
      next_within b best picked two c.requires.1,
      record { proper = proper b best picked two; a = w.a; b = w.b; ea = w.ea; eb = w.eb },
      l.invariant.1,
    )

pub loop-preserved : goal.loop-preserved
loop-preserved c =
    let l = c.loop in
    let b = l.invariant.0 in
    let best = scored_of c.pick-best.result in
    let picked = best_picked b c.requires.1 l.kept l.invariant.1.kept best c.pick-best.ensures in
    let two : 2 ≤ best.score = omega (arith, c.if-best-lt2.false) in
    let most = c.args.most in
    let step = c.step-state.ensures in
    let operation = divisor_operation best.divisor in
    let o : c.divisor_operation-operation.result ≡ operation = c.divisor_operation-operation.ensures ∙ ap divisor_operation c.divisor_of_key-divisor.ensures in
    let all = c.push.ensures ∙ ap (λ (x : Operation). operations_list l.operations ++ (x ∷ [])) o in
    let after = step.0 ∙ ap (λ (e : Divisor). rows_after l.state.symbol e (rows_terms l.state.rows)) c.divisor_of_key-divisor.ensures in
    let one_less : most - l.counter ≡ suc (most - (l.counter + 1)) = omega (arith, c.loop-test.true) in (
      rw (step.1, add-one l.state.symbol, after, c.operation_depth.ensures, o)
          (before_next b best picked two c.requires.1 (most - (l.counter + 1)) one_less (operations_list c.push.new.self) all),
      step.2,
    )

pub returns : goal.returns
returns c =
    let l = c.loop in
    let b = l.invariant.0 in
    let n = c.args.n in
    let first = c.start-state.ensures.0 in
    let end : Eliminated = record { divisors = b.made; replacements = l.replacements; remaining_rows = rows_terms l.state.rows } in
    let settled : end ≡ eliminate (shallowest_first n) c.args.most n [] (rows_terms c.start-state.result.rows) =
    elim c.loop-test.branch [
      | else-loop-test w ↦ spent_is b (omega (arith, w.loop-test.false))
      | then-loop-test+then-best-lt2 w ↦ let best = scored_of w.pick-best.result in
          ended_is b best (best_picked b c.requires.1 l.kept l.invariant.1.kept best w.pick-best.ensures) (omega (arith, w.if-best-lt2.true))
    ] in
    let e : end ≡ eliminate (shallowest_first n) c.args.most n [] (rows_terms c.args.rows) = settled ∙ ap (eliminate (shallowest_first n) c.args.most n []) first in
    record {
      eliminated_of = record {
        operations = b.operations-made ∙ ap (λ (x : Eliminated). map divisor_operation x.divisors) e;
        depths = b.depths-held;
        replacements = ap (λ (x : Eliminated). x.replacements) e;
        rows = ap (λ (x : Eliminated). x.remaining_rows) e;
      };
      kept = l.invariant.1.kept;
    }
