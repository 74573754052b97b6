-- Document 01, "Netlist and board machine": every operand is earlier than its operation, every shift is below the number of digit
-- positions, and every output's symbol is an entry's, after any sequence of steps.
-- Assumes nothing.
use Prim.Native.Nat.{ℕ, zero, suc, ◌+◌, ◌≤◌, ◌<◌}
use mathlib.Core.Path.{◌≡◌, refl, sym, subst}
use mathlib.Core.Bool.{Bool, true, false}
use mathlib.Core.List.{List, [], ◌∷◌, ◌++◌, map}
use native.Mathlib.Omega.{arith}
use lib.ListN.{length, length-append, length-map}
use Rattle.term.specs.declared.Term.{Term}
use Rattle.layout_rules.specs.declared.Operation.{Operation}
use Rattle.layout_rules.specs.declared.Output.{Output}
use Rattle.board_rules.specs.Machine.{Earlier}
use Rattle.board_rules.specs.Netlist.{Limits, OperationLimits, OutputOperand}
use Rattle.elimination_rules.specs.declared.Divisor.{Divisor}
use Rattle.elimination_rules.specs.Rows.{Row, WellFormed, EachRow}
use Rattle.elimination_rules.specs.Elimination.{Eliminated}
use Rattle.elimination_rules.proofs.Order.{DivisorsWithin, steps_well_formed, steps_divisors-within}
use Rattle.sum_rules.specs.Joins.{sign_field, divisor_operation, joined_term}
use Rattle.compile_rules.specs.Compile.{row_operations, operations_of, outputs_of}
use Rattle.sum_rules.specs.Sums.{Summed, nothing, last, join, SummedRows, end, first-row}
use Rattle.sum_rules.specs.SumDepth.{EachTerm}
use Rattle.sum_rules.proofs.Sums.{each_permuted, each_term, each_member}
use Rattle.compile_rules.proofs.Remaining.{remaining_summed}
use Rattle.compile_rules.proofs.Counts.{Stepped, steps_rows}

-- ---- all operations from a symbol on

-- a property of each operation and its symbol, the first one's being given
abbrev pub EachOperation : (ℕ → Operation → Type 0) → ℕ → List Operation → Type 0
EachOperation P symbol [] = Unit {0}
EachOperation P symbol (o ∷ os) = P symbol o × EachOperation P (suc symbol) os

abbrev pub OperationsInRange : Limits → ℕ → List Operation → Type 0
OperationsInRange l symbol os = EachOperation (OperationLimits l) symbol os

pub operands_earlier : (l : Limits) (symbol : ℕ) (os : List Operation) → OperationsInRange l symbol os → Earlier symbol os
operands_earlier l symbol [] h = tt
operands_earlier l symbol (o ∷ os) h = ((h.0.first_earlier, h.0.second_earlier), operands_earlier l (suc symbol) os h.1)

next_symbol : (symbol n : ℕ) → symbol + suc n ≡ suc symbol + n
next_symbol symbol n = omega arith

append_in_range : (l : Limits) (symbol : ℕ) (os ps : List Operation) → OperationsInRange l symbol os → OperationsInRange l (symbol + length os) ps
    → OperationsInRange l symbol (os ++ ps)
append_in_range l symbol [] ps h k = subst (λ (s : ℕ). OperationsInRange l s ps) (omega arith) k
append_in_range l symbol (o ∷ os) ps h k =
    (h.0, append_in_range l (suc symbol) os ps h.1 (subst (λ (s : ℕ). OperationsInRange l s ps) (next_symbol symbol (length os)) k))

-- ---- divisors and joins

sign_in_range : (b : Bool) → sign_field b ≤ 1
unfolding sign_field
sign_in_range false = omega arith
sign_in_range true = omega arith

divisors_in_range : (l : Limits) (symbol : ℕ) (ds : List Divisor) → DivisorsWithin l.positions symbol ds → OperationsInRange l symbol (map divisor_operation ds)
divisors_in_range l symbol [] h = tt
divisors_in_range l symbol (d ∷ ds) h = (
  record {
    sign = sign_in_range d.minus;
    first-shift = h.0.ea;
    second-shift = h.0.eb;
    first_earlier = h.0.a;
    second_earlier = h.0.b;
  },
  divisors_in_range l (suc symbol) ds h.1,
)

-- a term whose symbol is below a limit
abbrev TermWithin : ℕ → ℕ → Term → Type 0
TermWithin positions limit t = (t.exponent < positions) × (t.symbol < limit)

terms_within : (positions limit : ℕ) (r : Row) → WellFormed positions limit r → EachTerm (TermWithin positions limit) r
terms_within positions limit r w = each_member (TermWithin positions limit) r (λ t m. (w.exponents t m, w.symbols t m))

wider : (positions limit next : ℕ) → limit ≤ next → (r : Row) → EachTerm (TermWithin positions limit) r → EachTerm (TermWithin positions next) r
wider positions limit next below = each_term (TermWithin positions limit) (TermWithin positions next) (λ t h. (h.0, omega (arith, h.1)))

module _ (l : Limits) (some : 1 ≤ l.positions) where
  -- what a join leaves: the other terms, and the sum
  after-join : (next : ℕ) (t : Term) (others : Row) → EachTerm (TermWithin l.positions next) others → EachTerm (TermWithin l.positions (suc next)) (joined_term next t ∷ others)
  after-join next t others h = ((some, omega arith), wider l.positions next (suc next) (omega arith) others h)

  summed_in_range : {next : ℕ} {r : Row} {os : List Operation} {o : Output} → Summed next r os o → EachTerm (TermWithin l.positions next) r → OperationsInRange l next os
  summed_in_range nothing h = tt
  summed_in_range (last t) h = tt
  summed_in_range {next} (join t u others p q s) h =
      let k = each_permuted (TermWithin l.positions next) p h in (
        record {
          sign = sign_in_range _;
          first-shift = k.0.0;
          second-shift = k.1.0.0;
          first_earlier = k.0.1;
          second_earlier = k.1.0.1;
        },
        summed_in_range s (each_permuted (TermWithin l.positions (suc next)) q (after-join next t others k.1.1)),
      )

  summed_rows_in_range : (limit : ℕ) {next : ℕ} {rows : List Row} {os : List Operation} {outputs : List Output} → SummedRows next rows os outputs → limit ≤ next
      → EachRow (WellFormed l.positions limit) rows → OperationsInRange l next os
  summed_rows_in_range limit end below w = tt
  summed_rows_in_range limit {next} (first-row {r = r} {os = os} {others = others} s more) below w =
      append_in_range l next os others (summed_in_range s (wider l.positions limit next below r (terms_within l.positions limit r w.0)))
      (summed_rows_in_range limit more (omega arith) w.1)

pub operations_in_range : (l : Limits) (n : ℕ) (rows : List Row) (e : Eliminated) → 1 ≤ l.positions → EachRow (WellFormed l.positions n) rows → Stepped n rows e
    → OperationsInRange l n (operations_of n e)
unfolding operations_of
operations_in_range l n rows e some w s =
    let next : ℕ = n + length e.divisors in
    let made : List Operation = map divisor_operation e.divisors in
    append_in_range l n made (row_operations n e)
    (divisors_in_range l n e.divisors (steps_divisors-within l.positions s w))
    (subst (λ (k : ℕ). OperationsInRange l (n + k) (row_operations n e)) (sym (length-map e.divisors divisor_operation))
    (summed_rows_in_range l some next (remaining_summed n e) (omega arith) (steps_well_formed l.positions s w)))

-- no limit but that on shifts is asked for
abbrev shift_limits : ℕ → Limits
shift_limits positions = record { sample = 0; positions = positions; widest = 0; most = 0 }

pub operations_earlier : (positions n : ℕ) (rows : List Row) (e : Eliminated) → 1 ≤ positions → EachRow (WellFormed positions n) rows → Stepped n rows e → Earlier n (operations_of n e)
operations_earlier positions n rows e some w s =
    operands_earlier (shift_limits positions) n (operations_of n e) (operations_in_range (shift_limits positions) n rows e some w s)

-- ---- outputs of so many symbols: inputs and operations

abbrev pub EachOutput : (Output → Type 0) → List Output → Type 0
EachOutput P [] = Unit {0}
EachOutput P (o ∷ os) = P o × EachOutput P os

abbrev pub OutputsInRange : Limits → ℕ → List Output → Type 0
OutputsInRange l symbols os = EachOutput (OutputOperand l symbols) os

sign-of-output : (b : Bool) → sign_field b ≤ 2
sign-of-output b = omega (arith, sign_in_range b)

never_zero : {A : Type 0} (b : Bool) → sign_field b ≡ 2 → A
never_zero b e = absurd (omega (arith, sign_in_range b))

module _ (l : Limits) (symbols : ℕ) (some : 1 ≤ l.positions) where
  summed_output_in_range : {next : ℕ} {r : Row} {os : List Operation} {o : Output} → Summed next r os o → 1 ≤ symbols → next + length os ≤ symbols
      → EachTerm (TermWithin l.positions next) r → OutputOperand l symbols o
  summed_output_in_range nothing inputs fits h = record { sign = omega arith; shift = some; symbol = inputs; zero = λ e. (refl, refl) }
  summed_output_in_range (last t) inputs fits h = record { sign = sign-of-output _; shift = h.0.0; symbol = omega (arith, h.0.1); zero = never_zero _ }
  summed_output_in_range {next} (join t u others p q s) inputs fits h =
      summed_output_in_range s inputs (omega arith)
      (each_permuted (TermWithin l.positions (suc next)) q (after-join l some next t others (each_permuted (TermWithin l.positions next) p h).1.1))

  summed_outputs_in_range : (limit : ℕ) {next : ℕ} {rows : List Row} {os : List Operation} {outputs : List Output} → SummedRows next rows os outputs
      → (1 ≤ length rows → 1 ≤ symbols) → limit ≤ next → next + length os ≤ symbols → EachRow (WellFormed l.positions limit) rows → OutputsInRange l symbols outputs
  summed_outputs_in_range limit end inputs below fits w = tt
  summed_outputs_in_range limit {next} (first-row {r = r} {os = os} {others = others} s more) inputs below fits w =
      let both : length (os ++ others) ≡ length os + length others = length-append os others in (
        summed_output_in_range s (inputs (omega arith)) (omega arith) (wider l.positions limit next below r (terms_within l.positions limit r w.0)),
        summed_outputs_in_range limit more (λ h. inputs (omega arith)) (omega arith) (omega arith) w.1,
      )

-- where there are rows there are inputs: a zero output has the symbol 0
pub outputs_in_range : (l : Limits) (n : ℕ) (rows : List Row) (e : Eliminated) → 1 ≤ l.positions → (1 ≤ length rows → 1 ≤ n) → EachRow (WellFormed l.positions n) rows → Stepped n rows e
    → OutputsInRange l (n + length (operations_of n e)) (outputs_of n e)
unfolding operations_of
outputs_in_range l n rows e some inputs w s =
    let next : ℕ = n + length e.divisors in
    let made : List Operation = map divisor_operation e.divisors in
    let all : ℕ = n + length (made ++ row_operations n e) in
    summed_outputs_in_range l all some next (remaining_summed n e) (λ h. omega (arith, inputs (omega (arith, steps_rows s)))) (omega arith)
    (omega (arith, length-append made (row_operations n e), length-map e.divisors divisor_operation))
    (steps_well_formed l.positions s w)
