-- `market_forms::entry_of` meets its contract. Assumes nothing.
use Prim.Native.Nat.{ℕ, ◌-◌, ◌≤◌, min}
use mathlib.Core.Path.{◌≡◌, sym, ap, ◌∙◌}
use mathlib.Core.Bool.{true, cond}
use mathlib.Core.List.{List}
use native.Mathlib.Omega.{arith}
use lib.Dec.{leb}
use lib.ListN.{length, take, drop}
use borrow.Author.Tests.{le-leb, lt-leb}
use Rattle.std.specs.Prelude.{is_some}
use Rattle.text.specs.Decimal.{decimal_value}
use Rattle.market_rules.specs.Forms.{leading_digits, is_negative, unsigned, entry_digits, is_entry}
use Rattle.market_forms.specs.Ends.{is_number}
use Rattle.market_forms.proofs.Places.{by_minus, unsigned_part, entry_ends, word_with_minus, word_without_minus}
use Rattle.market_forms.proofs.entry_of.Goals as goal
use Rattle.market_forms.proofs.entry_of.Goals.{then-negative, else-negative}
use Rattle.market_forms.proofs.entry_of.Lts
use Rattle.market_forms.proofs.entry_of.Reads
use Rattle.market_forms.proofs.entry_of.Tie

-- the sign, what is told of the number behind it, and the most that it may be
module _ (c : Lts.Joined1 Tie.the-claims Reads.Pre Reads.Post Tie.handed_clauses) where
  abbrev line : List ℕ
  line = c.args.line.now

  abbrev number : ℕ
  number = c.in_ok-number.number

  abbrev said : ℕ
  said = decimal_value (entry_digits line)

  abbrev most : ℕ
  most = cond (is_negative line) 32768 32767

  sign : c.starts_with-negative.result ≡ is_negative line
  sign = by_minus line _ c.starts_with-negative.ensures.value

  behind : take (length line - c.from.result) (drop c.from.result line) ≡ unsigned line
  behind = unsigned_part line _ c.starts_with-negative.ensures.value _ c.from.ensures

  number-is : number ≡ min said 65535
  number-is = c.in_ok-number.ensures.number ∙ ap (λ (l : List ℕ). min (decimal_value (leading_digits l)) 65535) behind

  most-is : c.if-negative.most ≡ most
  most-is = elim c.if-negative.branch [
    | then-negative w ↦ w.most-is ∙ sym (rw (sym sign ∙ w.if-negative.true))
    | else-negative w ↦ w.most-is ∙ sym (rw (sym sign ∙ w.if-negative.false))
  ]

  most-small : c.if-negative.most ≤ 32768
  most-small = elim c.if-negative.branch [ then-negative w ↦ omega (arith, w.most-is) | else-negative w ↦ omega (arith, w.most-is) ]

  tested : is_entry line ≡ leb said most
  tested = entry_ends line ∙ rw (ap is_number (sym behind) ∙ sym c.in_ok-number.ensures.form)

  module _ (within : number ≤ c.if-negative.most) where
    number-exact : number ≡ said
    number-exact = omega (arith, number-is, most-small)

    is_one : true ≡ is_entry line
    is_one = sym (tested ∙ le-leb said most (omega (arith, number-exact, most-is)))

pub returns-in_err-number-clause-form : goal.returns-in_err-number-clause-form
returns-in_err-number-clause-form c =
    let behind = unsigned_part c.args.line.now _ c.starts_with-negative.ensures.value _ c.from.ensures in
    ap is_some c.from_residual.ensures ∙ sym (entry_ends c.args.line.now ∙ rw (ap is_number (sym behind) ∙ sym c.in_err-number.ensures.form))

pub returns-then-number-most-clause-form : goal.returns-then-number-most-clause-form
returns-then-number-most-clause-form c =
    let joined = c.before.before in
    sym (tested joined ∙ lt-leb (said joined) (most joined) (omega (arith, number-is joined, most-is joined, c.if-number-most.true)))

pub returns-then-negative-2-clause-form : goal.returns-then-negative-2-clause-form
returns-then-negative-2-clause-form c = is_one c.before.before.before.before c.if-number-most.false

pub returns-then-negative-2-clause-word : goal.returns-then-negative-2-clause-word
returns-then-negative-2-clause-word c =
    let joined = c.before.before.before.before in
    let exact = number-exact joined c.if-number-most.false in
    word_with_minus (line joined) (sym (sign joined) ∙ c.if-negative-2.true) _ (omega (arith, exact, most-small joined, c.if-number-most.false)) (omega (arith, c.wrapping_neg.type_inv)) (omega (arith, exact, c.wrapping_neg.ensures))

pub returns-else-negative-2-clause-form : goal.returns-else-negative-2-clause-form
returns-else-negative-2-clause-form c = is_one c.before.before.before c.if-number-most.false

pub returns-else-negative-2-clause-word : goal.returns-else-negative-2-clause-word
returns-else-negative-2-clause-word c =
    let joined = c.before.before.before in
    number-exact joined c.if-number-most.false ∙ word_without_minus (line joined) (sym (sign joined) ∙ c.if-negative-2.false)
