-- One assignment: worked modulo 2^w and cut to the target, it gives the expression's value in whole numbers, where that lies within the
-- target's width.
-- Assumes nothing.
use mathlib.Core.Path.{◌≡◌, refl}
use Prim.Native.Nat.{ℕ, zero, suc, ◌^◌, ◌≤◌, max}
use native.Mathlib.Omega.{arith}
use lib.IntN.{ℤ, pos, neg_ℤ, ◌+ℤ◌, ◌-ℤ◌}
use mathlib.Core.List.{List}
use Rattle.integers.proofs.Congruence.{Congruent, congruent_same, congruent_sym, congruent_trans, congruent_sum, congruent_difference, congruent_negation, congruent_product}
use Rattle.board_rules.specs.Machine.{shifted, joined, with_sign}
use Rattle.board_rules.specs.Width.{Within}
use Rattle.verilog_rules.specs.Module.{Operand, Expression, sum, difference, plain, negated, constant, Assignment, joined_operands, signed_operand}
use Rattle.verilog_rules.specs.Meaning.{modulo, Signal, value, signal, signal_at, expression_width, operand_bits, expression_bits, assigned}
use Rattle.verilog_rules.proofs.Bits.{congruent_narrower, modulo_congruent, value-of_congruent, same-of_congruent}

-- ---- in whole numbers, where the signal of a symbol has the value v of it

abbrev pub operand_value : (ℕ → ℤ) → Operand → ℤ
operand_value v a = shifted (v a.symbol) a.shift

abbrev pub expression_value : (ℕ → ℤ) → Expression → ℤ
expression_value v (sum a b) = operand_value v a +ℤ operand_value v b
expression_value v (difference a b) = operand_value v a -ℤ operand_value v b
expression_value v (plain a) = operand_value v a
expression_value v (negated a) = neg_ℤ (operand_value v a)
expression_value v constant = pos 0

abbrev pub value_at : List Signal → ℕ → ℤ
value_at signals symbol = value (signal_at signals symbol)

pub joined-value : (v : ℕ → ℤ) (sign : ℕ) (a b : Operand) → expression_value v (joined_operands sign a b) ≡ joined sign (operand_value v a) (operand_value v b)
joined-value v zero a b = refl
joined-value v (suc sign) a b = refl

pub signed-value : (v : ℕ → ℤ) (sign : ℕ) (a : Operand) → expression_value v (signed_operand sign a) ≡ with_sign sign (operand_value v a)
signed-value v zero a = refl
signed-value v (suc zero) a = refl
signed-value v (suc (suc sign)) a = refl

-- ---- modulo 2^w

module _ (w : ℕ) (signals : List Signal) where
  operand_congruent : (a : Operand) → Congruent (2 ^ w) (pos (operand_bits w signals a)) (operand_value (value_at signals) a)
  unfolding operand_bits
  operand_congruent a =
      let z = value_at signals a.symbol in
      congruent_trans (modulo_congruent w (shifted (pos (modulo w z)) a.shift)) (congruent_product (2 ^ a.shift) (modulo_congruent w z))

  expression_congruent : (e : Expression) → Congruent (2 ^ w) (pos (expression_bits w signals e)) (expression_value (value_at signals) e)
  unfolding expression_bits
  expression_congruent (sum a b) =
      congruent_trans (modulo_congruent w (pos (operand_bits w signals a) +ℤ pos (operand_bits w signals b)))
      (congruent_sum (operand_congruent a) (operand_congruent b))
  expression_congruent (difference a b) =
      congruent_trans (modulo_congruent w (pos (operand_bits w signals a) -ℤ pos (operand_bits w signals b)))
      (congruent_difference (operand_congruent a) (operand_congruent b))
  expression_congruent (plain a) = operand_congruent a
  expression_congruent (negated a) =
      congruent_trans (modulo_congruent w (neg_ℤ (pos (operand_bits w signals a)))) (congruent_negation (operand_congruent a))
  expression_congruent constant = congruent_same refl

-- ---- cut to the target

-- worked modulo 2^w for any w from the target's width t on, a tool gets the value
worked_exact : (w t : ℕ) (signals : List Signal) (e : Expression) → 1 ≤ t → t ≤ w → Within t (expression_value (value_at signals) e)
    → value (signal t (pos (expression_bits w signals e))) ≡ expression_value (value_at signals) e
worked_exact w t signals e l le h = value-of_congruent l h (congruent_narrower t le (expression_congruent w signals e))

pub assigned_exact : (signals : List Signal) (a : Assignment) → 1 ≤ a.width → Within a.width (expression_value (value_at signals) a.expression)
    → value (assigned signals a) ≡ expression_value (value_at signals) a.expression
unfolding assigned
assigned_exact signals a l h = worked_exact _ a.width signals a.expression l (omega arith) h

-- "modulo 2^w" for the target's width alone, or any larger one, reads the same, even where the value lies outside: sums, differences and
-- shifts to the left give their low bits from the operands' low bits. It is the signs of narrower operands that must be extended to w
pub any_work_width : (w : ℕ) (signals : List Signal) (a : Assignment) → 1 ≤ a.width → a.width ≤ w
    → value (signal a.width (pos (expression_bits w signals a.expression))) ≡ value (assigned signals a)
unfolding assigned
any_work_width w signals a l le =
    let t = a.width in
    let e = a.expression in
    let v = max t (expression_width signals e) in
    same-of_congruent l (congruent_trans (congruent_narrower t le (expression_congruent w signals e))
    (congruent_sym (congruent_narrower t (omega arith) (expression_congruent v signals e))))
