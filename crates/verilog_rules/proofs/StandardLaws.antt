-- The sentence on w is the rule of IEEE 1364-2005 for a module's expressions, and their text is what the standard writes.
-- Assumes nothing.
use mathlib.Core.Path.{◌≡◌, refl, ap, ap₂, ◌∙◌}
use mathlib.Core.Bool.{true}
use mathlib.Core.List.{List, ◌++◌}
use Prim.Native.Nat.{ℕ, zero, suc, ◌*◌, ◌^◌, ◌<◌, max}
use native.Mathlib.Omega.{arith}
use native.Mathlib.Nat.{mod-eq_of_lt, zero-mod}
use lib.IntN.{pos, neg_ℤ, ◌+ℤ◌, ◌-ℤ◌}
use Rattle.layout_rules.specs.declared.Operation.{Operation}
use Rattle.layout_rules.specs.declared.Output.{Output}
use Rattle.board_rules.specs.Netlist.{IsOperation, IsOutput}
use Rattle.netlist_rules.specs.Exact.{read_limits}
use Rattle.text.specs.Decimal.{decimal as digits, number}
use Rattle.text.specs.Text.{ascii}
use Rattle.verilog_rules.specs.Module.{Operand, operand, Expression, sum, difference, plain, negated, constant, Assignment, joined_operands, signed_operand, wire_of, output_of}
use Rattle.verilog_rules.specs.Meaning.{Signal, signal, signal_at, value, modulo, twos_complement, expression_width, operand_bits, expression_bits, assigned}
use Rattle.verilog_rules.specs.Standard.{decimal, decimal_width, converted, tree_bits, tree_assigned, tree_width, tree_signed, tree_text, operand_tree, tree, assigned_by_standard}
use Rattle.verilog_rules.specs.Text.{operand_text, expression_text}
use Rattle.verilog_rules.proofs.Bits.{twos_low}

-- shift amounts are far from the 32 bits of their constants
abbrev pub ShortShifts : Expression → Type 0
ShortShifts (sum a b) = (a.shift < 2 ^ 31) × (b.shift < 2 ^ 31)
ShortShifts (difference a b) = (a.shift < 2 ^ 31) × (b.shift < 2 ^ 31)
ShortShifts (plain a) = a.shift < 2 ^ 31
ShortShifts (negated a) = a.shift < 2 ^ 31
ShortShifts constant = Unit {0}

tree-width : (signals : List Signal) (e : Expression) → tree_width signals (tree e) ≡ expression_width signals e
tree-width signals (sum a b) = refl
tree-width signals (difference a b) = refl
tree-width signals (plain a) = refl
tree-width signals (negated a) = refl
tree-width signals constant = refl

tree-signed : (e : Expression) → tree_signed (tree e) ≡ true
tree-signed (sum a b) = refl
tree-signed (difference a b) = refl
tree-signed (plain a) = refl
tree-signed (negated a) = refl
tree-signed constant = refl

amount : (signals : List Signal) (k : ℕ) → k < 2 ^ 31 → tree_bits decimal_width true signals (decimal k) ≡ k
unfolding tree_bits converted modulo
amount signals k h = ap (modulo 32) (twos_low 32 k h) ∙ mod-eq_of_lt (omega arith)

zero_bits : (w : ℕ) → converted w true 1 0 ≡ 0
unfolding converted modulo twos_complement
zero_bits w = zero-mod (2 ^ w)

module _ (w : ℕ) (signals : List Signal) where
  operand-tree : (a : Operand) → a.shift < 2 ^ 31 → tree_bits w true signals (operand_tree a) ≡ operand_bits w signals a
  unfolding tree_bits operand_bits converted
  operand-tree a h = ap (λ k. modulo w (pos (modulo w (value (signal_at signals a.symbol)) * 2 ^ k))) (amount signals a.shift h)

  tree-bits : (e : Expression) → ShortShifts e → tree_bits w true signals (tree e) ≡ expression_bits w signals e
  unfolding tree_bits expression_bits converted
  tree-bits (sum a b) h = ap₂ (λ x y. modulo w (pos x +ℤ pos y)) (operand-tree a h.0) (operand-tree b h.1)
  tree-bits (difference a b) h = ap₂ (λ x y. modulo w (pos x -ℤ pos y)) (operand-tree a h.0) (operand-tree b h.1)
  tree-bits (plain a) h = operand-tree a h
  tree-bits (negated a) h = ap (λ x. modulo w (neg_ℤ (pos x))) (operand-tree a h)
  tree-bits constant h = zero_bits w

pub standard_same : (signals : List Signal) (a : Assignment) → ShortShifts a.expression → assigned_by_standard signals a ≡ assigned signals a
unfolding tree_assigned assigned
standard_same signals a h =
    let t = a.width in
    let e = a.expression in
    ap₂ (λ v f. signal t (pos (tree_bits (max t v) f signals (tree e)))) (tree-width signals e) (tree-signed e)
    ∙ ap (λ k. signal t (pos k)) (tree-bits (max t (expression_width signals e)) signals e h)

-- ---- the text

zero-text : ascii "1'sb0" ≡ number 1 ++ ascii "'sb" ++ number 0
unfolding digits number
zero-text = refl

-- what is written is the expression of which standard_same speaks
pub standard_text : (inputs : ℕ) (e : Expression) → expression_text inputs e ≡ tree_text inputs (tree e)
unfolding expression_text operand_text tree_text
standard_text inputs (sum a b) = refl
standard_text inputs (difference a b) = refl
standard_text inputs (plain a) = refl
standard_text inputs (negated a) = refl
standard_text inputs constant = zero-text

-- so of every operation and output of a netlist that read accepts
module _ {s n : ℕ} {os : List Operation} where
  pub wire_standard : {before : List Operation} {o : Operation} → IsOperation (read_limits s) n os before o → (signals : List Signal)
      → assigned_by_standard signals (wire_of o) ≡ assigned signals (wire_of o)
  wire_standard {o = o} is signals = standard_same signals (wire_of o) (short o.sign)
    where
      short : (sign : ℕ) → ShortShifts (joined_operands sign (operand o.a o.sa) (operand o.b o.sb))
      short zero = (omega (arith, is.limits.first-shift), omega (arith, is.limits.second-shift))
      short (suc sign) = (omega (arith, is.limits.first-shift), omega (arith, is.limits.second-shift))

  pub output_standard : {o : Output} → IsOutput (read_limits s) n os o → (signals : List Signal)
      → assigned_by_standard signals (output_of o) ≡ assigned signals (output_of o)
  output_standard {o = o} is signals = standard_same signals (output_of o) (short o.sign)
    where
      short : (sign : ℕ) → ShortShifts (signed_operand sign (operand o.symbol o.shift))
      short zero = omega (arith, is.limits.operand.shift)
      short (suc zero) = omega (arith, is.limits.operand.shift)
      short (suc (suc sign)) = tt
