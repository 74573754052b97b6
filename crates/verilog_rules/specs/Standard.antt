-- IEEE 1364-2005, sections 3 to 5, for the operators that a module uses: how wide and of which sign an expression is worked out, and how
-- it is written. The sentence on w (Meaning) is this rule, and the text of an assignment (Text) is so written; proofs/StandardLaws.antt
-- has the laws. Sections are cited from memory.
-- Assumes nothing.
use Rattle.std.specs.Prelude.{ℕ, ◌*◌, ◌^◌, max, Bool, true, ◌&&◌, cond, List, ◌++◌, pos, neg_ℤ, ◌+ℤ◌, ◌-ℤ◌}
use Rattle.text.specs.Decimal.{number}
use Rattle.text.specs.Text.{ascii}
use Rattle.verilog_rules.specs.Module.{Operand, Expression, sum, difference, plain, negated, constant, Assignment}
use Rattle.verilog_rules.specs.Meaning.{Signal, signal, signal_at, modulo, twos_complement}
use Rattle.verilog_rules.specs.Text.{name}

-- an expression: a declared signed vector, by its symbol; a decimal number; a constant, signed or not, of a width, with its bits; a <<< b;
-- a + b; a - b; -a
pub data Tree : Type 0 where
  vector decimal : ℕ → Tree
  literal : Bool → ℕ → ℕ → Tree
  shift_left add subtract : Tree → Tree → Tree
  negate : Tree → Tree

-- 3.5.1: a decimal number without a width is signed, and has "at least 32" bits
abbrev pub decimal_width : ℕ
decimal_width = 32

-- 5.4.1, table 5-22: the width of an expression by itself; a shift's is that of its left operand
abbrev pub tree_width : List Signal → Tree → ℕ
tree_width signals (vector symbol) = (signal_at signals symbol).width
tree_width signals (decimal k) = decimal_width
tree_width signals (literal is_signed v bits) = v
tree_width signals (shift_left a b) = tree_width signals a
tree_width signals (add a b) = max (tree_width signals a) (tree_width signals b)
tree_width signals (subtract a b) = max (tree_width signals a) (tree_width signals b)
tree_width signals (negate a) = tree_width signals a

-- 5.5.1: an expression is signed if all its operands are; the right operand of a shift has no say (5.1.12)
abbrev pub tree_signed : Tree → Bool
tree_signed (vector symbol) = true
tree_signed (decimal k) = true
tree_signed (literal is_signed v bits) = is_signed
tree_signed (shift_left a b) = tree_signed a
tree_signed (add a b) = tree_signed a && tree_signed b
tree_signed (subtract a b) = tree_signed a && tree_signed b
tree_signed (negate a) = tree_signed a

-- 5.5.2: an operand of v bits is converted to the width w; its sign is extended only if the whole expression is signed
unfoldable pub converted : ℕ → Bool → ℕ → ℕ → ℕ
unfolding modulo twos_complement
converted w is_signed v bits = cond is_signed (modulo w (twos_complement v bits)) (modulo w (pos bits))

-- 5.5.2: width and sign of the whole go down to its operands; the amount of a shift is worked out by itself, and as an unsigned number
unfoldable pub tree_bits : ℕ → Bool → List Signal → Tree → ℕ
unfolding modulo converted
tree_bits w is_signed signals (vector symbol) = converted w is_signed (signal_at signals symbol).width (signal_at signals symbol).bits
tree_bits w is_signed signals (decimal k) = converted w is_signed decimal_width k
tree_bits w is_signed signals (literal f v bits) = converted w is_signed v bits
tree_bits w is_signed signals (shift_left a b) =
    modulo w (pos (tree_bits w is_signed signals a * 2 ^ tree_bits (tree_width signals b) (tree_signed b) signals b))
tree_bits w is_signed signals (add a b) = modulo w (pos (tree_bits w is_signed signals a) +ℤ pos (tree_bits w is_signed signals b))
tree_bits w is_signed signals (subtract a b) = modulo w (pos (tree_bits w is_signed signals a) -ℤ pos (tree_bits w is_signed signals b))
tree_bits w is_signed signals (negate a) = modulo w (neg_ℤ (pos (tree_bits w is_signed signals a)))

-- 5.4.1 and 6.1: the right side of an assignment has the larger of its own and the target's width, and only its own sign; then it is cut
-- to the target's width t
unfoldable pub tree_assigned : List Signal → ℕ → Tree → Signal
unfolding modulo tree_bits
tree_assigned signals t e = signal t (pos (tree_bits (max t (tree_width signals e)) (tree_signed e) signals e))

-- ---- how it is written

-- of so many inputs; a shift binds looser than a sum, so it stands in parentheses. A constant is of one bit here, as 1'sb0
unfoldable pub tree_text : ℕ → Tree → List ℕ
tree_text inputs (vector symbol) = name inputs symbol
tree_text inputs (decimal k) = number k
tree_text inputs (literal is_signed v bits) = number v ++ cond is_signed (ascii "'sb") (ascii "'b") ++ number bits
tree_text inputs (shift_left a b) = ascii "(" ++ tree_text inputs a ++ ascii " <<< " ++ tree_text inputs b ++ ascii ")"
tree_text inputs (add a b) = tree_text inputs a ++ ascii " + " ++ tree_text inputs b
tree_text inputs (subtract a b) = tree_text inputs a ++ ascii " - " ++ tree_text inputs b
tree_text inputs (negate a) = ascii "-" ++ tree_text inputs a

-- ---- what a module's assignments are

abbrev pub operand_tree : Operand → Tree
operand_tree a = shift_left (vector a.symbol) (decimal a.shift)

-- a zero output is the signed constant of one bit, 1'sb0
abbrev pub tree : Expression → Tree
tree (sum a b) = add (operand_tree a) (operand_tree b)
tree (difference a b) = subtract (operand_tree a) (operand_tree b)
tree (plain a) = operand_tree a
tree (negated a) = negate (operand_tree a)
tree constant = literal true 1 0

abbrev pub assigned_by_standard : List Signal → Assignment → Signal
assigned_by_standard signals a = tree_assigned signals a.width (tree a.expression)
