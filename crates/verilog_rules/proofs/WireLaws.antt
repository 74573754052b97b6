-- The wires in order: earlier signals are kept, and each wire is what its assignment says of all signals together.
-- Assumes nothing.
use mathlib.Core.Path.{◌≡◌, refl, sym, ap, ap₂, ◌∙◌}
use mathlib.Core.List.{List, [], ◌∷◌, ◌++◌}
use Prim.Native.Nat.{ℕ, zero, suc, ◌+◌, ◌<◌, max}
use native.Mathlib.Omega.{arith}
use lib.IntN.{pos, neg_ℤ, ◌+ℤ◌, ◌-ℤ◌}
use lib.ListN.{length, length-append, get_or-append}
use lib.Seq.{get_or_at}
use Rattle.board_rules.specs.Machine.{shifted}
use Rattle.verilog_rules.specs.Module.{Operand, Expression, sum, difference, plain, negated, constant, Assignment, joined_operands}
use Rattle.verilog_rules.specs.Meaning.{modulo, Signal, value, signal, signal_at, expression_width, operand_bits, expression_bits, assigned, wire_signals}

wires-append : (signals : List Signal) (ws vs : List Assignment) → wire_signals signals (ws ++ vs) ≡ wire_signals (wire_signals signals ws) vs
unfolding wire_signals
wires-append signals [] vs = refl
wires-append signals (a ∷ ws) vs = wires-append (signals ++ (assigned signals a ∷ [])) ws vs

length-wires : (signals : List Signal) (ws : List Assignment) → length (wire_signals signals ws) ≡ length signals + length ws
unfolding wire_signals
length-wires signals [] = omega arith
length-wires signals (a ∷ ws) =
    let v : List Signal = assigned signals a ∷ [] in
    omega (arith, length-wires (signals ++ v) ws, length-append signals v)

-- earlier signals are kept
pub wires_keep : (signals : List Signal) (ws : List Assignment) (symbol : ℕ) → symbol < length signals
    → signal_at (wire_signals signals ws) symbol ≡ signal_at signals symbol
unfolding wire_signals
wires_keep signals [] symbol h = refl
wires_keep signals (a ∷ ws) symbol h =
    let v : List Signal = assigned signals a ∷ [] in
    wires_keep (signals ++ v) ws symbol (omega (arith, length-append signals v)) ∙ get_or-append signals v (signal 1 (pos 0)) symbol h

-- every operand is the signal of a symbol below this one
abbrev pub Reads : ℕ → Expression → Type 0
Reads symbol (sum a b) = (a.symbol < symbol) × (b.symbol < symbol)
Reads symbol (difference a b) = (a.symbol < symbol) × (b.symbol < symbol)
Reads symbol (plain a) = a.symbol < symbol
Reads symbol (negated a) = a.symbol < symbol
Reads symbol constant = Unit {0}

pub joined_reads : (symbol sign : ℕ) (a b : Operand) → a.symbol < symbol → b.symbol < symbol → Reads symbol (joined_operands sign a b)
joined_reads symbol zero a b first second = (first, second)
joined_reads symbol (suc sign) a b first second = (first, second)

-- an assignment reads no more than its operands
module _ (signals others : List Signal) (symbol : ℕ) (same : (j : ℕ) → j < symbol → signal_at signals j ≡ signal_at others j) where
  operand_same : (w : ℕ) (a : Operand) → a.symbol < symbol → operand_bits w signals a ≡ operand_bits w others a
  unfolding operand_bits
  operand_same w a h = ap (λ (x : Signal). modulo w (shifted (pos (modulo w (value x))) a.shift)) (same a.symbol h)

  width_same : (e : Expression) → Reads symbol e → expression_width signals e ≡ expression_width others e
  width_same (sum a b) h = ap₂ (λ (x y : Signal). max x.width y.width) (same a.symbol h.0) (same b.symbol h.1)
  width_same (difference a b) h = ap₂ (λ (x y : Signal). max x.width y.width) (same a.symbol h.0) (same b.symbol h.1)
  width_same (plain a) h = ap (λ (x : Signal). x.width) (same a.symbol h)
  width_same (negated a) h = ap (λ (x : Signal). x.width) (same a.symbol h)
  width_same constant h = refl

  bits-same : (w : ℕ) (e : Expression) → Reads symbol e → expression_bits w signals e ≡ expression_bits w others e
  unfolding expression_bits
  bits-same w (sum a b) h = ap₂ (λ x y. modulo w (pos x +ℤ pos y)) (operand_same w a h.0) (operand_same w b h.1)
  bits-same w (difference a b) h = ap₂ (λ x y. modulo w (pos x -ℤ pos y)) (operand_same w a h.0) (operand_same w b h.1)
  bits-same w (plain a) h = operand_same w a h
  bits-same w (negated a) h = ap (λ x. modulo w (neg_ℤ (pos x))) (operand_same w a h)
  bits-same w constant h = refl

  assigned-same : (a : Assignment) → Reads symbol a.expression → assigned signals a ≡ assigned others a
  unfolding assigned
  assigned-same a h =
      let t = a.width in
      let e = a.expression in
      ap (λ v. signal t (pos (expression_bits (max t v) signals e))) (width_same e h)
      ∙ ap (λ k. signal t (pos k)) (bits-same (max t (expression_width others e)) e h)

-- a wire that reads earlier signals alone is what its assignment says of all signals
pub wires_entry : (signals : List Signal) (ws : List Assignment) (a : Assignment) (vs : List Assignment)
    → Reads (length signals + length ws) a.expression
    → signal_at (wire_signals signals (ws ++ a ∷ vs)) (length signals + length ws) ≡ assigned (wire_signals signals (ws ++ a ∷ vs)) a
unfolding wire_signals
wires_entry signals ws a vs h =
    let before : List Signal = wire_signals signals ws in
    let here : List Signal = before ++ (assigned before a ∷ []) in
    let l : length before ≡ length signals + length ws = length-wires signals ws in
    rw (wires-append signals ws (a ∷ vs)) (
    wires_keep here vs (length signals + length ws) (omega (arith, length-append before (assigned before a ∷ [])))
    ∙ get_or_at before (assigned before a) [] (signal 1 (pos 0)) (length signals + length ws) l
    ∙ assigned-same before (wire_signals here vs) (length signals + length ws) (λ j k. sym (wires_keep before (a ∷ vs) j (omega arith))) a h
    )
