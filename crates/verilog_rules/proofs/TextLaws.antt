-- How long the text of a netlist's module is at most.
-- Assumes nothing.
use mathlib.Core.Path.{◌≡◌, refl, sym, ap, ◌∙◌}
use mathlib.Core.List.{List, [], ◌∷◌, ◌++◌, map}
use mathlib.Core.Bool.{Bool, true, false, cond}
use Prim.Native.Nat.{ℕ, zero, suc, pred, ◌+◌, ◌*◌, ◌≤◌, ◌<◌}
use native.Mathlib.Omega.{arith}
use lib.Dec.{ltb, eqb}
use lib.ListN.{length, get_or, replicate, length-append, length-replicate, get_or-replicate}
use lib.Seq.{get_or_at}
use Rattle.layout_rules.specs.declared.Operation.{Operation}
use Rattle.layout_rules.specs.declared.Output.{Output}
use Rattle.layout_rules.specs.Records.{Netlist}
use Rattle.board_rules.specs.Netlist.{IsNetlist}
use Rattle.netlist_rules.specs.Exact.{read_limits}
use Rattle.text.specs.Decimal.{number}
use Rattle.text.specs.Text.{ascii, lines}
use Rattle.text.proofs.Decimal.{length-number}
use Rattle.text.proofs.Lines.{lines-map, length-lines}
use Rattle.verilog_rules.specs.Module.{Operand, operand, Assignment, joined_operands, signed_operand, wire_of, output_of}
use Rattle.verilog_rules.specs.Text.{port_end, input_line, output_line, first_line, wire_line, name, operand_text, expression_text, wire_assignment, output_assignment, module_text}
use Rattle.verilog_rules.specs.Answer.{netlist_text, text_room, enough_text}

-- ---- parts of a line

three_digits : (k : ℕ) → k < 1000 → length (number k) ≤ 3
three_digits k h = length-number 2 k h

two_digits : (k : ℕ) → k < 100 → length (number k) ≤ 2
two_digits k h = length-number 1 k h

one-digit : (k : ℕ) → k < 10 → length (number k) ≤ 1
one-digit k h = length-number 0 k h

three_parts : (a b c : List ℕ) → length (a ++ b ++ c) ≡ length a + length b + length c
three_parts a b c = simp length-append

five_parts : (a b c d e : List ℕ) → length (a ++ b ++ c ++ d ++ e) ≡ length a + length b + length c + length d + length e
five_parts a b c d e = simp length-append

eight_parts : (a b c d e f g h : List ℕ) → length (a ++ b ++ c ++ d ++ e ++ f ++ g ++ h)
    ≡ length a + length b + length c + length d + length e + length f + length g + length h
eight_parts a b c d e f g h = simp length-append

length-end : (ports port : ℕ) → length (port_end ports port) ≤ 2
length-end ports port = go (eqb port ports)
  where
    go : (last : Bool) → length (cond last (ascii "\n") (ascii ",\n")) ≤ 2
    go true = omega arith
    go false = omega arith

length-first-line : (ports : ℕ) → length (first_line ports) ≤ 14
length-first-line ports = go (eqb ports 0)
  where
    go : (none : Bool) → length (ascii "module bank (" ++ cond none [] (ascii "\n")) ≤ 14
    go true = omega arith
    go false = omega arith

length-name : (n symbol : ℕ) → symbol < 1000 → length (name n symbol) ≤ 4
length-name n symbol h = go (ltb symbol n)
  where
    go : (is_input : Bool) → length (cond is_input (ascii "x") (ascii "s") ++ number symbol) ≤ 4
    go true = omega (arith, three_digits symbol h)
    go false = omega (arith, three_digits symbol h)

module _ (n : ℕ) where
  length-operand : (a : Operand) → a.symbol < 1000 → a.shift < 100 → length (operand_text n a) ≤ 13
  unfolding operand_text
  length-operand a h l =
      omega (arith, five_parts (ascii "(") (name n a.symbol) (ascii " <<< ") (number a.shift) (ascii ")"), length-name n a.symbol h, two_digits a.shift l)

  -- the right side of an operation's assignment, and of an output's
  length-joined : (sign : ℕ) (a b : Operand) → a.symbol < 1000 → a.shift < 100 → b.symbol < 1000 → b.shift < 100
      → length (expression_text n (joined_operands sign a b)) ≤ 29
  unfolding expression_text
  length-joined zero a b ha la hb lb =
      omega (arith, three_parts (operand_text n a) (ascii " + ") (operand_text n b), length-operand a ha la, length-operand b hb lb)
  length-joined (suc sign) a b ha la hb lb =
      omega (arith, three_parts (operand_text n a) (ascii " - ") (operand_text n b), length-operand a ha la, length-operand b hb lb)

  length-signed : (sign : ℕ) (a : Operand) → a.symbol < 1000 → a.shift < 100 → length (expression_text n (signed_operand sign a)) ≤ 14
  unfolding expression_text
  length-signed zero a h l = omega (arith, length-operand a h l)
  length-signed (suc zero) a h l = omega (arith, length-append (ascii "-") (operand_text n a), length-operand a h l)
  length-signed (suc (suc sign)) a h l = omega arith

-- ---- lines

length-input : (ports column w : ℕ) → column < 10 → w ≤ 100 → length (input_line ports column w) ≤ 26
unfolding input_line
length-input ports column w h l =
    omega (arith, five_parts (ascii "  input signed [") (number (pred w)) (ascii ":0] x") (number column) (port_end ports (suc column)), two_digits (pred w) (omega arith), one-digit column h, length-end ports (suc column))

length-output : (ports n row : ℕ) (a : Assignment) → row < 10 → a.width ≤ 100 → length (output_line ports n row a) ≤ 27
unfolding output_line
length-output ports n row a h l =
    omega (arith, five_parts (ascii "  output signed [") (number (pred a.width)) (ascii ":0] y") (number row) (port_end ports (n + suc row)), two_digits (pred a.width) (omega arith), one-digit row h, length-end ports (n + suc row))

length-wire : (symbol : ℕ) (a : Assignment) → symbol < 1000 → a.width ≤ 100 → length (wire_line symbol a) ≤ 27
unfolding wire_line
length-wire symbol a h l =
    omega (arith, five_parts (ascii "  wire signed [") (number (pred a.width)) (ascii ":0] s") (number symbol) (ascii ";\n"), two_digits (pred a.width) (omega arith), three_digits symbol h)

length-wire_assignment : (n symbol : ℕ) (o : Operation) → symbol < 1000 → o.a < 1000 → o.sa < 100 → o.b < 1000 → o.sb < 100
    → length (wire_assignment n symbol (wire_of o)) ≤ 47
unfolding wire_assignment
length-wire_assignment n symbol o h ha la hb lb =
    omega (
      arith,
      five_parts (ascii "  assign s") (number symbol) (ascii " = ") (expression_text n (wire_of o).expression) (ascii ";\n"),
      three_digits symbol h,
      length-joined n o.sign (operand o.a o.sa) (operand o.b o.sb) ha la hb lb,
    )

length-output_assignment : (n row : ℕ) (o : Output) → row < 10 → o.symbol < 1000 → o.shift < 100 → length (output_assignment n row (output_of o)) ≤ 30
unfolding output_assignment
length-output_assignment n row o h hs l =
    omega (
      arith,
      five_parts (ascii "  assign y") (number row) (ascii " = ") (expression_text n (output_of o).expression) (ascii ";\n"),
      one-digit row h,
      length-signed n o.sign (operand o.symbol o.shift) hs l,
    )

-- ---- the module

module _ (net : Netlist) (is : IsNetlist (read_limits net.head.width) net) where
  abbrev n : ℕ
  n = net.head.n

  abbrev s : ℕ
  s = net.head.width

  abbrev ports : ℕ
  ports = n + length (map output_of net.outputs)

  input-lines : length (lines (input_line ports) 0 (replicate n s)) ≤ 26 * n
  input-lines =
      let count : length (replicate n s) ≡ n = length-replicate n s in
      rw count at (length-lines (input_line ports) 26 0 (replicate n s) (λ before after w e.
      let few : length before < n = omega (arith, count, ap length e, length-append before (w ∷ after)) in
      let same : w ≡ s =
      sym (get_or_at before w after 0 (length before) refl) ∙ ap (λ (l : List ℕ). get_or l (length before) 0) (sym e) ∙ get_or-replicate n (length before) s 0 few in
      length-input ports (0 + length before) w (omega (arith, is.head.limits.columns-most)) (omega (arith, same, is.head.width.most))))

  operation_in : (before after : List Operation) (o : Operation) → net.operations ≡ before ++ o ∷ after → n + length before < 1000
  operation_in before after o e =
      omega (arith, is.head.limits.columns-most, is.head.few, is.count, ap length e, length-append before (o ∷ after))

  row_in : (before after : List Output) (o : Output) → net.outputs ≡ before ++ o ∷ after → 0 + length before < 10
  row_in before after o e =
      omega (arith, is.head.limits.rows-most, is.one_per_row, ap length e, length-append before (o ∷ after))

  output-lines : length (lines (output_line ports n) 0 (map output_of net.outputs)) ≤ 27 * length net.outputs
  output-lines = rw (lines-map (output_line ports n) output_of 0 net.outputs)
      (length-lines (λ row o. output_line ports n row (output_of o)) 27 0 net.outputs (λ before after o e.
      length-output ports n (0 + length before) (output_of o) (row_in before after o e) (omega (arith, (is.output before after o e).width.narrow))))

  wire-lines : length (lines wire_line n (map wire_of net.operations)) ≤ 27 * length net.operations
  wire-lines = rw (lines-map wire_line wire_of n net.operations)
      (length-lines (λ symbol o. wire_line symbol (wire_of o)) 27 n net.operations (λ before after o e.
      length-wire (n + length before) (wire_of o) (operation_in before after o e) (omega (arith, (is.operation before after o e).width.narrow))))

  wire-assignments : length (lines (wire_assignment n) n (map wire_of net.operations)) ≤ 47 * length net.operations
  wire-assignments = rw (lines-map (wire_assignment n) wire_of n net.operations)
      (length-lines (λ symbol o. wire_assignment n symbol (wire_of o)) 47 n net.operations (λ before after o e.
      let l = (is.operation before after o e).limits in
      let few = operation_in before after o e in
      length-wire_assignment n (n + length before) o few (omega (arith, l.first_earlier)) (omega (arith, l.first-shift)) (omega (arith, l.second_earlier)) (omega (arith, l.second-shift))))

  output-assignments : length (lines (output_assignment n) 0 (map output_of net.outputs)) ≤ 30 * length net.outputs
  output-assignments = rw (lines-map (output_assignment n) output_of 0 net.outputs)
      (length-lines (λ row o. output_assignment n row (output_of o)) 30 0 net.outputs (λ before after o e.
      let l = (is.output before after o e).limits.operand in
      length-output_assignment n (0 + length before) o (row_in before after o e)
      (omega (arith, l.symbol, is.head.limits.columns-most, is.head.few, is.count)) (omega (arith, l.shift))))

  pub text-room : length (netlist_text net) ≤ text_room net.head.m n net.head.operations
  unfolding module_text
  text-room =
      omega (
        arith,
        eight_parts (first_line ports) (lines (input_line ports) 0 (replicate n s)) (lines (output_line ports n) 0 (map output_of net.outputs)) (ascii ");\n")
            (lines wire_line n (map wire_of net.operations)) (lines (wire_assignment n) n (map wire_of net.operations))
            (lines (output_assignment n) 0 (map output_of net.outputs)) (ascii "endmodule\n"),
        length-first-line ports,
        input-lines,
        output-lines,
        wire-lines,
        wire-assignments,
        output-assignments,
        is.count,
        is.one_per_row,
      )

  -- "37,987 bytes always suffice."
  pub text_enough : length (netlist_text net) ≤ enough_text
  text_enough = omega (arith, text-room, is.head.limits.rows-most, is.head.limits.columns-most, is.head.few)
