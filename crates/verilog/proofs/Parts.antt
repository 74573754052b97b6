-- Lines and halves of a module as their writers put them together.
-- Assumes nothing.
use mathlib.Core.Path.{◌≡◌, sym, ap, ◌∙◌}
use mathlib.Core.List.{List, ◌++◌, append_assoc}
use native.Mathlib.Omega.{arith}
use Prim.Native.Nat.{ℕ, ◌+◌, ◌≤◌}
use lib.ListN.{length, replicate, length-map}
use Rattle.limits.specs.Limits.{max_rows, max_columns, max_operations}
use Rattle.layout_rules.specs.declared.Head.{Head}
use Rattle.layout_rules.specs.Places.{head_at, operation_at, output_at, operations_in, outputs_in, netlist_in}
use Rattle.layout_rules.proofs.FirstRecords.{length-first, get_d_first}
use Rattle.netlist_read.specs.Tables.{NetlistRead}
use Rattle.netlist_read.proofs.NetlistLaws.{head-limits}
use Rattle.text.specs.Text.{ascii, lines, lines_of}
use Rattle.text.proofs.Lines.{lines-map}
use Rattle.text.proofs.Numbered.{lines_listed}
use Rattle.verilog_rules.specs.Module.{Assignment, Module, wire_of, output_of, module_of}
use Rattle.verilog_rules.specs.Text.{first_line, input_line, output_line, wire_line, wire_assignment, output_assignment, module_text}
use Rattle.verilog.specs.Parts.{wires, rows, ports_text, assignments_text}

-- ---- the wires and the outputs of a netlist that read accepts

module _ (b : List ℕ) (h : Head) (same : h ≡ head_at b) where
  pub bounds : NetlistRead b → (h.n ≤ max_columns) × (h.m ≤ max_rows) × (h.operations ≤ max_operations)
  bounds N =
      let l = head-limits b N in (
        omega (arith, l.limits.columns-most, ap (λ (h : Head). h.n) same),
        omega (arith, l.limits.rows-most, ap (λ (h : Head). h.m) same),
        omega (arith, l.few, ap (λ (h : Head). h.operations) same),
      )

  operations : length (operations_in b) ≡ h.operations
  operations = length-first (operation_at b) (head_at b).operations ∙ sym (ap (λ (h : Head). h.operations) same)

  pub wires_listed : (line : ℕ → Assignment → List ℕ) (first : ℕ)
      → lines_of (λ k. line (first + k) (wire_of (operation_at b k))) h.operations ≡ lines line first (wires b)
  wires_listed line first =
      lines_listed (λ k o. line k (wire_of o)) first (operations_in b) (operation_at b) h.operations operations
      (λ k d l. get_d_first (operation_at b) (head_at b).operations k d (omega (arith, l, ap (λ (h : Head). h.operations) same)))
      ∙ sym (lines-map line wire_of first (operations_in b))

  pub rows_listed : (line : ℕ → Assignment → List ℕ)
      → lines_of (λ k. line (0 + k) (output_of (output_at b h.operations k))) h.m ≡ lines line 0 (rows b)
  rows_listed line =
      let m = ap (λ (h : Head). h.m) same in
      lines_listed (λ k o. line k (output_of o)) 0 (outputs_in b) (output_at b h.operations) h.m
      (length-first (output_at b (length (operations_in b))) (head_at b).m ∙ sym m)
      (λ k d l. get_d_first (output_at b (length (operations_in b))) (head_at b).m k d (omega (arith, l, m)) ∙ ap (λ (n : ℕ). output_at b n k) operations)
      ∙ sym (lines-map line output_of 0 (outputs_in b))

  -- ---- the text, with the numbers of the head

  abbrev ports_with : Head → ℕ → List ℕ
  ports_with h ports =
      first_line ports
      ++ lines (input_line ports) 0 (replicate h.n h.width)
      ++ lines (output_line ports h.n) 0 (rows b)
      ++ ascii ");\n"

  pub ports_parts : ports_with h (h.n + h.m) ≡ ports_text (module_of (netlist_in b))
  unfolding ports_text
  ports_parts =
      let outputs : length (rows b) ≡ (head_at b).m =
      length-map (outputs_in b) output_of ∙ length-first (output_at b (length (operations_in b))) (head_at b).m in
      ap (λ (h : Head). ports_with h (h.n + h.m)) same
      ∙ ap (λ (k : ℕ). ports_with (head_at b) ((head_at b).n + k)) (sym outputs)

  abbrev assignments_with : Head → List ℕ
  assignments_with h =
      lines wire_line h.n (wires b) ++ lines (wire_assignment h.n) h.n (wires b) ++ lines (output_assignment h.n) 0 (rows b)

  pub assignments_parts : assignments_with h ≡ assignments_text (module_of (netlist_in b))
  unfolding assignments_text
  assignments_parts = ap assignments_with same

halves : (p w a o e : List ℕ) → p ++ (w ++ a ++ o) ++ e ≡ p ++ w ++ a ++ o ++ e
halves p w a o e = simp append_assoc

pub module_parts : (m : Module) → ports_text m ++ assignments_text m ++ ascii "endmodule\n" ≡ module_text m
unfolding ports_text assignments_text module_text
module_parts m =
    let n = m.inputs in
    halves (ports_text m) (lines wire_line n m.wires) (lines (wire_assignment n) n m.wires) (lines (output_assignment n) 0 m.outputs) (ascii "endmodule\n")
