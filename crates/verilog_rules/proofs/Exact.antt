-- On samples in range each wire and each output of a netlist's module has the board machine's value.
-- Assumes nothing.
use mathlib.Core.Path.{◌≡◌, refl, sym, ap, ap₂, ◌∙◌, subst}
use mathlib.Core.List.{List, [], ◌∷◌, ◌++◌, map, append-nil, map-append}
use Prim.Native.Nat.{ℕ, zero, suc, ◌+◌, ◌<◌}
use native.Mathlib.Omega.{arith}
use native.Mathlib.Decide.{dec_lt}
use lib.IntN.{ℤ}
use lib.ListN.{length, length-append, length-map}
use lib.Seq.{append_snoc}
use Rattle.integers.proofs.Congruence.{congruent_same}
use Rattle.layout_rules.specs.declared.Operation.{Operation}
use Rattle.layout_rules.specs.declared.Output.{Output}
use Rattle.layout_rules.specs.Records.{Netlist}
use Rattle.board_rules.specs.Machine.{entry_at, shifted, joined, with_sign, machine, operation_value, output_value}
use Rattle.board_rules.specs.Netlist.{IsOperation, IsNetlist}
use Rattle.board_rules.specs.Width.{Within, Samples}
use Rattle.board_rules.proofs.MachineLaws.{machine_entry, machine_keeps}
use Rattle.netlist_rules.specs.Run.{netlist_outputs}
use Rattle.netlist_rules.specs.Exact.{read_limits}
use Rattle.verilog_rules.specs.Module.{Assignment, Module, operand, wire_of, output_of, module_of}
use Rattle.verilog_rules.specs.Meaning.{Signal, signal, signal_at, value, assigned, input_signals, wire_signals, signals_of, output_signals, Settled}
use Rattle.verilog_rules.proofs.Bits.{value-of_congruent}
use Rattle.verilog_rules.proofs.AssignmentLaws.{value_at, expression_value, joined-value, signed-value, assigned_exact}
use Rattle.verilog_rules.proofs.Mapped.{each_mapped}
use Rattle.verilog_rules.proofs.WireLaws.{Reads, joined_reads, wires_keep, wires_entry}

module _ (net : Netlist) (is : IsNetlist (read_limits net.head.width) net) where
  abbrev os : List Operation
  os = net.operations

  abbrev n : ℕ
  n = net.head.n

  -- the sample width
  abbrev s : ℕ
  s = net.head.width

  abbrev m : Module
  m = module_of net

  -- ---- a wire reads inputs and the wires above it alone

  wire_reads : (before after : List Operation) (o : Operation) → os ≡ before ++ o ∷ after → Reads (n + length before) (wire_of o).expression
  wire_reads before after o e =
      let l = (is.operation before after o e).limits in
      joined_reads (n + length before) o.sign _ _ l.first_earlier l.second_earlier

  pub reads_earlier : (before after : List Assignment) (a : Assignment) → m.wires ≡ before ++ a ∷ after → Reads (n + length before) a.expression
  reads_earlier = each_mapped wire_of os (λ k a. Reads (n + k) a.expression) wire_reads

  -- ---- signals that are settled, however the assignments were carried out

  module _ (xs : List ℤ) (x : Samples s n xs) where
    -- the first k signals have the values of the board machine's first k entries
    abbrev Agree : List Signal → ℕ → Type 0
    Agree signals k = (symbol : ℕ) → symbol < k → value_at signals symbol ≡ entry_at (machine xs os) symbol

    module _ (signals : List Signal) (settled : Settled m xs signals) where
      inputs_agree : Agree signals (length xs)
      inputs_agree j h =
          ap value (settled.input j h)
          ∙ value-of_congruent (omega (arith, is.head.width.least)) (x.within j (omega (arith, x.count))) (congruent_same refl)
          ∙ sym (machine_keeps xs os j h)

      module _ (before after : List Operation) (o : Operation) (e : os ≡ before ++ o ∷ after) (below : Agree signals (length xs + length before)) where
        it : IsOperation (read_limits s) n os before o
        it = is.operation before after o e

        entry : entry_at (machine xs os) (length xs + length before) ≡ operation_value (machine xs os) o
        entry = subst (λ l. entry_at (machine xs l) (length xs + length before) ≡ operation_value (machine xs l) o) (sym e)
            (machine_entry xs before o after (omega (arith, x.count, it.limits.first_earlier)) (omega (arith, x.count, it.limits.second_earlier)))

        exact : expression_value (value_at signals) (wire_of o).expression ≡ entry_at (machine xs os) (length xs + length before)
        exact =
            joined-value (value_at signals) o.sign (operand o.a o.sa) (operand o.b o.sb)
            ∙ ap₂ (λ y z. joined o.sign (shifted y o.sa) (shifted z o.sb))
            (below o.a (omega (arith, x.count, it.limits.first_earlier)))
            (below o.b (omega (arith, x.count, it.limits.second_earlier)))
            ∙ sym entry

        within : Within o.width (entry_at (machine xs os) (length xs + length before))
        within = subst (λ k. Within o.width (entry_at (machine xs os) (k + length before))) (sym x.count) (it.width.width.holds xs x)

        settled_wire : signal_at signals (length xs + length before) ≡ assigned signals (wire_of o)
        settled_wire = subst (λ k. signal_at signals (length xs + k) ≡ assigned signals (wire_of o)) (length-map before wire_of)
            (settled.wire (map wire_of before) (map wire_of after) (wire_of o) (ap (map wire_of) e ∙ map-append wire_of before (o ∷ after)))

        wire_agrees : value_at signals (length xs + length before) ≡ entry_at (machine xs os) (length xs + length before)
        wire_agrees = ap value settled_wire ∙ assigned_exact signals (wire_of o) (omega (arith, it.width.width.from_one)) (rw exact within) ∙ exact

        one_more : Agree signals (length xs + length (before ++ (o ∷ [])))
        one_more symbol h = go (dec_lt symbol (length xs + length before))
          where
            go : Dec (symbol < length xs + length before) → value_at signals symbol ≡ entry_at (machine xs os) symbol
            go (yes l) = below symbol l
            go (no l) =
                let here : length xs + length before ≡ symbol = omega (arith, length-append before (o ∷ [])) in
                subst (λ k. value_at signals k ≡ entry_at (machine xs os) k) here wire_agrees

      wires_agree : (before rest : List Operation) → os ≡ before ++ rest → Agree signals (length xs + length before) → Agree signals (length xs + length os)
      wires_agree before [] e h = subst (λ l. Agree signals (length xs + length l)) (sym (e ∙ append-nil before)) h
      wires_agree before (o ∷ rest) e h =
          wires_agree (before ++ (o ∷ [])) rest (e ∙ sym (append_snoc before o rest)) (one_more before rest o e h)

      -- inputs and wires
      pub settled_exact : Agree signals (n + length os)
      settled_exact symbol h = wires_agree [] os refl (λ j l. inputs_agree j (omega arith)) symbol (omega (arith, x.count))

      output_agrees : (before after : List Output) (o : Output) → net.outputs ≡ before ++ o ∷ after
          → value (assigned signals (output_of o)) ≡ output_value (machine xs os) o
      output_agrees before after o e =
          let it = is.output before after o e in
          let exact : expression_value (value_at signals) (output_of o).expression ≡ output_value (machine xs os) o =
          signed-value (value_at signals) o.sign (operand o.symbol o.shift)
          ∙ ap (λ z. with_sign o.sign (shifted z o.shift)) (settled_exact o.symbol it.limits.operand.symbol) in
          assigned_exact signals (output_of o) it.width.width.from_one (rw exact (it.width.width.holds xs x)) ∙ exact

      -- outputs
      pub settled_outputs_exact : map value (map (assigned signals) m.outputs) ≡ netlist_outputs net xs
      settled_outputs_exact = each net.outputs output_agrees
        where
          each : (outs : List Output)
              → ((before after : List Output) (o : Output) → outs ≡ before ++ o ∷ after → value (assigned signals (output_of o)) ≡ output_value (machine xs os) o)
              → map value (map (assigned signals) (map output_of outs)) ≡ map (output_value (machine xs os)) outs
          each [] h = refl
          each (o ∷ outs) h = ap₂ ◌∷◌ (h [] outs o refl) (each outs (λ before after p e. h (o ∷ before) after p (ap (λ l. o ∷ l) e)))

    -- ---- the wires in order settle

    pub in_order_settled : Settled m xs (signals_of m xs)
    in_order_settled = record {
      input = λ j h. wires_keep (input_signals s xs) m.wires j (omega (arith, length-map xs (signal s))) ∙ input_at xs j h;
      wire = λ before after a e.
          let l : length (input_signals s xs) ≡ length xs = length-map xs (signal s) in
          let k : length (input_signals s xs) ≡ n = l ∙ x.count in
          let reads : Reads (length (input_signals s xs) + length before) a.expression =
          subst (λ j. Reads (j + length before) a.expression) (sym k) (reads_earlier before after a e) in
          subst (λ j. signal_at (signals_of m xs) (j + length before) ≡ assigned (signals_of m xs) a) l
          (subst (λ ws. signal_at (wire_signals (input_signals s xs) ws) (length (input_signals s xs) + length before) ≡ assigned (wire_signals (input_signals s xs) ws) a) (sym e)
          (wires_entry (input_signals s xs) before a after reads));
    }
      where
        input_at : (ys : List ℤ) (j : ℕ) → j < length ys → signal_at (input_signals s ys) j ≡ signal s (entry_at ys j)
        input_at [] j h = absurd (omega arith)
        input_at (y ∷ ys) zero h = refl
        input_at (y ∷ ys) (suc j) h = input_at ys j (omega arith)

    -- each input and each wire
    pub wires_exact : (symbol : ℕ) → symbol < n + length os → value (signal_at (signals_of m xs) symbol) ≡ entry_at (machine xs os) symbol
    wires_exact = settled_exact (signals_of m xs) in_order_settled

    -- each output
    pub outputs_exact : map value (output_signals m xs) ≡ netlist_outputs net xs
    outputs_exact = settled_outputs_exact (signals_of m xs) in_order_settled
