-- What clock-bank prints, by examples, by computation.
-- Assumes nothing.
use mathlib.Core.Path.{refl}
use mathlib.Core.List.{flat_map}
use Rattle.layout_rules.specs.Records.{head_kind_of, head_payload, operation_payload, output_payload, totals_payload, netlist_bytes, head_of, operation_of, output_of, totals_of}
use Rattle.layout_rules.specs.Places.{head_kind_in, head_length_in, first_records}
use Rattle.layout_rules.specs.Step.{step_refusal}
use Rattle.board_rules.specs.Machine.{machine, entry_form, output_form, depths, depth}
use Rattle.board_rules.specs.Width.{width}
use Rattle.board_rules.specs.Table.{filled}
use Rattle.netlist_rules.specs.Read.{record_refusal, head_refusal, operation_refusal, output_refusal, totals_refusal, read_records, read_netlist, read_answer}
use Rattle.netlist_rules.specs.Run.{fit_answer}
use Rattle.text.specs.Decimal.{decimal, number}
use Rattle.text.specs.Text.{lines}
use Rattle.clock_rules.specs.Delays.{symbol_depth, netlist_depth, operand_delays, output_delays, longest_of, longest_delay, delays_below}
use Rattle.clock_rules.specs.Clocked.{operations_after, delays_after, edge, outputs_from, cleared, vectors_of, in_order}
use Rattle.clock_rules.specs.Answer.{list_answer, clock_answer, clock_outputs}
use Rattle.clock_text.specs.ListBytes.{bytes_answer, bytes_outputs, clocked_answer}
use Rattle.clock_text.specs.ClockText.{clock_text}
use Rattle.clock_text.specs.Examples.{ClockExamples}

pub clock_examples : ClockExamples
unfolding flat_map head_kind_of head_payload operation_payload output_payload totals_payload netlist_bytes head_of operation_of output_of totals_of head_kind_in head_length_in first_records step_refusal machine entry_form output_form depths depth width filled record_refusal head_refusal operation_refusal output_refusal totals_refusal read_records read_netlist read_answer fit_answer decimal number lines symbol_depth netlist_depth operand_delays output_delays longest_of longest_delay delays_below operations_after delays_after edge outputs_from cleared vectors_of in_order list_answer clock_answer clock_outputs bytes_answer bytes_outputs clocked_answer clock_text
clock_examples =
    record {
      two_rows_lem = refl;
      part_of-one = refl;
      steep = refl;
      half_a-vector = refl;
      fourth_outside = refl;
      no_samples = refl;
      no_rows = refl;
      no_rows-sample = refl;
      no_rows_part = refl;
      no_netlist = refl;
      no_netlist_part = refl;
    }
