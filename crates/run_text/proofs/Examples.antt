-- What run-bank prints, by examples, by computation.
-- Assumes nothing.
use mathlib.Core.Path.{refl}
use mathlib.Core.List.{flat_map}
use Rattle.layout_rules.specs.Records.{head_kind_of, head_payload, operation_payload, output_payload, totals_payload, netlist_bytes, head_of, operation_of, output_of, totals_of}
use Rattle.layout_rules.specs.Places.{head_kind_in, head_length_in, first_records}
use Rattle.layout_rules.specs.Step.{step_refusal}
use Rattle.board_rules.specs.Machine.{machine, entry_form, output_form, depth}
use Rattle.board_rules.specs.Width.{width}
use Rattle.netlist_rules.specs.Read.{record_refusal, head_refusal, operation_refusal, output_refusal, totals_refusal, read_records, read_netlist, read_answer}
use Rattle.netlist_rules.specs.Run.{fit_answer, samples_answer, run_answer, run_outputs}
use Rattle.run_text.specs.Samples.{sample_count}
use Rattle.text.specs.Decimal.{decimal, number}
use Rattle.run_text.specs.RunText.{run_text}
use Rattle.run_text.specs.Examples.{RunExamples}

pub run_examples : RunExamples
unfolding flat_map head_kind_of head_payload operation_payload output_payload totals_payload netlist_bytes head_of operation_of output_of totals_of head_kind_in head_length_in first_records step_refusal machine entry_form output_form depth width record_refusal head_refusal operation_refusal output_refusal totals_refusal read_records read_netlist read_answer fit_answer samples_answer run_answer run_outputs sample_count decimal number run_text
run_examples =
    record {
      steep = refl;
      steep_down = refl;
      steep_at_twelve = refl;
      second-outside = refl;
      both-outside = refl;
      one-sample = refl;
      not-whole = refl;
      no_samples = refl;
      one-sample-more = refl;
      not-whole-none = refl;
      no_netlist = refl;
    }
