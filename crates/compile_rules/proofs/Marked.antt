-- Document 01's marked banks, proved of the rules themselves, by computation.
-- Assumes nothing.
use mathlib.Core.Path.{refl}
use mathlib.Core.Bool.{xor}
use mathlib.Core.List.{flat_map}
use Rattle.digits.proofs.Marked.{marked_digits}
use Rattle.elimination_rules.specs.Rows.{matrix_rows, plain_count}
use Rattle.elimination_rules.specs.Elimination.{matrix_elimination}
use Rattle.elimination_rules.proofs.Marked.{marked_elimination}
use Rattle.layout_rules.specs.Matrix.{matrix_refusal, matrix, rows_from, coefficients_from, coefficient_at, signed_word}
use Rattle.layout_rules.specs.Records.{head_kind_of, head_payload, operation_payload, output_payload, totals_payload, netlist_bytes}
use Rattle.board_rules.specs.Machine.{entry_form, output_form, depth}
use Rattle.board_rules.specs.Width.{width}
use Rattle.board_rules.proofs.Marked.{marked_widths}
use Rattle.sum_rules.specs.Joins.{sign_field}
use Rattle.sum_rules.specs.Shallowest.{sum_operations, sum_outputs}
use Rattle.compile_rules.specs.Compile.{operations_of, outputs_of, with_widths, netlist_of, negated_outputs, input_refusal, compile_answer}
use Rattle.compile_rules.specs.Marked.{MarkedBanks}

pub marked_banks : MarkedBanks
unfolding xor flat_map matrix_rows plain_count matrix_elimination matrix_refusal matrix rows_from coefficients_from coefficient_at signed_word head_kind_of head_payload operation_payload output_payload totals_payload netlist_bytes entry_form output_form depth width sign_field sum_operations sum_outputs operations_of outputs_of with_widths netlist_of negated_outputs input_refusal compile_answer
marked_banks = record {
  digits = marked_digits;
  elimination = marked_elimination;
  operations_21 = refl;
  operations_85 = refl;
  operations_1365 = refl;
  plain_1365 = refl;
  operations-four = refl;
  depth-four = refl;
  widths = marked_widths;
  compiled-sum = refl;
  operations-negated = refl;
  compiled-negated = refl;
  one-negated = refl;
  compiled-eight = refl;
  output-eight = refl;
  depth-eight = refl;
  compiled_joins = refl;
  output_joins = refl;
  depth_joins = refl;
  compiled-shallower = refl;
  bytes_three = refl;
  bytes_three_twelve = refl;
  answer_three = refl;
  compiled-none = λ s. refl;
  bytes-none = refl;
  bytes-none-twelve = refl;
  answer-none = refl;
  answer_seven = refl;
  answer_twenty_five = refl;
}
