-- Document 01's table of marked banks as one theorem, proved of the rules themselves, by computation.
-- Assumes nothing.
use mathlib.Core.Path.{refl}
use mathlib.Core.Bool.{xor}
use Rattle.elimination_rules.specs.Rows.{matrix_rows, plain_count}
use Rattle.elimination_rules.specs.Elimination.{matrix_elimination}
use Rattle.layout_rules.specs.Matrix.{matrix_refusal, matrix, rows_from, coefficients_from, coefficient_at, signed_word}
use Rattle.board_rules.specs.Machine.{entry_form, output_form, depth}
use Rattle.board_rules.specs.Width.{width}
use Rattle.sum_rules.specs.Joins.{sign_field}
use Rattle.sum_rules.specs.Shallowest.{sum_operations, sum_outputs}
use Rattle.compile_rules.specs.Compile.{operations_of, outputs_of, with_widths, netlist_of, input_refusal}
use Rattle.compile_rules.proofs.Marked.{marked_banks}
use Rattle.text.specs.Decimal.{decimal, number}
use Rattle.text.specs.Text.{lines}
use Rattle.listing_rules.specs.Listing.{counts_line, operation_line, value_text}
use Rattle.listing_rules.proofs.Marked.{marked}
use Rattle.bank_text.specs.BankText.{bank_text}
use Rattle.bank_text.specs.Marked.{MarkedTable}

pub marked_table : MarkedTable
unfolding xor matrix_rows plain_count matrix_elimination matrix_refusal matrix rows_from coefficients_from coefficient_at signed_word entry_form output_form depth width sign_field sum_operations sum_outputs operations_of outputs_of with_widths netlist_of input_refusal decimal number counts_line operation_line value_text lines bank_text
marked_table = record {
  banks = marked_banks;
  lines = marked;
  printed = refl;
  printed-twelve = refl;
  printed-none = refl;
  printed-refusal = refl;
  printed-outside = refl;
}
