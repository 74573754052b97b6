-- Document 01, "Marked banks": the one table.
-- Assumes nothing.
use Rattle.std.specs.Prelude.{ℕ, ◌≡◌, List, [], ◌∷◌, ℤ, pos, negsuc, replicate}
use Rattle.limits.specs.Limits.{positions, unstated_width}
use Rattle.digits.specs.Marked.{MarkedDigits}
use Rattle.elimination_rules.specs.Rows.{matrix_rows, plain_count}
use Rattle.elimination_rules.specs.Elimination.{matrix_elimination}
use Rattle.elimination_rules.specs.Marked.{MarkedElimination, single, four_by_four}
use Rattle.layout_rules.specs.declared.Operation.{Operation}
use Rattle.layout_rules.specs.declared.Output.{Output}
use Rattle.layout_rules.specs.Records.{Netlist, netlist_without_rows}
use Rattle.board_rules.specs.Marked.{MarkedWidths, sum_of_two, negated_sample, sum_of_eight, negated_sum}
use Rattle.compile_rules.specs.Compile.{netlist_of, negated_outputs, compile_refused, compiled_netlist, compiled_bytes, compile_answer}
use Rattle.compile_rules.specs.declared.CompileAnswer.{CompileAnswer}

-- the netlist of a matrix of m rows and n columns, for samples of 16 bits
abbrev pub netlist_for : ℕ → ℕ → List (List ℤ) → Netlist
netlist_for m n matrix = netlist_of unstated_width m n (matrix_elimination positions n matrix)

-- 0A 00 01 00 01 02 03 00 FD FF (row 3, −3)
abbrev pub three_minus_three_record : List ℕ
three_minus_three_record = 0x0A ∷ 0x00 ∷ 0x01 ∷ 0x00 ∷ 0x01 ∷ 0x02 ∷ 0x03 ∷ 0x00 ∷ 0xFD ∷ 0xFF ∷ []

-- a head: 1 output, 2 inputs, 2 operations; 2 = 0<<0 - 1<<0 width 17; 3 = 2<<2 - 2<<0 width 19; row 0 = 3<<0 width 19; totals
abbrev pub three_minus_three_netlist : List ℕ
three_minus_three_netlist =
    0x08 ∷ 0x00 ∷ 0x02 ∷ 0x00 ∷ 0x01 ∷ 0x02 ∷ 0x02 ∷ 0x00
    ∷ 0x0C ∷ 0x00 ∷ 0x03 ∷ 0x00 ∷ 0x01 ∷ 0x00 ∷ 0x00 ∷ 0x00 ∷ 0x01 ∷ 0x00 ∷ 0x00 ∷ 17
    ∷ 0x0C ∷ 0x00 ∷ 0x03 ∷ 0x00 ∷ 0x01 ∷ 0x02 ∷ 0x00 ∷ 0x02 ∷ 0x02 ∷ 0x00 ∷ 0x00 ∷ 19
    ∷ 0x09 ∷ 0x00 ∷ 0x04 ∷ 0x00 ∷ 0x00 ∷ 0x03 ∷ 0x00 ∷ 0x00 ∷ 19
    ∷ 0x08 ∷ 0x00 ∷ 0x05 ∷ 0x00 ∷ 0x02 ∷ 0x00 ∷ 0x02 ∷ 0x00
    ∷ []

-- for samples of 12 bits the head states 12, 0C, and the widths are 13, 15 and 15
abbrev pub three_minus_three_at_twelve : List ℕ
three_minus_three_at_twelve =
    0x09 ∷ 0x00 ∷ 0x06 ∷ 0x00 ∷ 0x01 ∷ 0x02 ∷ 0x02 ∷ 0x00 ∷ 0x0C
    ∷ 0x0C ∷ 0x00 ∷ 0x03 ∷ 0x00 ∷ 0x01 ∷ 0x00 ∷ 0x00 ∷ 0x00 ∷ 0x01 ∷ 0x00 ∷ 0x00 ∷ 13
    ∷ 0x0C ∷ 0x00 ∷ 0x03 ∷ 0x00 ∷ 0x01 ∷ 0x02 ∷ 0x00 ∷ 0x02 ∷ 0x02 ∷ 0x00 ∷ 0x00 ∷ 15
    ∷ 0x09 ∷ 0x00 ∷ 0x04 ∷ 0x00 ∷ 0x00 ∷ 0x03 ∷ 0x00 ∷ 0x00 ∷ 15
    ∷ 0x08 ∷ 0x00 ∷ 0x05 ∷ 0x00 ∷ 0x02 ∷ 0x00 ∷ 0x02 ∷ 0x00
    ∷ []

-- operations 2 plain 3 divisors 1 replacements 2 depth 2, no output minus
abbrev pub three_minus_three_answer : CompileAnswer
three_minus_three_answer =
    record { refusal = 0; place = 0; written = 49; operations = 2; plain = 3; divisors = 1; replacements = 2; depth = 2; negated = 0 }

-- the netlist's bytes and the answer of no bytes
abbrev pub no_bytes_netlist : List ℕ
no_bytes_netlist = 0x08 ∷ 0x00 ∷ 0x02 ∷ 0x00 ∷ 0x00 ∷ 0x00 ∷ 0x00 ∷ 0x00 ∷ 0x08 ∷ 0x00 ∷ 0x05 ∷ 0x00 ∷ 0x00 ∷ 0x00 ∷ 0x00 ∷ 0x00 ∷ []

-- and for samples of 12 bits, 17 bytes
abbrev pub no_bytes_at_twelve : List ℕ
no_bytes_at_twelve =
    0x09 ∷ 0x00 ∷ 0x06 ∷ 0x00 ∷ 0x00 ∷ 0x00 ∷ 0x00 ∷ 0x00 ∷ 0x0C ∷ 0x08 ∷ 0x00 ∷ 0x05 ∷ 0x00 ∷ 0x00 ∷ 0x00 ∷ 0x00 ∷ 0x00 ∷ []

abbrev pub no_bytes_answer : CompileAnswer
no_bytes_answer =
    record { refusal = 0; place = 0; written = 16; operations = 0; plain = 0; divisors = 0; replacements = 0; depth = 0; negated = 0 }

-- row −3, 5, 7, −1: no divisor, seven terms; 4 = 0<<0 - 0<<2 width 18; 5 = 1<<0 + 1<<2 width 19; 6 = 2<<3 - 2<<0 width 19;
-- 7 = 4<<0 - 3<<0 width 19; 8 = 5<<0 + 6<<0 width 20; 9 = 7<<0 + 8<<0 width 20; row 0 = 9<<0 width 20
abbrev pub seven_terms : List (List ℤ)
seven_terms = (negsuc 2 ∷ pos 5 ∷ pos 7 ∷ negsuc 0 ∷ []) ∷ []

abbrev pub six_joins : List Operation
six_joins =
    record { sign = 1; a = 0; sa = 0; b = 0; sb = 2; width = 18 }
    ∷ record { sign = 0; a = 1; sa = 0; b = 1; sb = 2; width = 19 }
    ∷ record { sign = 1; a = 2; sa = 3; b = 2; sb = 0; width = 19 }
    ∷ record { sign = 1; a = 4; sa = 0; b = 3; sb = 0; width = 19 }
    ∷ record { sign = 0; a = 5; sa = 0; b = 6; sb = 0; width = 20 }
    ∷ record { sign = 0; a = 7; sa = 0; b = 8; sb = 0; width = 20 }
    ∷ []

abbrev pub last_join : Output
last_join = record { sign = 0; symbol = 9; shift = 0; width = 20 }

-- rows 1 1 1 1 1, 1 1 1 0 0: 5 = 0<<0 + 1<<0 width 17; 6 = 2<<0 + 5<<0 width 18; 7 = 3<<0 + 4<<0 width 17; 8 = 7<<0 + 6<<0 width 19
abbrev pub five_and_three : List (List ℤ)
five_and_three = replicate 5 (pos 1) ∷ (pos 1 ∷ pos 1 ∷ pos 1 ∷ pos 0 ∷ pos 0 ∷ []) ∷ []

abbrev pub shallower_first : List Operation
shallower_first =
    record { sign = 0; a = 0; sa = 0; b = 1; sb = 0; width = 17 }
    ∷ record { sign = 0; a = 2; sa = 0; b = 5; sb = 0; width = 18 }
    ∷ record { sign = 0; a = 3; sa = 0; b = 4; sb = 0; width = 17 }
    ∷ record { sign = 0; a = 7; sa = 0; b = 6; sb = 0; width = 19 }
    ∷ []

pub record MarkedBanks : Type 0 where
  -- 0 none; 6 = 8 − 2; 23 = 32 − 8 − 1; 32,767 = 2^15 − 1; −32,768 = −2^15; 21,845 has eight
  pub digits : MarkedDigits
  -- 21: score 1, no divisor; 85: 1 + L^2 taken at 0 and 4; 1,365: at 0, 4, 8; four rows: plain 12, four divisors, 8 replacements;
  -- sums of five: depth decides
  pub elimination : MarkedElimination
  -- 1 by 1 matrix 21: 2 operations
  pub operations_21 : (netlist_for 1 1 (single 21)).head.operations ≡ 2
  -- 85: 2 operations
  pub operations_85 : (netlist_for 1 1 (single 85)).head.operations ≡ 2
  -- 1,365: 3 operations against 5 plain
  pub operations_1365 : (netlist_for 1 1 (single 1365)).head.operations ≡ 3
  pub plain_1365 : plain_count (matrix_rows positions (single 1365)) ≡ 5
  -- rows 1 1 1 1, 2 1 −1 −2, 1 −1 −1 1, 1 −2 2 −1: 8 operations, depth 2
  pub operations-four : (netlist_for 4 4 four_by_four).head.operations ≡ 8
  pub depth-four : (netlist_for 4 4 four_by_four).totals.depth ≡ 2
  -- width of x0 + x1 is 17, of −x0 17, of eight times −32,768 summed 35; 13, 13, 31 for 12 bits and 25, 25, 43 for 24; and these are
  -- what such matrices are compiled to
  pub widths : MarkedWidths
  pub compiled-sum : (netlist_for 1 2 ((pos 1 ∷ pos 1 ∷ []) ∷ [])).operations ≡ sum_of_two
  pub operations-negated : (netlist_for 1 1 ((negsuc 0 ∷ []) ∷ [])).operations ≡ []
  pub compiled-negated : (netlist_for 1 1 ((negsuc 0 ∷ []) ∷ [])).outputs ≡ negated_sample ∷ []
  pub one-negated : negated_outputs (netlist_for 1 1 ((negsuc 0 ∷ []) ∷ [])).outputs ≡ 1
  pub compiled-eight : (netlist_for 1 8 (replicate 8 (negsuc 32767) ∷ [])).operations ≡ sum_of_eight
  pub output-eight : (netlist_for 1 8 (replicate 8 (negsuc 32767) ∷ [])).outputs ≡ negated_sum ∷ []
  pub depth-eight : (netlist_for 1 8 (replicate 8 (negsuc 32767) ∷ [])).totals.depth ≡ 3
  -- row −3, 5, 7, −1: among equal depths the symbol decides, then the exponent; of a positive and a negative term the positive one is
  -- the first operand; depth 3
  pub compiled_joins : (netlist_for 1 4 seven_terms).operations ≡ six_joins
  pub output_joins : (netlist_for 1 4 seven_terms).outputs ≡ last_join ∷ []
  pub depth_joins : (netlist_for 1 4 seven_terms).totals.depth ≡ 3
  -- rows 1 1 1 1 1, 1 1 1 0 0: 7, of depth 1, comes before 6, of depth 2
  pub compiled-shallower : (netlist_for 2 5 five_and_three).operations ≡ shallower_first
  -- row 3, −3
  pub bytes_three : compiled_bytes unstated_width three_minus_three_record ≡ three_minus_three_netlist
  pub bytes_three_twelve : compiled_bytes 12 three_minus_three_record ≡ three_minus_three_at_twelve
  pub answer_three : compile_answer unstated_width three_minus_three_record 49 ≡ three_minus_three_answer
  -- no bytes, whatever the sample width
  pub compiled-none : (s : ℕ) → compiled_netlist s [] ≡ netlist_without_rows s
  pub bytes-none : compiled_bytes unstated_width [] ≡ no_bytes_netlist
  pub bytes-none-twelve : compiled_bytes 12 [] ≡ no_bytes_at_twelve
  pub answer-none : compile_answer unstated_width [] 16 ≡ no_bytes_answer
  -- the sample widths 7 and 25, before anything else is tested
  pub answer_seven : compile_answer 7 (0x06 ∷ []) 0 ≡ compile_refused 20 0
  pub answer_twenty_five : compile_answer 25 (0x06 ∷ []) 0 ≡ compile_refused 20 0
