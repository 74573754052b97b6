-- Document 01, "One vector every clock": the registers, the outputs and the store of three netlists, which are those of a second program.
-- Assumes nothing.
use Rattle.std.specs.Prelude.{ℕ, ◌≡◌, List, [], ◌∷◌, ℤ, pos, negsuc, replicate}
use Rattle.layout_rules.specs.declared.Operation.{Operation}
use Rattle.layout_rules.specs.declared.Output.{Output}
use Rattle.layout_rules.specs.Records.{Netlist}
use Rattle.clock_rules.specs.Delays.{registers}
use Rattle.clock_rules.specs.Clocked.{clocked_outputs, clocked_store}

abbrev pub operation : ℕ → ℕ → ℕ → ℕ → ℕ → ℕ → Operation
operation sign a sa b sb width = record { sign = sign; a = a; sa = sa; b = b; sb = sb; width = width }

abbrev pub output : ℕ → ℕ → ℕ → ℕ → Output
output sign symbol shift width = record { sign = sign; symbol = symbol; shift = shift; width = width }

-- row 3, −3: x0 − x1, and from that 4 times it minus it
abbrev pub three_minus_three : Netlist
three_minus_three = record {
  head = record { m = 1; n = 2; operations = 2; width = 16 };
  operations = operation 1 0 0 1 0 17 ∷ operation 1 2 2 2 0 19 ∷ [];
  outputs = output 0 3 0 19 ∷ [];
  totals = record { operations = 2; depth = 2 };
}

-- 5 1, then 2 2, 1 0 and 0 9
abbrev pub four : List (List ℤ)
four = (pos 5 ∷ pos 1 ∷ []) ∷ (pos 2 ∷ pos 2 ∷ []) ∷ (pos 1 ∷ pos 0 ∷ []) ∷ (pos 0 ∷ pos 9 ∷ []) ∷ []

-- s2 = x0 − x1, s3 = 4 s2 + 2 x0, s4 = s3 − 8 x1, and s5 = s2 + 2 s2, which no output uses; y = 2 s4, −s2, x1, 0, s4
abbrev pub small : Netlist
small = record {
  head = record { m = 5; n = 2; operations = 4; width = 16 };
  operations = operation 1 0 0 1 0 17 ∷ operation 0 2 2 0 1 20 ∷ operation 1 3 0 1 3 21 ∷ operation 0 2 0 2 1 19 ∷ [];
  outputs = output 0 4 1 22 ∷ output 1 2 0 17 ∷ output 0 1 0 16 ∷ output 2 0 0 1 ∷ output 0 4 0 21 ∷ [];
  totals = record { operations = 4; depth = 3 };
}

abbrev pub trace : List (List ℤ)
trace =
    (pos 3 ∷ negsuc 4 ∷ [])
    ∷ (pos 1000 ∷ pos 7 ∷ [])
    ∷ (negsuc 32767 ∷ pos 32767 ∷ [])
    ∷ (pos 0 ∷ pos 0 ∷ [])
    ∷ (pos 12 ∷ pos 1 ∷ [])
    ∷ (negsuc 3 ∷ pos 9 ∷ [])
    ∷ []

-- longer by two than its registers
abbrev pub lent : List ℤ
lent = pos 1 ∷ pos 2 ∷ pos 3 ∷ pos 4 ∷ pos 5 ∷ pos 6 ∷ pos 7 ∷ pos 8 ∷ pos 9 ∷ pos 10 ∷ pos 11 ∷ pos 12 ∷ []

-- a compiled netlist: generated matrix of two rows and two columns, seed 1
abbrev pub compiled : Netlist
compiled = record {
  head = record { m = 2; n = 2; operations = 15; width = 16 };
  operations =
      operation 0 0 0 1 1 18
      ∷ operation 1 0 0 1 2 19
      ∷ operation 0 0 0 2 2 20
      ∷ operation 0 0 15 1 1 32
      ∷ operation 1 2 6 2 9 27
      ∷ operation 1 2 13 5 0 32
      ∷ operation 1 6 0 4 1 27
      ∷ operation 0 7 0 8 0 32
      ∷ operation 0 0 0 0 11 28
      ∷ operation 1 1 0 1 2 18
      ∷ operation 0 3 3 3 9 28
      ∷ operation 0 3 13 10 0 32
      ∷ operation 0 11 0 4 5 25
      ∷ operation 1 12 0 13 0 32
      ∷ operation 0 14 0 15 0 32
      ∷ [];
  outputs = output 0 9 0 32 ∷ output 0 16 0 32 ∷ [];
  totals = record { operations = 15; depth = 4 };
}

abbrev pub noise : List (List ℤ)
noise =
    (pos 713 ∷ pos 14225 ∷ [])
    ∷ (negsuc 28966 ∷ pos 28262 ∷ [])
    ∷ (negsuc 124 ∷ negsuc 25971 ∷ [])
    ∷ (negsuc 12209 ∷ negsuc 17929 ∷ [])
    ∷ (pos 15963 ∷ pos 28713 ∷ [])
    ∷ (negsuc 449 ∷ pos 17138 ∷ [])
    ∷ []

pub record MarkedClocks : Type 0 where
  pub three_registers : registers three_minus_three ≡ 2
  pub three_outputs : clocked_outputs three_minus_three (pos 7 ∷ pos 7 ∷ pos 7 ∷ []) four ≡ (pos 0 ∷ []) ∷ (pos 0 ∷ []) ∷ (pos 12 ∷ []) ∷ (pos 0 ∷ []) ∷ []
  pub three_store : clocked_store three_minus_three (pos 7 ∷ pos 7 ∷ pos 7 ∷ []) four ≡ negsuc 8 ∷ pos 3 ∷ pos 7 ∷ []
  -- an empty list still clears
  pub none-clocked : clocked_store three_minus_three (pos 7 ∷ pos 7 ∷ pos 7 ∷ []) [] ≡ pos 0 ∷ pos 0 ∷ pos 7 ∷ []
  pub small-registers : registers small ≡ 10
  pub small-outputs : clocked_outputs small lent trace
      ≡ (pos 0 ∷ pos 0 ∷ pos 0 ∷ pos 0 ∷ pos 0 ∷ [])
      ∷ (pos 0 ∷ pos 0 ∷ pos 0 ∷ pos 0 ∷ pos 0 ∷ [])
      ∷ (pos 0 ∷ pos 0 ∷ pos 0 ∷ pos 0 ∷ pos 0 ∷ [])
      ∷ (pos 156 ∷ negsuc 7 ∷ negsuc 4 ∷ pos 0 ∷ pos 78 ∷ [])
      ∷ (pos 11832 ∷ negsuc 992 ∷ pos 7 ∷ pos 0 ∷ pos 5916 ∷ [])
      ∷ (negsuc 1179623 ∷ pos 65535 ∷ pos 32767 ∷ pos 0 ∷ negsuc 589811 ∷ [])
      ∷ []
  pub small-store : clocked_store small lent trace
      ≡ negsuc 12 ∷ pos 68 ∷ pos 0 ∷ pos 33 ∷ negsuc 3 ∷ pos 9 ∷ pos 1 ∷ pos 0 ∷ pos 11 ∷ pos 0 ∷ pos 11 ∷ pos 12 ∷ []
  pub compiled-registers : registers compiled ≡ 18
  pub compiled-outputs : clocked_outputs compiled (replicate 18 (pos 1)) noise
      ≡ (pos 0 ∷ pos 0 ∷ [])
      ∷ (pos 0 ∷ pos 0 ∷ [])
      ∷ (pos 0 ∷ pos 0 ∷ [])
      ∷ (pos 0 ∷ pos 0 ∷ [])
      ∷ (pos 202211508 ∷ pos 433318732 ∷ [])
      ∷ (pos 1162373018 ∷ pos 1151408029 ∷ [])
      ∷ []
  pub compiled-store : clocked_store compiled (replicate 18 (pos 1)) noise
      ≡ pos 33826 ∷ negsuc 69001 ∷ pos 309519 ∷ negsuc 14711323 ∷ negsuc 32878271 ∷ pos 78069678 ∷ pos 21944340 ∷ negsuc 398657589 ∷ negsuc 922049 ∷ negsuc 51413 ∷ negsuc 51422279 ∷ negsuc 777390500 ∷ negsuc 6489889 ∷ negsuc 431542429 ∷ negsuc 802404526 ∷ negsuc 449 ∷ pos 6343700 ∷ negsuc 86138 ∷ []
