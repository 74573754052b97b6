-- Document 01, "Reading, checking, running" and "Why a record was declined": running a netlist on samples.
-- Assumes nothing.
use Rattle.std.specs.Prelude.{ℕ, zero, suc, ◌-◌, ◌^◌, Bool, true, false, List, [], ◌∷◌, map, ltb, eqb, ℤ, pos, negsuc, length}
use Rattle.layout_rules.specs.Records.{Netlist}
use Rattle.board_rules.specs.Machine.{machine, output_value}
use Rattle.netlist_rules.specs.Read.{refused, accepted, read_netlist}
use Rattle.netlist_rules.specs.declared.RunAnswer.{RunAnswer}

abbrev pub ran : ℕ → ℕ → RunAnswer
ran r place = record { refusal = r; place = place }

-- a sample fits the width s: it is between −2^(s−1) and 2^(s−1) − 1; negsuc k is −1 − k
abbrev pub fits : ℕ → ℤ → Bool
fits s (pos k) = ltb k (2 ^ (s - 1))
fits s (negsuc k) = ltb k (2 ^ (s - 1))

-- 21: the lowest index, counted from i, of a sample that doesn't fit the width
unfoldable pub fit_answer : ℕ → ℕ → List ℤ → RunAnswer
fit_answer s i [] = ran 0 0
fit_answer s i (x ∷ xs) = elim (fits s x) [ true ↦ fit_answer s (suc i) xs | false ↦ ran 21 i ]

-- 15: samples are not n; 16: outputs lent, so many, are not m; 21
unfoldable pub samples_answer : Netlist → List ℤ → ℕ → RunAnswer
samples_answer net samples outputs =
    elim (eqb (length samples) net.head.n) [
      | false ↦ ran 15 0
      | true ↦ elim (eqb outputs net.head.m) [ false ↦ ran 16 0 | true ↦ fit_answer net.head.width 0 samples ]
    ]

-- 7 to 12, 15, 16, 21, of a netlist's bytes, the samples and the number of outputs lent
unfoldable pub run_answer : List ℕ → List ℤ → ℕ → RunAnswer
run_answer bytes samples outputs =
    elim (read_netlist bytes) [ refused r place ↦ ran r place | accepted net ↦ samples_answer net samples outputs ]

-- the board machine's outputs
abbrev pub netlist_outputs : Netlist → List ℤ → List ℤ
netlist_outputs net samples = map (output_value (machine samples net.operations)) net.outputs

-- the lent outputs afterwards: the board machine's, or as they were where run refuses
unfoldable pub run_outputs : List ℕ → List ℤ → List ℤ → List ℤ
run_outputs bytes samples outputs =
    elim (read_netlist bytes) [
      | refused r place ↦ outputs
      | accepted net ↦ elim (samples_answer net samples (length outputs)).refusal [ suc r ↦ outputs | zero ↦ netlist_outputs net samples ]
    ]
