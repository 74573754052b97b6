-- Document 01, "One vector every clock" and "Why a record was declined": what registers and clock answer, and what clock leaves in the lent
-- store and outputs.
-- Assumes nothing.
use Rattle.std.specs.Prelude.{ℕ, zero, suc, ◌*◌, ◌/◌, true, false, List, ltb, eqb, ℤ, length}
use Rattle.layout_rules.specs.declared.Head.{Head}
use Rattle.layout_rules.specs.Records.{Netlist}
use Rattle.netlist_rules.specs.declared.RunAnswer.{RunAnswer}
use Rattle.netlist_rules.specs.Read.{refused, accepted, read_netlist}
use Rattle.netlist_rules.specs.Run.{ran, fit_answer}
use Rattle.clock_rules.specs.declared.RegistersAnswer.{RegistersAnswer}
use Rattle.clock_rules.specs.Delays.{registers}
use Rattle.clock_rules.specs.Clocked.{clocked_outputs, clocked_store, vectors_of, in_order}

-- ---- registers

abbrev pub registers_refused : ℕ → ℕ → RegistersAnswer
registers_refused r place = record { refusal = r; place = place; registers = 0 }

-- "a call with read's refusals reports the total"
unfoldable pub registers_answer : List ℕ → RegistersAnswer
registers_answer bytes =
    elim (read_netlist bytes) [ refused r place ↦ registers_refused r place | accepted net ↦ record { refusal = 0; place = 0; registers = registers net } ]

-- ---- clock

-- how many vectors of n samples so many samples are; with n = 0 there are none
abbrev pub vector_count : ℕ → ℕ → ℕ
vector_count zero samples = 0
vector_count (suc n) samples = samples / suc n

-- the vectors of a netlist's samples, one after another
abbrev pub vectors_in : Netlist → List ℤ → List (List ℤ)
vectors_in net samples = vectors_of net.head.n (vector_count net.head.n (length samples)) samples

-- 6: the store lent, of so many registers, has fewer; 15: samples not whole vectors; 16: outputs lent, so many, are not m for each vector;
-- 21 in the whole list
unfoldable pub list_answer : Head → ℕ → List ℤ → ℕ → ℕ → RunAnswer
list_answer head total samples store outputs =
    let clocks = vector_count head.n (length samples) in
    elim (ltb store total) [
      | true ↦ ran 6 0
      | false ↦ elim (eqb (length samples) (clocks * head.n)) [
        | false ↦ ran 15 0
        | true ↦ elim (eqb outputs (clocks * head.m)) [ false ↦ ran 16 0 | true ↦ fit_answer head.width 0 samples ]
      ]
    ]

-- 7 to 12, 6, 15, 16, 21, of a netlist's bytes, the samples, the length of the store and the number of outputs lent
unfoldable pub clock_answer : List ℕ → List ℤ → ℕ → ℕ → RunAnswer
clock_answer bytes samples store outputs =
    elim (read_netlist bytes) [ refused r place ↦ ran r place | accepted net ↦ list_answer net.head (registers net) samples store outputs ]

-- the lent outputs afterwards: m for each clock, or as they were where clock refuses
unfoldable pub clock_outputs : List ℕ → List ℤ → List ℤ → List ℤ → List ℤ
clock_outputs bytes samples store outputs =
    elim (read_netlist bytes) [
      | refused r place ↦ outputs
      | accepted net ↦ elim (list_answer net.head (registers net) samples (length store) (length outputs)).refusal [
        | suc r ↦ outputs
        | zero ↦ in_order (clocked_outputs net store (vectors_in net samples))
      ]
    ]

-- the lent store afterwards: the registers after the last edge, and behind them what stood there; or as it was where clock refuses, so
-- many outputs being lent
unfoldable pub clock_store : List ℕ → List ℤ → List ℤ → ℕ → List ℤ
clock_store bytes samples store outputs =
    elim (read_netlist bytes) [
      | refused r place ↦ store
      | accepted net ↦ elim (list_answer net.head (registers net) samples (length store) outputs).refusal [
        | suc r ↦ store
        | zero ↦ clocked_store net store (vectors_in net samples)
      ]
    ]
