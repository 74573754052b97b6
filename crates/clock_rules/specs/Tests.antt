-- Document 01, "Why a record was declined": the tests of clock in their order, each with the number and the place that are returned where
-- it is the first that fails. Nothing here computes an answer; clock is held to this list, and registers to read's.
-- Assumes nothing.
use Rattle.std.specs.Prelude.{ℕ, ◌*◌, ◌≤◌, ◌≡◌, List, ◌∷◌, ◌++◌, ℤ, length}
use Rattle.layout_rules.specs.Places.{netlist_in}
use Rattle.layout_rules.specs.Tests.{Test, tested, first_tests}
use Rattle.netlist_rules.specs.Tests.{read_tests, sample_tests}
use Rattle.clock_rules.specs.Delays.{registers}
use Rattle.clock_rules.specs.Answer.{vector_count}

-- so many samples are whole vectors of n
abbrev pub WholeVectors : ℕ → ℕ → Type 0
WholeVectors n samples = (clocks : ℕ) × (samples ≡ clocks * n)

-- 6: the store has fewer registers; 15: samples not whole vectors; 16: outputs not m for each vector; 21 of each of the samples
unfoldable pub clock_tests : List ℕ → List ℤ → ℕ → ℕ → List Test
clock_tests bytes samples store outputs =
    let net = netlist_in bytes in
    let n = net.head.n in
    read_tests bytes
    ++ (tested 6 0 (registers net ≤ store)
    ∷ tested 15 0 (WholeVectors n (length samples))
    ∷ tested 16 0 (outputs ≡ vector_count n (length samples) * net.head.m)
    ∷ first_tests (sample_tests net.head.width samples) (length samples))
