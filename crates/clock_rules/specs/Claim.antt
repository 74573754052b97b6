-- Document 01, "One vector every clock": what is claimed of the calls registers and clock beside read and run.
-- Assumes nothing.
use Rattle.std.specs.Prelude.{ℕ, ◌+◌, ◌*◌, ◌≤◌, ◌<◌, ◌≡◌, List, [], ℤ, pos, length, get_or, take, drop}
use Rattle.layout_rules.specs.Matrix.{matrix}
use Rattle.layout_rules.specs.Records.{Netlist}
use Rattle.board_rules.specs.Machine.{entry_at, times}
use Rattle.board_rules.specs.Width.{Samples}
use Rattle.netlist_rules.specs.Read.{read_answer}
use Rattle.netlist_rules.specs.Run.{ran, run_answer, run_outputs}
use Rattle.netlist_rules.specs.Exact.{IsNetlistBytes}
use Rattle.clock_rules.specs.Delays.{netlist_depth, registers}
use Rattle.clock_rules.specs.Answer.{registers_answer, vector_count, clock_answer, clock_outputs, clock_store}
use Rattle.clock_rules.specs.Tests.{WholeVectors}

-- the bytes of a netlist, in-range samples in whole vectors, a store with room for the registers, and m outputs for each vector
pub record GivenList (bytes : List ℕ) (net : Netlist) (samples store outputs : List ℤ) : Type 0 where
  pub netlist : IsNetlistBytes bytes net
  pub room : registers net ≤ length store
  pub whole : WholeVectors net.head.n (length samples)
  pub lent : length outputs ≡ vector_count net.head.n (length samples) * net.head.m
  pub in_range : Samples net.head.width (length samples) samples

-- the vector of clock t
abbrev pub vector_of_clock : Netlist → List ℤ → ℕ → List ℤ
vector_of_clock net samples t = take net.head.n (drop (t * net.head.n) samples)

-- output i of clock t, of m a clock
abbrev pub output_of_clock : Netlist → List ℤ → ℕ → ℕ → ℤ
output_of_clock net outputs t i = entry_at outputs (t * net.head.m + i)

-- "For every list of in-range vectors, one a clock, the output at clock t + depth, within the list, is run's for the vector of clock t, and
-- outputs before clock depth are zero."
pub record ClockedRun (bytes : List ℕ) (net : Netlist) (samples store outputs : List ℤ) : Type 0 where
  pub accepts : clock_answer bytes samples (length store) (length outputs) ≡ ran 0 0
  pub reported : registers_answer bytes ≡ record { refusal = 0; place = 0; registers = registers net }
  pub depth-read : (read_answer bytes).depth ≡ netlist_depth net
  -- run takes the vector of clock t, with any m outputs lent
  pub runs : (t : ℕ) (lent : List ℤ) → t < vector_count net.head.n (length samples) → length lent ≡ net.head.m
      → run_answer bytes (vector_of_clock net samples t) (length lent) ≡ ran 0 0
  pub later : (t i : ℕ) (lent : List ℤ) → t + netlist_depth net < vector_count net.head.n (length samples) → i < net.head.m → length lent ≡ net.head.m
      → output_of_clock net (clock_outputs bytes samples store outputs) (t + netlist_depth net) i ≡ entry_at (run_outputs bytes (vector_of_clock net samples t) lent) i
  pub before : (t i : ℕ) → t < netlist_depth net → t < vector_count net.head.n (length samples) → i < net.head.m
      → output_of_clock net (clock_outputs bytes samples store outputs) t i ≡ pos 0
  pub rest : drop (registers net) (clock_store bytes samples store (length outputs)) ≡ drop (registers net) store

-- of a netlist of a matrix: the output at clock t + depth is row times the vector of clock t
pub record ClockedRows (matrix_bytes bytes : List ℕ) (net : Netlist) (samples store outputs : List ℤ) : Type 0 where
  pub clocked : ClockedRun bytes net samples store outputs
  pub row-times-vector : (t i : ℕ) → t + netlist_depth net < vector_count net.head.n (length samples) → i < net.head.m
      → output_of_clock net (clock_outputs bytes samples store outputs) (t + netlist_depth net) i
      ≡ times (get_or (matrix matrix_bytes) i []) (vector_of_clock net samples t)
