-- What is claimed of registers and clock holds: of every netlist that read accepts, and as row times vector of every one that the checker
-- passes for a matrix, so of what compile writes.
-- Assumes nothing.
use Prim.Native.Nat.{ℕ, zero, suc, ◌+◌, ◌*◌, ◌≤◌, ◌<◌}
use mathlib.Core.Path.{◌≡◌, refl, sym, ◌∙◌, ap, subst}
use mathlib.Core.List.{List, [], ◌∷◌, ◌++◌, map}
use native.Mathlib.Nat.{suc-mul, mul-le-mul_right}
use native.Mathlib.Omega.{arith}
use lib.IntN.{ℤ, pos}
use lib.ListN.{length, get_or, take, drop, replicate, length-append, length-drop, length-replicate}
use lib.Seq.{length-take-le, get_or-take, get_or-drop}
use Rattle.limits.specs.Size.{SampleWidth}
use Rattle.layout_rules.specs.declared.Operation.{Operation}
use Rattle.layout_rules.specs.Matrix.{matrix}
use Rattle.layout_rules.specs.Records.{Netlist}
use Rattle.board_rules.specs.Machine.{entry_at, times}
use Rattle.board_rules.specs.Netlist.{Limits, IsNetlist}
use Rattle.board_rules.specs.Width.{Within, Samples}
use Rattle.compile_rules.specs.Compile.{compiled_netlist, compiled_bytes, compile_answer, compile_buffer}
use Rattle.compile_rules.proofs.Compiled.{input-accepted}
use Rattle.netlist_rules.specs.declared.ReadAnswer.{ReadAnswer}
use Rattle.netlist_rules.specs.Read.{accepted, read_netlist}
use Rattle.netlist_rules.specs.Run.{ran, netlist_outputs, run_answer, run_outputs}
use Rattle.netlist_rules.specs.Exact.{IsNetlistOf}
use Rattle.netlist_rules.proofs.ReadAccepts.{reading_of, read_answer_lem}
use Rattle.netlist_rules.proofs.RunLaws.{run_fills, run_computes}
use Rattle.bank_rules.specs.Claim.{MatrixWithinLimits, bytes_written}
use Rattle.bank_rules.proofs.Claim.{not-refused, bytes-written, compiled-netlist-of}
use Rattle.clock_rules.specs.Delays.{symbols, netlist_depth, longest_delay, registers}
use Rattle.clock_rules.specs.Clocked.{delayed, clocked_outputs, in_order}
use Rattle.clock_rules.specs.Answer.{vector_count, vectors_in, clock_outputs}
use Rattle.clock_rules.specs.Claim.{GivenList, vector_of_clock, output_of_clock, ClockedRun, ClockedRows}
use Rattle.clock_rules.proofs.Pipeline.{StoreHolds}
use Rattle.clock_rules.proofs.Theorem.{netlist_earlier}
use Rattle.clock_rules.proofs.Flat.{later_in_order, zero_in_order}
use Rattle.clock_rules.proofs.Ranges.{AllSamples, delayed_keeps, rest-clocked}
use Rattle.clock_rules.proofs.AnswerLaws.{vectors-within, registers-accepted, given_accepts, accepted-leaves}

-- a vector of a list of samples of the width is one
pub vector-samples : (s n t clocks : ℕ) (samples : List ℤ) → Samples s (length samples) samples → t < clocks → clocks * n ≤ length samples
    → Samples s n (take n (drop (t * n) samples))
vector-samples s n t clocks samples x h l =
    let fits : suc t * n ≤ clocks * n = mul-le-mul_right n (omega arith) in
    let room : t * n + n ≤ length samples = omega (arith, fits, suc-mul t n) in record {
      count = length-take-le n (drop (t * n) samples) (omega (arith, room, length-drop (t * n) samples));
      within = λ j k. subst (λ z. Within s z) (sym (get_or-take n (drop (t * n) samples) j (pos 0) k ∙ get_or-drop (t * n) samples j (pos 0))) (x.within (t * n + j) (omega (arith, room)));
    }

module _ (b : List ℕ) (net : Netlist) (samples store outputs : List ℤ) (given : GivenList b net samples store outputs) where
  abbrev clocks : ℕ
  clocks = vector_count net.head.n (length samples)

  abbrev vector : ℕ → List ℤ
  vector = vector_of_clock net samples

  reading : read_netlist b ≡ accepted net
  reading = reading_of b net given.netlist

  of_width : (t : ℕ) → t < clocks → Samples net.head.width net.head.n (vector t)
  of_width t h = vector-samples net.head.width net.head.n t clocks samples given.in_range h (vectors-within net.head.n (length samples))

  abbrev fills : (t : ℕ) (lent : List ℤ) → t < clocks → length lent ≡ net.head.m
      → (run_answer b (vector t) (length lent) ≡ ran 0 0) × (run_outputs b (vector t) lent ≡ netlist_outputs net (vector t))
  fills t lent h l = run_fills b (vector t) lent net given.netlist (of_width t h) l

  left : clock_outputs b samples store outputs ≡ in_order (clocked_outputs net store (vectors_in net samples))
  left = (accepted-leaves b samples store outputs net reading (given_accepts b samples store outputs net given)).1

  pub clocked_run : ClockedRun b net samples store outputs
  clocked_run = record {
    accepts = given_accepts b samples store outputs net given;
    reported = registers-accepted b net reading;
    depth-read = ap (λ (a : ReadAnswer). a.depth) (read_answer_lem b net given.netlist) ∙ given.netlist.netlist.totals.deepest ∙ unfold netlist_depth in refl;
    runs = λ t lent h l. (fills t lent h l).0;
    later = λ t i lent h k l.
        ap (λ ys. output_of_clock net ys (t + netlist_depth net) i) left
        ∙ later_in_order net given.netlist.netlist store samples clocks (vectors-within net.head.n (length samples)) t i h k
        ∙ ap (λ ys. entry_at ys i) (sym (fills t lent (omega arith) l).1);
    before = λ t i d h k.
        ap (λ ys. output_of_clock net ys t i) left
        ∙ zero_in_order net given.netlist.netlist store samples clocks (vectors-within net.head.n (length samples)) t i d h k;
    rest = ap (drop (registers net)) (accepted-leaves b samples store outputs net reading (given_accepts b samples store outputs net given)).0
        ∙ rest-clocked net store (vectors_in net samples);
  }

-- ---- row times vector

row_entry : (rows : List (List ℤ)) (xs : List ℤ) (i : ℕ) → entry_at (map (λ row. times row xs) rows) i ≡ times (get_or rows i []) xs
unfolding times
row_entry [] xs i = refl
row_entry (row ∷ rows) xs zero = refl
row_entry (row ∷ rows) xs (suc i) = row_entry rows xs i

-- a netlist that the checker passes for the matrix, whoever made it
pub checked-clocked : (matrix_bytes b : List ℕ) (net : Netlist) (samples store outputs : List ℤ) → IsNetlistOf matrix_bytes b net
    → GivenList b net samples store outputs → ClockedRows matrix_bytes b net samples store outputs
checked-clocked matrix_bytes b net samples store outputs is given =
    let run : ClockedRun b net samples store outputs = clocked_run b net samples store outputs given in
    let lent : List ℤ = replicate net.head.m (pos 0) in
    let size : length lent ≡ net.head.m = length-replicate net.head.m (pos 0) in
    record {
      clocked = run;
      row-times-vector = λ t i h k.
          run.later t i lent h k size
          ∙ ap (λ ys. entry_at ys i) (run_computes matrix_bytes b net (vector_of_clock net samples t) lent is (of_width b net samples store outputs given t (omega arith)) size)
          ∙ row_entry (matrix matrix_bytes) (vector_of_clock net samples t) i;
    }

-- for every matrix within the limits, every sample width and every buffer long enough for the netlist: the bytes that compile wrote
pub compiled-clocked : (s : ℕ) (matrix_bytes buffer : List ℕ) (samples store outputs : List ℤ) → MatrixWithinLimits matrix_bytes → SampleWidth s
    → length (compiled_bytes s matrix_bytes) ≤ length buffer
    → let b = bytes_written (compile_answer s matrix_bytes (length buffer)) (compile_buffer s matrix_bytes buffer) in
    GivenList b (compiled_netlist s matrix_bytes) samples store outputs → ClockedRows matrix_bytes b (compiled_netlist s matrix_bytes) samples store outputs
compiled-clocked s matrix_bytes buffer samples store outputs w bits long given =
    let written = bytes-written s matrix_bytes buffer (input-accepted s matrix_bytes bits (not-refused matrix_bytes w)) long in
    checked-clocked matrix_bytes _ (compiled_netlist s matrix_bytes) samples store outputs
    (subst (λ b. IsNetlistOf matrix_bytes b (compiled_netlist s matrix_bytes)) (sym written) (compiled-netlist-of s bits matrix_bytes w)) given

-- ---- no register wraps

-- whatever in-range vectors came before: an operation's register and its delays hold values that fit the operation's recorded width
pub register_fits : (net : Netlist) {l : Limits} (is : IsNetlist l net) (past : List (List ℤ)) → AllSamples net.head.width net.head.n past
    → (store : List ℤ) → StoreHolds net past store → (xs : List ℤ) → Samples net.head.width net.head.n xs
    → (before after : List Operation) (o : Operation) → net.operations ≡ before ++ o ∷ after
    → (clocks : ℕ) → clocks ≤ longest_delay net (net.head.n + length before)
    → Within o.width (delayed net xs store (net.head.n + length before) clocks)
register_fits net {l} is past in_range store holds xs now before after o split clocks short =
    let symbol : ℕ = net.head.n + length before in
    let there : symbol < symbols net = omega (arith, ap length split, length-append before (o ∷ after)) in
    delayed_keeps net (netlist_earlier net is) net.head.width past in_range store holds xs now symbol clocks there short (Within o.width)
    (λ v x. (is.operation before after o split).width.width.holds v (subst (λ s. Samples s net.head.n v) is.head.samples x))
