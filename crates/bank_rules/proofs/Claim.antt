-- The claim of demand 3 holds, and what joins the laws of compile and of read and run: a compiled netlist is a netlist as read takes
-- it, and the bytes written are its bytes.
-- Assumes nothing.
use Prim.Native.Nat.{ℕ, ◌+◌, ◌≤◌, ◌<◌}
use mathlib.Core.Path.{◌≡◌, refl, sym, ap, ap₂, ◌∙◌, subst}
use mathlib.Core.List.{List, Memᴰ}
use native.Mathlib.Omega.{arith}
use lib.IntN.{ℤ}
use lib.ListN.{length, get_or, drop}
use lib.Seq.{take-append_seam}
use Rattle.limits.specs.Limits.{positions, max_operations}
use Rattle.limits.specs.Size.{SampleWidth}
use Rattle.limits.proofs.Numbers.{compiled_narrower}
use Rattle.elimination_rules.specs.declared.Divisor.{Divisor}
use Rattle.elimination_rules.specs.Rows.{Row, matrix_rows}
use Rattle.elimination_rules.specs.Divisors.{Pair, occurrences}
use Rattle.elimination_rules.specs.Elimination.{shallowest_first, matrix_elimination}
use Rattle.elimination_rules.specs.Steps.{Steps}
use Rattle.elimination_rules.proofs.RowOrder.{row_at, occurrence}
use Rattle.elimination_rules.proofs.Elimination.{steps_of, remaining-overlap}
use Rattle.layout_rules.specs.Matrix.{matrix_refusal, matrix, rows, columns}
use Rattle.layout_rules.specs.Records.{Netlist}
use Rattle.layout_rules.specs.Places.{enough_bytes}
use Rattle.layout_rules.proofs.MatrixRefusal.{matrix-accepted}
use Rattle.board_rules.specs.Width.{Samples}
use Rattle.board_rules.specs.Netlist.{IsNetlist}
use Rattle.board_rules.proofs.NetlistLaws.{Wider, netlist_wider}
use Rattle.compile_rules.specs.declared.CompileAnswer.{CompileAnswer}
use Rattle.compile_rules.specs.Compile.{elimination_of, netlist_of, compiled_netlist, compiled_bytes, compile_accepted, input_refusal, compile_answer, compile_buffer}
use Rattle.compile_rules.specs.Compiled.{compiled_limits, AcceptedAnswer}
use Rattle.compile_rules.proofs.Limits.{rows-columns, accepted-within}
use Rattle.compile_rules.proofs.Compiled.{compiled-times, compiled-is, compiled-answer, compiled-length, input-accepted, answer-accepted, buffer-accepted}
use Rattle.netlist_rules.specs.declared.ReadAnswer.{ReadAnswer}
use Rattle.netlist_rules.specs.declared.RunAnswer.{RunAnswer}
use Rattle.netlist_rules.specs.Read.{read_accepted, read_answer}
use Rattle.netlist_rules.specs.Check.{checked, check_answer}
use Rattle.netlist_rules.specs.Run.{ran, run_answer, run_outputs, netlist_outputs}
use Rattle.netlist_rules.specs.Exact.{read_limits, IsNetlistBytes, IsNetlistOf}
use Rattle.netlist_rules.proofs.ReadAccepts.{reading_of, read_answer_lem}
use Rattle.netlist_rules.proofs.CheckAccepts.{netlist-checked}
use Rattle.netlist_rules.proofs.RunLaws.{run_fills}
use Rattle.bank_rules.specs.declared.Answers.{Answers}
use Rattle.bank_rules.specs.Claim.{MatrixWithinLimits, Given, bytes_written, Overlap, Claim, answers_of, outputs_after, Demand}

-- ---- a matrix within the limits is what compile does not refuse for the matrix's sake

module _ (bytes : List ℕ) where
  pub not-refused : MatrixWithinLimits bytes → matrix_refusal bytes ≡ 0
  not-refused w = (matrix-accepted bytes).1 w.within

  pub within-limits : ((i : ℕ) → get_or bytes i 0 < 256) → matrix_refusal bytes ≡ 0 → MatrixWithinLimits bytes
  within-limits all e = record { are-bytes = all; within = (matrix-accepted bytes).0 e }

-- ---- a compiled netlist is a netlist as read takes it: read's limits are wider

pub read-takes_wider : {s : ℕ} → SampleWidth s → Wider (compiled_limits s) (read_limits s)
read-takes_wider bits = record { same-samples = refl; more-positions = omega arith; wider = compiled_narrower bits; more-operations = omega arith }

-- ---- the head and the bytes written

head_rows : (s : ℕ) (bytes : List ℕ) → (compiled_netlist s bytes).head.m ≡ rows bytes
unfolding netlist_of
head_rows s bytes = refl

head-samples : (s : ℕ) (bytes : List ℕ) (samples : List ℤ) → Samples s (columns bytes) samples
    → Samples (compiled_netlist s bytes).head.width (compiled_netlist s bytes).head.n samples
unfolding netlist_of
head-samples s bytes samples x = x

pub bytes-written : (s : ℕ) (matrix_bytes buffer : List ℕ) → input_refusal s matrix_bytes ≡ 0 → length (compiled_bytes s matrix_bytes) ≤ length buffer
    → bytes_written (compile_answer s matrix_bytes (length buffer)) (compile_buffer s matrix_bytes buffer) ≡ compiled_bytes s matrix_bytes
bytes-written s matrix_bytes buffer e room =
    let bytes : List ℕ = compiled_bytes s matrix_bytes in
    ap₂ bytes_written (answer-accepted s matrix_bytes (length buffer) e room) (buffer-accepted s matrix_bytes buffer e room)
    ∙ take-append_seam bytes (drop (length bytes) buffer)

-- ---- a matrix within the limits

module _ (s : ℕ) (bits : SampleWidth s) (matrix_bytes : List ℕ) (w : MatrixWithinLimits matrix_bytes) where
  refusal : matrix_refusal matrix_bytes ≡ 0
  refusal = not-refused matrix_bytes w

  compiled : IsNetlist (compiled_limits s) (compiled_netlist s matrix_bytes)
  compiled = compiled-is s matrix_bytes w.are-bytes refusal bits

  netlist-there : IsNetlistBytes (compiled_bytes s matrix_bytes) (compiled_netlist s matrix_bytes)
  unfolding netlist_of
  netlist-there = record { netlist = netlist_wider (read-takes_wider bits) compiled; bytes = refl }

  answer : AcceptedAnswer s (rows matrix_bytes) max_operations (compile_accepted s matrix_bytes)
  answer = compiled-answer s matrix_bytes w.are-bytes refusal

  -- "6,137 bytes always suffice": so much room is long enough for any matrix's netlist
  pub always_long_enough : (buffer : List ℕ) → enough_bytes ≤ length buffer → length (compiled_bytes s matrix_bytes) ≤ length buffer
  always_long_enough buffer room = omega (arith, compiled-length s matrix_bytes w.are-bytes refusal)

  -- what compile writes is a netlist of the matrix
  pub compiled-netlist-of : IsNetlistOf matrix_bytes (compiled_bytes s matrix_bytes) (compiled_netlist s matrix_bytes)
  unfolding netlist_of
  compiled-netlist-of = record {
    within-limits = refusal;
    netlist = netlist-there;
    size = record { same_rows = refl; same-columns = refl };
    computes = λ xs vector. compiled-times s matrix_bytes w.are-bytes refusal xs vector.count;
  }

  -- so the checker passes it
  pub compiled-checked : check_answer matrix_bytes (compiled_bytes s matrix_bytes) ≡ checked 0 0
  compiled-checked = netlist-checked matrix_bytes (compiled_bytes s matrix_bytes) (compiled_netlist s matrix_bytes) compiled-netlist-of

  -- document 01's elimination of the matrix
  steps : let e = elimination_of matrix_bytes in Steps (columns matrix_bytes) (matrix_rows positions (matrix matrix_bytes)) e.divisors e.replacements e.remaining_rows
  unfolding matrix_elimination
  steps = steps_of (shallowest_first (columns matrix_bytes)) positions (columns matrix_bytes) (matrix matrix_bytes)

  all-overlap : (d : Divisor) (i j : ℕ) (p q : Pair)
      → Memᴰ p (occurrences d (row_at (elimination_of matrix_bytes).remaining_rows i))
      → Memᴰ q (occurrences d (row_at (elimination_of matrix_bytes).remaining_rows j)) → Overlap i p j q
  unfolding matrix_elimination
  all-overlap d i j p q first second =
      let remaining : List Row = (elimination_of matrix_bytes).remaining_rows in
      remaining-overlap (shallowest_first (columns matrix_bytes)) positions (columns matrix_bytes) (matrix matrix_bytes)
      (rows-columns positions (columns matrix_bytes) (matrix matrix_bytes) (accepted-within matrix_bytes w.are-bytes refusal).coefficients)
      d i j p q (occurrence d (row_at remaining i) p first) (occurrence d (row_at remaining j) q second)

  -- what the contracts of compile, read and run say of their answers, of the buffer and of the outputs is enough for the claim
  module _ (buffer : List ℕ) (samples outputs : List ℤ) (answers : Answers) (vector : Samples s (columns matrix_bytes) samples)
      (compiles : answers.compile ≡ compile_accepted s matrix_bytes) (written : bytes_written answers.compile buffer ≡ compiled_bytes s matrix_bytes)
      (reads : answers.read ≡ read_accepted (compiled_netlist s matrix_bytes)) (runs : answers.run ≡ ran 0 0)
      (filled : outputs ≡ netlist_outputs (compiled_netlist s matrix_bytes) samples) where
    there : IsNetlistBytes (bytes_written answers.compile buffer) (compiled_netlist s matrix_bytes)
    there = subst (λ b. IsNetlistBytes b (compiled_netlist s matrix_bytes)) (sym written) netlist-there

    plain : answers.compile.plain ≡ (compile_accepted s matrix_bytes).plain
    plain = ap (λ (a : CompileAnswer). a.plain) compiles

    divisors : answers.compile.divisors ≡ (compile_accepted s matrix_bytes).divisors
    divisors = ap (λ (a : CompileAnswer). a.divisors) compiles

    replacements : answers.compile.replacements ≡ (compile_accepted s matrix_bytes).replacements
    replacements = ap (λ (a : CompileAnswer). a.replacements) compiles

    count : length (compiled_netlist s matrix_bytes).operations + answers.compile.replacements ≡ answers.compile.plain + answers.compile.divisors
    count = omega (arith, plain, divisors, replacements, compiled.count, answer.operations)

    fewer : length (compiled_netlist s matrix_bytes).operations + answers.compile.divisors ≤ answers.compile.plain
    fewer = omega (arith, plain, divisors, compiled.count, answer.fewer)

    pub claim_of_answers : Claim s matrix_bytes buffer samples outputs answers
    unfolding netlist_of
    claim_of_answers = record {
      compile_accepts = (ap (λ (a : CompileAnswer). a.refusal) compiles, ap (λ (a : CompileAnswer). a.place) compiles);
      read-accepts = (ap (λ (a : ReadAnswer). a.refusal) reads, ap (λ (a : ReadAnswer). a.place) reads);
      run_accepts = (ap (λ (a : RunAnswer). a.refusal) runs, ap (λ (a : RunAnswer). a.place) runs);
      as_many_bytes = ap length written ∙ sym (ap (λ (a : CompileAnswer). a.written) compiles);
      netlist = compiled_netlist s matrix_bytes;
      its_bytes = there;
      its_width = refl;
      its_reading = reading_of (bytes_written answers.compile buffer) (compiled_netlist s matrix_bytes) there;
      read-rows = ap (λ (a : ReadAnswer). a.m) reads;
      read-columns = ap (λ (a : ReadAnswer). a.n) reads;
      read-operations = ap (λ (a : ReadAnswer). a.operations) reads ∙ sym (ap (λ (a : CompileAnswer). a.operations) compiles);
      read-depth = ap (λ (a : ReadAnswer). a.depth) reads ∙ sym (ap (λ (a : CompileAnswer). a.depth) compiles);
      machine-outputs = filled;
      row-times-vector = filled ∙ compiled-times s matrix_bytes w.are-bytes refusal samples vector.count;
      operation-within = λ before after o e. (compiled.operation before after o e).width.width.holds samples vector;
      output-within = λ before after o e. (compiled.output before after o e).width.width.holds samples vector;
      elimination = elimination_of matrix_bytes;
      by_the_rules = refl;
      plain-reported = plain;
      divisors-reported = divisors;
      replacements-reported = replacements;
      operation-count = omega (arith, count);
      operation-count-added = count;
      operations-reported = ap (λ (a : CompileAnswer). a.operations) compiles ∙ sym compiled.count;
      at_most = omega (arith, fewer);
      at_most-added = fewer;
      negated-reported = ap (λ (a : CompileAnswer). a.negated) compiles;
      -- by search, which finds a weaker sentence too: that this one is not weaker is seen in Scores
      occurrences-overlap = search all-overlap;
      very_operations = refl;
      very_outputs = refl;
      way_to_those_rows = steps;
    }

-- ---- the theorem

-- of any buffer, outputs and answers that are what the contracts of compile, read and run say
module _ (s : ℕ) (matrix_bytes buffer after : List ℕ) (samples outputs filled : List ℤ) (answers : Answers)
    (compiles : answers.compile ≡ compile_answer s matrix_bytes (length buffer)) (writes : after ≡ compile_buffer s matrix_bytes buffer)
    (reads : answers.read ≡ read_answer (bytes_written answers.compile after))
    (runs : answers.run ≡ run_answer (bytes_written answers.compile after) samples (length outputs))
    (fills : filled ≡ run_outputs (bytes_written answers.compile after) samples outputs) where
  pub claim_of_contracts : Given s matrix_bytes buffer samples outputs → Claim s matrix_bytes after samples filled answers
  claim_of_contracts given =
      let w : MatrixWithinLimits matrix_bytes = given.within-limits in
      let e : input_refusal s matrix_bytes ≡ 0 = input-accepted s matrix_bytes given.sample-width (not-refused matrix_bytes w) in
      let net : Netlist = compiled_netlist s matrix_bytes in
      let bytes : List ℕ = bytes_written answers.compile after in
      let written : bytes ≡ compiled_bytes s matrix_bytes = ap₂ bytes_written compiles writes ∙ bytes-written s matrix_bytes buffer e given.long_enough in
      let there : IsNetlistBytes bytes net = subst (λ b. IsNetlistBytes b net) (sym written) (netlist-there s given.sample-width matrix_bytes w) in
      let run = run_fills bytes samples outputs net there (head-samples s matrix_bytes samples given.vector) (given.one_per_row ∙ sym (head_rows s matrix_bytes)) in
      claim_of_answers s given.sample-width matrix_bytes w after samples filled answers given.vector
      (compiles ∙ answer-accepted s matrix_bytes (length buffer) e given.long_enough) written (reads ∙ read_answer_lem bytes net there) (runs ∙ run.0) (fills ∙ run.1)

  -- and they are those that the definitions of the three calls give, whether they accept or not
  lent : bytes_written answers.compile after ≡ bytes_written (compile_answer s matrix_bytes (length buffer)) (compile_buffer s matrix_bytes buffer)
  lent = ap₂ bytes_written compiles writes

  pub calls_are : (answers ≡ answers_of s matrix_bytes buffer samples outputs) × ((after ≡ compile_buffer s matrix_bytes buffer)
      × ((filled ≡ outputs_after s matrix_bytes buffer samples outputs) × (Given s matrix_bytes buffer samples outputs → Claim s matrix_bytes after samples filled answers)))
  calls_are = (same_answers, (writes, (fills ∙ ap (λ b. run_outputs b samples outputs) lent, claim_of_contracts)))
    where
      same_answers : answers ≡ answers_of s matrix_bytes buffer samples outputs
      same_answers i = record {
        compile = compiles i;
        read = (reads ∙ ap read_answer lent) i;
        run = (runs ∙ ap (λ b. run_answer b samples (length outputs)) lent) i;
      }

pub claim_holds : Demand
claim_holds s matrix_bytes buffer samples outputs =
    claim_of_contracts s matrix_bytes buffer (compile_buffer s matrix_bytes buffer) samples outputs (outputs_after s matrix_bytes buffer samples outputs)
    (answers_of s matrix_bytes buffer samples outputs) refl refl refl refl refl
