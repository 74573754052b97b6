-- `generator::write_record` meets its contract. Assumes nothing.
use Rattle.std.proofs.Common.{ℕ, ◌*◌, ◌≤◌, length, sym, ap, ◌∙◌, arith}
use Rattle.layout_rules.specs.Matrix.{matrix_length}
use Rattle.layout_matrix.proofs.HeadLaws.{record-written}
use Rattle.generator.proofs.Answer.{generated_length, size-refused, short-refused, generate_accepted_lem}
use Rattle.generator.specs.Generator.{generated_words, generated_record}
use Rattle.generator.proofs.States.{length_generated}
use Rattle.generator.proofs.write_record.Goals as goal

pub returns-then-size_outside : goal.returns-then-size_outside
returns-then-size_outside c =
    let both = size-refused c.args.m c.args.n c.args.seed c.args.buffer.now (sym c.size_outside.ensures ∙ c.if-size_outside.true) in
    record { value = both.0; buffer_after = both.1 }

pub returns-then-buffer-size : goal.returns-then-buffer-size
returns-then-buffer-size c =
    let inside = sym c.size_outside.ensures ∙ c.if-size_outside.false in
    let both = short-refused c.args.m c.args.n c.args.seed c.args.buffer.now inside (omega (arith, c.coefficient_place-size.ensures, c.if-buffer-size.true)) in
    record { value = both.0; buffer_after = both.1 }

pub returns : goal.returns
unfolding generated_record
returns c =
    let m = c.args.m in
    let n = c.args.n in
    let inside = sym c.size_outside.ensures ∙ c.if-size_outside.false in
    let size = c.coefficient_place-size.ensures in
    let room : matrix_length m n ≤ length c.args.buffer.now = omega (arith, size, c.if-buffer-size.false) in
    let words = generated_words c.args.seed (m * n) in
    let both = generate_accepted_lem m n c.args.seed c.args.buffer.now inside room in record {
      value = ap (λ (x : ℕ). record { refusal = 0; place = 0; written = x }) (size ∙ sym (generated_length m n c.args.seed)) ∙ both.0;
      buffer_after = c.write_coefficients.ensures ∙ record-written m n words c.args.buffer.now _ (length_generated c.args.seed (m * n)) room c.write_matrix_head.ensures ∙ both.1;
    }
