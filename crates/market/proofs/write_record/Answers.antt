-- `market::write_record` meets its contract. Assumes nothing.
use Prim.Native.Nat.{◌<◌}
use mathlib.Core.Path.{◌≡◌, ap, ◌∙◌}
use native.Mathlib.Omega.{arith}
use lib.ListN.{length}
use Rattle.std.specs.Prelude.{Err}
use Rattle.market_rules.specs.Answer.{answer_of}
use Rattle.market.specs.Parts.{record_of}
use Rattle.market.proofs.Record.{record-length, record-refused, record_left}
use Rattle.market.proofs.write_record.Goals as goal

pub returns-then-buffer-written : goal.returns-then-buffer-written
returns-then-buffer-written c =
    let size = c.args.size in
    let bytes = record_of size.m size.n c.args.words.now in
    let short : length c.args.buffer.now < length bytes = omega (arith, c.if-buffer-written.true, c.coefficient_place-written.ensures, c.requires.words_len, record-length size.m size.n c.args.words.now) in
    let both = record-refused bytes c.args.buffer.now short in
    record { value = ap (λ r. answer_of (Err r)) c.at.ensures ∙ both.0; buffer_after = both.1 }

pub returns : goal.returns
returns c =
    let size = c.args.size in
    let bytes = record_of size.m size.n c.args.words.now in
    let length-is : c.coefficient_place-written.result ≡ length bytes = omega (arith, c.coefficient_place-written.ensures, c.requires.words_len, record-length size.m size.n c.args.words.now) in
    let both = record_left size.m size.n c.args.words.now c.args.buffer.now _ _ _ length-is (omega (arith, c.if-buffer-written.false)) c.write_matrix_head.ensures c.write_coefficients.ensures in
    record { value = both.0; buffer_after = both.1 }
