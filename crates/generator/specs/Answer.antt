-- What generate answers, of a result: the bytes written, or the refusal's number, whose place is 0.
-- Assumes nothing.
use Rattle.std.specs.Prelude.{ℕ, Result, Ok, Err}
use Rattle.refusals.specs.declared.Refusal.{Refusal}
use Rattle.refusals.specs.Numbers.{number}
use Rattle.generator.specs.declared.GenerateAnswer.{GenerateAnswer}
use Rattle.generator.specs.Generator.{generate_refused}

abbrev pub answer_of : Result ℕ Refusal → GenerateAnswer
answer_of (Ok written) = record { refusal = 0; place = 0; written = written }
answer_of (Err refusal) = generate_refused (number refusal) 0
