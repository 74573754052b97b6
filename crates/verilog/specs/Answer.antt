-- What hosts are told of the text that was written, or of a refusal.
-- Assumes nothing.
use Rattle.std.specs.Prelude.{ℕ, Result, Ok, Err}
use Rattle.refusals.specs.Numbers.{number}
use Rattle.refusals.specs.declared.Refused.{Refused}
use Rattle.verilog_rules.specs.Answer.{verilog_refused}
use Rattle.verilog_rules.specs.declared.VerilogAnswer.{VerilogAnswer}

abbrev pub answer_of : Result ℕ Refused → VerilogAnswer
answer_of (Ok written) = record { refusal = 0; place = 0; written = written }
answer_of (Err r) = verilog_refused (number r.refusal) r.place
