-- Document 01, "Programs": what the program check-bank prints for a matrix's bytes and a netlist.
-- Assumes nothing.
use Rattle.std.specs.Prelude.{ℕ, zero, suc, List}
use Rattle.netlist_rules.specs.declared.CheckAnswer.{CheckAnswer}
use Rattle.netlist_rules.specs.Check.{check_answer}
use Rattle.text.specs.Text.{ascii, refused_line, longest_refused_line}
use Rattle.text.specs.Wrote.{text_in}

-- that the netlist computes the matrix, or the refusal's line
abbrev pub answer_text : CheckAnswer → List ℕ
answer_text answer = elim answer.refusal [ suc r ↦ refused_line (suc r) answer.place | zero ↦ ascii "accepted\n" ]

unfoldable pub check_text : List ℕ → List ℕ → List ℕ
check_text matrix_bytes netlist_bytes = answer_text (check_answer matrix_bytes netlist_bytes)

-- nothing where the lent text is shorter than the longest line
abbrev pub check_text_in : ℕ → List ℕ → List ℕ → List ℕ
check_text_in lent matrix_bytes netlist_bytes = text_in longest_refused_line lent (check_text matrix_bytes netlist_bytes)
