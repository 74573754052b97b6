-- No seed is refused: compile takes every generated bank, and the checker passes its netlist. And the room for the text.
-- Assumes nothing.
use Rattle.std.proofs.Common.{◌≡◌, ℕ, ◌*◌, List, ◌++◌, refl, ap}
use Rattle.limits.specs.Limits.{unstated_width}
use Rattle.limits.specs.Size.{SizeLimits}
use Rattle.limits.proofs.Numbers.{unstated-width}
use Rattle.limits.proofs.Size.{size-within}
use Rattle.compile_rules.specs.Compile.{compile_accepted}
use Rattle.netlist_rules.specs.declared.CheckAnswer.{CheckAnswer}
use Rattle.generator.specs.Generator.{generated_record}
use Rattle.generator.proofs.Within.{generated_accepted, generated_checked}
use Rattle.text.specs.Decimal.{number}
use Rattle.text.specs.Text.{ascii}
use Rattle.burn_in_text.specs.BurnInText.{checked_text, outcome_text, burn_in_line, longest_burn_in_line, seed_count}

-- the bytes that suffice for the text
room : longest_burn_in_line * seed_count ≡ 64000
room = refl

eight_by_eight : SizeLimits 8 8
eight_by_eight = size-within 8 8 refl

pub no_seed-refused : (seed : ℕ)
    → burn_in_line seed ≡ ascii "seed " ++ number seed ++ ascii " " ++ (ascii "operations " ++ number (compile_accepted unstated_width (generated_record 8 8 seed)).operations ++ ascii "\n")
unfolding burn_in_line outcome_text
no_seed-refused seed = ap (λ (l : List ℕ). ascii "seed " ++ number seed ++ ascii " " ++ l) passed
  where
    passed : outcome_text (generated_record 8 8 seed) ≡ ascii "operations " ++ number (compile_accepted unstated_width (generated_record 8 8 seed)).operations ++ ascii "\n"
    passed =
        rw (generated_accepted 8 8 seed eight_by_eight, outcome_text)
        (ap (λ (a : CheckAnswer). checked_text a (compile_accepted unstated_width (generated_record 8 8 seed)).operations) (generated_checked 8 8 seed eight_by_eight unstated_width unstated-width))
