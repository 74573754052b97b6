-- Document 01, "Marked banks", as one table: the banks of `compile_rules`, and what list-bank prints for row 3, −3, with samples of
-- 16 and of 12 bits, for no bytes, for one byte and for a sample width of 7.
-- Assumes nothing.
use Rattle.std.specs.Prelude.{◌≡◌, [], ◌∷◌}
use Rattle.limits.specs.Limits.{unstated_width}
use Rattle.compile_rules.specs.Marked.{MarkedBanks, three_minus_three_record}
use Rattle.text.specs.Text.{ascii}
use Rattle.listing_rules.specs.Marked.{MarkedListing}
use Rattle.bank_text.specs.BankText.{bank_text}

pub record MarkedTable : Type 0 where
  pub banks : MarkedBanks
  pub lines : MarkedListing
  pub printed : bank_text unstated_width three_minus_three_record
      ≡ ascii "inputs 2 outputs 1 operations 2 plain 3 divisors 1 replacements 2 depth 2\n2 = 0<<0 - 1<<0 width 17\n3 = 2<<2 - 2<<0 width 19\nrow 0 = 3<<0 width 19\n"
  -- for samples of 12 bits the widths are 13, 15 and 15
  pub printed-twelve : bank_text 12 three_minus_three_record
      ≡ ascii "inputs 2 outputs 1 operations 2 plain 3 divisors 1 replacements 2 depth 2\n2 = 0<<0 - 1<<0 width 13\n3 = 2<<2 - 2<<0 width 15\nrow 0 = 3<<0 width 15\n"
  pub printed-none : bank_text unstated_width [] ≡ ascii "inputs 0 outputs 0 operations 0 plain 0 divisors 0 replacements 0 depth 0\n"
  pub printed-refusal : bank_text unstated_width (0x06 ∷ []) ≡ ascii "refused 1 at 0\n"
  pub printed-outside : bank_text 7 (0x06 ∷ []) ≡ ascii "refused 20 at 0\n"
