-- `bank_text::write_bank` meets its contract. Assumes nothing.
use Rattle.text.proofs.Wrote.{wrote_none, wrote_whole}
use Rattle.bank_text.specs.BankText.{longest_bank_text}
use Rattle.bank_text.proofs.write_bank.Goals as goal

pub returns-then-text-lt-ROOM : goal.returns-then-text-lt-ROOM
returns-then-text-lt-ROOM c =
    let both = wrote_none longest_bank_text _ _ c.if-text-lt-ROOM.true in
    record { wrote = both.0; prefix_length = both.1 }

pub returns : goal.returns
returns c =
    let both = wrote_whole longest_bank_text c.if-text-lt-ROOM.false c.write_text.ensures in
    record { wrote = both.0; prefix_length = both.1 }
