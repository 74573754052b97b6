-- `burn_in_text::write_burn_in` meets its contract. Assumes nothing.
use Rattle.std.proofs.Common.{ℕ, ◌*◌, ap, arith}
use Rattle.text.proofs.Wrote.{wrote_as, wrote_none, wrote_whole}
use Rattle.burn_in_text.specs.BurnInText.{burn_in_lines, longest_burn_in_line, seed_count}
use Rattle.burn_in_text.proofs.write_burn_in.Goals as goal

pub returns-then-text-lt-ROOM : goal.returns-then-text-lt-ROOM
returns-then-text-lt-ROOM c =
    let both = wrote_none (longest_burn_in_line * seed_count) _ _ c.if-text-lt-ROOM.true in
    record { wrote = both.0; prefix_length = both.1 }

pub returns : goal.returns
returns c =
    let step = c.seed_step.ensures in
    let both = wrote_whole (longest_burn_in_line * seed_count) (omega arith) (wrote_as (ap (λ (x : ℕ). burn_in_lines x seed_count) step) c.write_lines.ensures) in
    record { wrote = both.0; prefix_length = both.1 }
