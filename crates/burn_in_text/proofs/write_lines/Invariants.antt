-- `burn_in_text::write_lines` meets its contract. The lines of the seeds so far are written. Assumes nothing.
use Rattle.std.proofs.Common.{◌≡◌, ◌-◌, ◌*◌, ◌%◌, ◌^◌, ◌≤◌, length}
use Rattle.text.specs.Wrote.{Wrote}
use Rattle.burn_in_text.specs.BurnInText.{burn_in_lines, longest_burn_in_line, seed_count}
use Rattle.burn_in_text.proofs.write_lines.Given as goal

abbrev pub invariant-loop : goal.invariant-loop
invariant-loop l =
    Wrote l.initial.text l.text l.at (burn_in_lines l.step l.counter)
    × (l.seed ≡ (l.counter * l.step) % 2 ^ 32)
    × (l.counter ≤ seed_count)
    × (l.at ≤ longest_burn_in_line * l.counter)
    × (length l.text ≡ length l.initial.text)

abbrev pub decreases-loop : goal.decreases-loop
decreases-loop l = seed_count - l.counter
