-- What the proofs of writers cite: each is a run of shorter ones, and a number has so many digits at most.
-- Assumes nothing.
use Rattle.text.proofs.Decimal.{length_short, length_long}
use Rattle.text.proofs.Wrote.{wrote_copy, wrote_more}

pub ruleset writers = (wrote_copy, wrote_more, length_short, length_long)
