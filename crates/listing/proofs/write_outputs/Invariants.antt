-- No line of an output is longer than the longest. Assumes nothing.
use Rattle.listing_rules.specs.Records.{longest_output_line}
use Rattle.listing.proofs.write_outputs.Given as goal

abbrev pub ghost-write_lines : goal.ghost-write_lines
ghost-write_lines a = longest_output_line
