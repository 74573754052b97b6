-- No line of an operation is longer than the longest. Assumes nothing.
use Rattle.listing_rules.specs.Records.{longest_operation_line}
use Rattle.listing.proofs.write_operations.Given as goal

abbrev pub ghost-write_lines : goal.ghost-write_lines
ghost-write_lines a = longest_operation_line
