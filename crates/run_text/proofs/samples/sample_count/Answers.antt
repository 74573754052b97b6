-- `run_text::samples::sample_count` meets its contract. Assumes nothing.
use Rattle.run_text.proofs.SampleBytes.{count_where_whole, count_where_not-whole}
use Rattle.run_text.proofs.samples.sample_count.Goals as goal

pub returns-then-bytes-ne0 : goal.returns-then-bytes-ne0
returns-then-bytes-ne0 c = count_where_not-whole _ c.if-bytes-ne0.true

pub returns : goal.returns
returns c = count_where_whole _ c.if-bytes-ne0.false
