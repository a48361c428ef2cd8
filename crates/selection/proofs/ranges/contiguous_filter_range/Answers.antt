use Rattle.selection.proofs.AsRuns.{indices_listed_fault, indices_listed_positions, runs_listed_fault, runs_listed_positions}
use Rattle.selection.proofs.ranges.contiguous_filter_range.Goals as goal

pub returns-in-Indices-clause-value : goal.returns-in-Indices-clause-value
returns-in-Indices-clause-value c = rw (c.in-Indices.is, ← indices_listed_fault c.in-Indices.indices c.in-Indices.len, ← indices_listed_positions c.in-Indices.indices c.in-Indices.len) c.items_range.ensures

pub returns-in-Runs-clause-value : goal.returns-in-Runs-clause-value
returns-in-Runs-clause-value c = rw (c.in-Runs.is, ← runs_listed_fault c.in-Runs.runs c.in-Runs.len, ← runs_listed_positions c.in-Runs.runs c.in-Runs.len) c.items_range-in-Runs.ensures
