use Rattle.std.proofs.Common.{sym, rules}
use Rattle.selection.proofs.AsRuns.{indices_listed_fault, runs_listed_fault}
use Rattle.selection.proofs.Objections.{answered_ok, ok_answered}
use Rattle.selection.proofs.selections.Selection.check.Goals as goal

pub returns-in_err-count_items-in-Indices : goal.returns-in_err-count_items-in-Indices
returns-in_err-count_items-in-Indices c = rw (c.in-Indices.is, ← indices_listed_fault c.in-Indices.indices c.in-Indices.len) (search rules)

pub returns-in_ok-count_items-in-Indices : goal.returns-in_ok-count_items-in-Indices
returns-in_ok-count_items-in-Indices c = rw (c.in-Indices.is, ← indices_listed_fault c.in-Indices.indices c.in-Indices.len) (ok_answered _ _ (answered_ok _ _ _ (sym c.in_ok-count_items-in-Indices.ensures)))

pub returns-in_err-count_items-in-Runs : goal.returns-in_err-count_items-in-Runs
returns-in_err-count_items-in-Runs c = rw (c.in-Runs.is, ← runs_listed_fault c.in-Runs.runs c.in-Runs.len) (search rules)

pub returns-in_ok-count_items-in-Runs : goal.returns-in_ok-count_items-in-Runs
returns-in_ok-count_items-in-Runs c = rw (c.in-Runs.is, ← runs_listed_fault c.in-Runs.runs c.in-Runs.len) (search rules)
