use Rattle.std.proofs.Common.{sym}
use Rattle.selection.proofs.AsRuns.{indices_listed_fault, indices_listed_positions, runs_listed_fault, runs_listed_positions}
use Rattle.selection.proofs.Objections.{answered_ok}
use Rattle.selection.proofs.Listed.{count_window}
use Rattle.selection.proofs.selections.Selection.count.Goals as goal

pub returns-in_ok-check-in-Bitmap : goal.returns-in_ok-check-in-Bitmap
returns-in_ok-check-in-Bitmap c = rw c.in-Bitmap.is (count_window c.in-Bitmap.window c.ones.result (answered_ok _ _ _ (sym c.in_ok-check-in-Bitmap.ensures)) c.ones.ensures)

pub returns-in-Indices : goal.returns-in-Indices
returns-in-Indices c = rw (c.in-Indices.is, ← indices_listed_fault c.in-Indices.indices c.in-Indices.len, ← indices_listed_positions c.in-Indices.indices c.in-Indices.len) c.count_items.ensures

pub returns-in-Runs : goal.returns-in-Runs
returns-in-Runs c = rw (c.in-Runs.is, ← runs_listed_fault c.in-Runs.runs c.in-Runs.len, ← runs_listed_positions c.in-Runs.runs c.in-Runs.len) c.count_items-in-Runs.ensures
