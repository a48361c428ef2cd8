-- Runs one after another.
use Rattle.std.proofs.Common.{◌≡◌, ℕ, ◌+◌, ◌<◌, List, [], ◌∷◌, ◌++◌, length, get_or, drop, ap}
use Rattle.std.specs.List.{flat_map, AllByRecursion}
use Rattle.std.proofs.lemmas.List.{drop_more}
use Rattle.selection.specs.declared.selections.Run.{Run}
use Rattle.selection.specs.Selected.{RunsRise, no_run, range}

-- the positions of a run, and those of the runs after it
pub run_parts : (rs : List Run) (k : ℕ) → k < length rs → flat_map range (drop k rs) ≡ range (get_or rs k no_run) ++ flat_map range (drop (k + 1) rs)
run_parts rs k l = ap (flat_map range) (drop_more rs k no_run l)

-- none is empty
pub runs_some : (lo hi : ℕ) (rs : List Run) → RunsRise lo hi rs → AllByRecursion (λ r. r.start < r.«end») rs
runs_some lo hi [] h = tt
runs_some lo hi (r ∷ rs) h = (h.1, runs_some r.«end» hi rs h.3)
