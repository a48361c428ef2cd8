use Rattle.std.proofs.Common.{◌≡◌, ◌-◌, ◌≤◌, map, take, sum_by}
use Rattle.selection.proofs.AsRuns.{Checked}
use Rattle.selection.proofs.items.count_items.Given as goal

-- the items so far, and their positions
abbrev pub invariant-loop-place : goal.invariant-loop-place
invariant-loop-place g l =
    Checked l.len (map g.I.Item.as_run l.items) l.place l.least
    × (l.total ≡ sum_by (λ x. x.«end» - x.start) (take l.place (map g.I.Item.as_run l.items)))
    × (l.total ≤ l.least)
