use Rattle.std.proofs.Common.{◌≡◌, ◌+◌, ◌*◌, ◌≤◌, length, map, take}
use Rattle.selection.proofs.AsRuns.{Checked}
use Rattle.settle.specs.Tallies.{Tallied}
use Rattle.settle.proofs.Settled.{run_places}
use Rattle.settle.proofs.settle.settle_items.Given as goal

-- the items so far are sound, and the count and the tally are those of their places
abbrev pub invariant-loop-place : goal.invariant-loop-place
invariant-loop-place g l = record {
  checked : Checked l.len (map g.I.Item.as_run l.items) l.place l.least;
  tallied : Tallied l.terms l.tally (run_places l.up (take l.place (map g.I.Item.as_run l.items)));
  current : l.tally.chunk * 1024 ≤ l.least + l.up;
  weight : l.tally.fee + 1024 * l.tally.count ≤ 1024 * l.total;
  count : l.total ≡ length (run_places l.up (take l.place (map g.I.Item.as_run l.items)));
  few : l.total ≤ l.least;
  within : l.least ≤ l.len;
}
