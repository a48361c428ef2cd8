use Rattle.std.proofs.Common.{sym}
use Rattle.selection.specs.Selected.{positions, selection_fault, window_bit, window_fault}
use Rattle.selection.proofs.Objections.{answered_ok}
use Rattle.selection.proofs.Ranged.{ranged}
use Rattle.selection.proofs.ranges.bitmap_range.Goals as goal

pub returns : goal.returns
unfolding positions selection_fault
returns c =
    let w = c.args.window in
    let e = c.window_ends.result in
    ranged (window_fault w) (window_bit w) w.len e.count e.start e.«end» c.run.result (answered_ok _ _ _ (sym c.in_ok-check.ensures)) c.window_ends.ensures c.run.ensures
