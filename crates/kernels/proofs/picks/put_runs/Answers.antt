use Rattle.std.proofs.Common.{◌+◌, get_or, drop}
use Rattle.std.specs.List.{flat_map}
use Rattle.selection.specs.Selected.{no_run, range}
use Rattle.kernels.proofs.InRuns.{run_parts}
use Rattle.kernels.proofs.Putting.{left_same, left_turn}
use Rattle.kernels.proofs.picks.put_runs.Goals as goal

pub loop-run-preserved : goal.loop-run-preserved
loop-run-preserved g c =
    let rs = c.args.runs.now in
    let k = c.loop-run.run-index in
    left_turn c.requires.laws (range (get_or rs k no_run)) (flat_map range (drop (k + 1) rs)) c.put_run.new.self c.requires.able (left_same _ (run_parts rs k c.loop-run-test.true) c.loop-run.invariant) c.put_run.ensures
