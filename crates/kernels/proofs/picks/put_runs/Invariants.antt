use Rattle.std.proofs.Common.{drop}
use Rattle.std.specs.List.{flat_map}
use Rattle.selection.specs.Selected.{range}
use Rattle.kernels.proofs.Putting.{Left}
use Rattle.kernels.proofs.picks.put_runs.Given as goal

abbrev pub invariant-loop-run : goal.invariant-loop-run
invariant-loop-run g l = Left g.P.Target.can g.P.Target.took l.initial.target l.target (flat_map range l.runs) (flat_map range (drop l.run-index l.runs))
