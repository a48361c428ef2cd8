use Rattle.std.proofs.Common.{drop}
use Rattle.kernels.proofs.Putting.{Left}
use Rattle.kernels.proofs.picks.put_indices.Given as goal

abbrev pub invariant-loop-index : goal.invariant-loop-index
invariant-loop-index g l = Left g.P.Target.can g.P.Target.took l.initial.target l.target l.indices (drop l.index-index l.indices)
