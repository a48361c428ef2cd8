use Rattle.std.proofs.Common.{◌+◌, ◌-◌}
use Rattle.std.specs.List.{range_with_len}
use Rattle.kernels.specs.Targets.{CanList, Lists}
use Rattle.kernels.proofs.Putting.{Left}
use Rattle.kernels.proofs.targets.ListingTarget.put_run.Given as goal

abbrev pub invariant-loop-place : goal.invariant-loop-place
invariant-loop-place l = Left CanList Lists l.initial.self l.self (range_with_len l.from l.n) (range_with_len l.place (l.from + l.n - l.place))
