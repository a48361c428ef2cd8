use Rattle.std.proofs.Common.{◌^◌, ◌<◌}
use Rattle.kernels.specs.Masks.{set_bits}
use Rattle.kernels.proofs.Putting.{Left}
use Rattle.kernels.proofs.compaction.RunByRunWordStep.put_word.Given as goal

abbrev pub invariant-loop-w : goal.invariant-loop-w
invariant-loop-w g l = (l.w < 2 ^ 64) × Left g.P.Target.can g.P.Target.took l.initial.target l.target (set_bits 64 l.word l.base) (set_bits 64 l.w l.from)

abbrev pub decreases-loop-w : goal.decreases-loop-w
decreases-loop-w g l = l.w
