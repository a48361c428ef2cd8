use Rattle.std.proofs.Common.{drop}
use Rattle.kernels.specs.Masks.{set_bits}
use Rattle.kernels.proofs.Putting.{Left}
use Rattle.kernels.proofs.byte_compress.put_row.Given as goal

abbrev pub invariant-loop-place : goal.invariant-loop-place
invariant-loop-place g l = Left g.P.Target.can g.P.Target.took l.initial.target l.target (set_bits 8 l.byte l.base) (drop l.place-index (set_bits 8 l.byte l.base))
