use Rattle.std.proofs.Common.{◌+◌, ◌-◌, ◌*◌, ◌/◌, ◌^◌}
use Rattle.kernels.specs.Masks.{set_bits}
use Rattle.kernels.proofs.Putting.{Left}
use Rattle.kernels.proofs.byte_compress.ByTableWordStep.put_word.Given as goal

abbrev pub invariant-loop-b : goal.invariant-loop-b
invariant-loop-b g l = Left g.P.Target.can g.P.Target.took l.initial.target l.target (set_bits 64 l.word l.base) (set_bits (64 - 8 * l.b) (l.word / 2 ^ (8 * l.b)) (l.base + 8 * l.b))
