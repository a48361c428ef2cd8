use Rattle.kernels.specs.Masks.{set_bits}
use Rattle.kernels.proofs.Putting.{Left}
use Rattle.kernels.proofs.compaction.BitByBitWordStep.put_word.Given as goal

abbrev pub invariant-loop-place : goal.invariant-loop-place
invariant-loop-place g l =
    (goal.iterator-loop-place g).can_next l.place-iterator
    × (goal.iterator-loop-place g).is_finite l.place-iterator
    × Left g.P.Target.can g.P.Target.took l.initial.target l.target (set_bits 64 l.word l.base) (set_bits 64 l.place-iterator.0 l.base)
