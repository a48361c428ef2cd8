use Rattle.std.proofs.Common.{◌≡◌}
use Rattle.kernels.specs.Masks.{mask_bit, selected_by, count_of_words}
use Rattle.kernels.proofs.Masked.{left_of}
use Rattle.kernels.proofs.Putting.{Left}
use Rattle.kernels.proofs.compaction.put_selected.Given as goal

abbrev pub invariant-loop-k : goal.invariant-loop-k
invariant-loop-k g l =
    (goal.iterator-loop-k g).can_next l.k-iterator
    × (goal.iterator-loop-k g).is_finite l.k-iterator
    × (l.k-iterator.bits ≡ l.bits)
    × Left g.P.Target.can g.P.Target.took l.initial.target l.target (selected_by l.bits) (left_of (mask_bit l.bits) l.k-iterator.next (count_of_words l.bits))
