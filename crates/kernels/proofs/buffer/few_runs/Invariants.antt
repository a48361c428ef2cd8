use Rattle.std.proofs.Common.{◌-◌, ◌*◌, ◌≤◌}
use Rattle.kernels.specs.Masks.{count_of_words}
use Rattle.kernels.proofs.buffer.few_runs.Given as goal

abbrev pub invariant-loop-word : goal.invariant-loop-word
invariant-loop-word l = (l.runs ≤ 64 * l.words.next)

abbrev pub decreases-loop-word : goal.decreases-loop-word
decreases-loop-word l = count_of_words l.words.bits - l.words.next
