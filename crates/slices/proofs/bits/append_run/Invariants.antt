use Rattle.std.proofs.Common.{◌+◌, ◌-◌, ◌*◌, map}
use Rattle.std.specs.List.{range_with_len}
use Rattle.selection.specs.Selected.{range, window_bit}
use Rattle.slices.proofs.Stored.{Going}
use Rattle.slices.proofs.bits.append_run.Given as goal

abbrev pub invariant-loop-k : goal.invariant-loop-k
invariant-loop-k l = Going (map (window_bit l.source) (range l.run)) (map (window_bit l.source) (range_with_len (l.run.start + 64 * l.k) (l.len - 64 * l.k))) l.initial.acc l.acc
