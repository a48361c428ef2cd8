use Rattle.std.proofs.Common.{map, drop}
use Rattle.selection.specs.Selected.{window_bit}
use Rattle.slices.proofs.Stored.{Going}
use Rattle.slices.proofs.bits.append_indices.Given as goal

abbrev pub invariant-loop-index : goal.invariant-loop-index
invariant-loop-index l = Going (map (window_bit l.source) l.indices) (map (window_bit l.source) (drop l.index-index l.indices)) l.initial.acc l.acc
