use Rattle.std.proofs.Common.{map, drop}
use Rattle.std.specs.List.{flat_map}
use Rattle.selection.specs.Selected.{range, window_bit}
use Rattle.slices.proofs.Stored.{Going}
use Rattle.slices.proofs.bits.append_runs.Given as goal

abbrev pub invariant-loop-run : goal.invariant-loop-run
invariant-loop-run l = Going (map (window_bit l.source) (flat_map range l.runs)) (map (window_bit l.source) (flat_map range (drop l.run-index l.runs))) l.initial.acc l.acc
