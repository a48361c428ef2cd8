use Rattle.std.proofs.Common.{◌*◌, min}
use Rattle.selection.specs.Selected.{window_bit}
use Rattle.selection.specs.Ranges.{Ended}
use Rattle.selection.proofs.ranges.window_ends.Given as goal

-- the ends of the words so far
abbrev pub invariant-loop-k : goal.invariant-loop-k
invariant-loop-k l = Ended (window_bit l.window) (min l.window.len (64 * l.k)) l.ends.count l.ends.start l.ends.«end»
