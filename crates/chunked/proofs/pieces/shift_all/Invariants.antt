use Rattle.std.proofs.Common.{◌≡◌, map, take}
use Rattle.kernels.specs.Moved.{shifted, splice}
use Rattle.chunked.proofs.pieces.shift_all.Given as goal

abbrev pub invariant-loop-k : goal.invariant-loop-k
invariant-loop-k l = l.out ≡ splice l.initial.out 0 (map (shifted l.up l.down) (take l.k l.indices))
