use Rattle.std.proofs.Common.{◌≡◌, map, take}
use Rattle.kernels.specs.Moved.{gather, shifted, splice}
use Rattle.kernels.proofs.slice.copy_at.Given as goal

abbrev pub invariant-loop-place : goal.invariant-loop-place
invariant-loop-place g l = l.dst ≡ splice l.initial.dst 0 (gather l.src (map (shifted l.up l.down) (take l.place l.indices)))
