use Rattle.std.proofs.Common.{◌≡◌, map, length, take}
use Rattle.kernels.specs.Moved.{shifted, splice}
use Rattle.chunked.specs.Spans.{in_span}
use Rattle.chunked.proofs.pieces.RunPiecePiece.list.Given as goal

abbrev pub invariant-loop-run : goal.invariant-loop-run
invariant-loop-run l =
    (l.at ≡ length (in_span l.self.offset l.self.lo l.self.hi (take l.run-index l.runs)))
    × (l.out ≡ splice l.initial.out 0 (map (shifted 0 l.self.base) (in_span l.self.offset l.self.lo l.self.hi (take l.run-index l.runs))))
