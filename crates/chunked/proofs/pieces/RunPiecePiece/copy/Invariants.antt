use Rattle.std.proofs.Common.{◌≡◌, map, length, take}
use Rattle.kernels.specs.Moved.{gather, shifted, splice}
use Rattle.chunked.specs.Spans.{in_span}
use Rattle.chunked.proofs.pieces.RunPiecePiece.copy.Given as goal

abbrev pub invariant-loop-run : goal.invariant-loop-run
invariant-loop-run g l =
    (l.at ≡ length (in_span l.self.offset l.self.lo l.self.hi (take l.run-index l.runs)))
    × (l.dst ≡ splice l.initial.dst 0 (gather l.chunk (map (shifted 0 l.self.base) (in_span l.self.offset l.self.lo l.self.hi (take l.run-index l.runs)))))
