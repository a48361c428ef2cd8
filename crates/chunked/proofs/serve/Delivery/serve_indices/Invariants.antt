use Rattle.std.proofs.Common.{length}
use Rattle.kernels.specs.Moved.{limit_at_width}
use Rattle.chunked.proofs.Walks.{IndexWalk}
use Rattle.chunked.proofs.serve.Delivery.serve_indices.Given as goal

abbrev pub invariant-loop-first : goal.invariant-loop-first
invariant-loop-first g l = IndexWalk (limit_at_width g.D.Item.Element.WIDTH) g.D.ChunkDecoder.readings g.D.ChunkDecoder.allowance l.initial.self l.self l.offset.by l.indices l.rest

abbrev pub decreases-loop-first : goal.decreases-loop-first
decreases-loop-first g l = length l.rest
