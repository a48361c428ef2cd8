use Rattle.kernels.specs.Moved.{limit_at_width}
use Rattle.chunked.proofs.BitmapWalks.{BitmapWalk}
use Rattle.chunked.proofs.serve.Delivery.serve_bitmap.Given as goal

abbrev pub invariant-loop-chunk : goal.invariant-loop-chunk
invariant-loop-chunk g l = BitmapWalk (limit_at_width g.D.Item.Element.WIDTH) g.D.ChunkDecoder.readings g.D.ChunkDecoder.allowance l.initial.self l.self l.offset.by l.window l.chunk
