use Rattle.kernels.specs.Moved.{limit_at_width}
use Rattle.chunked.specs.Served.{state_of}
use Rattle.runs.proofs.Noted.{Upto}
use Rattle.runs.proofs.runs.push_all.Given as goal

abbrev pub invariant-loop-k : goal.invariant-loop-k
invariant-loop-k g l = Upto (limit_at_width g.D.Item.Element.WIDTH) l.pushes (state_of g.D.ChunkDecoder.readings g.D.ChunkDecoder.allowance l.initial.filter l.initial.output l.initial.scratch) (state_of g.D.ChunkDecoder.readings g.D.ChunkDecoder.allowance l.filter l.output l.scratch) l.notes l.k
