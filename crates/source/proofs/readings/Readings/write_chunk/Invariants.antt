use Rattle.std.proofs.Common.{◌≡◌, map, take}
use Rattle.kernels.specs.Moved.{gather}
use Rattle.source.specs.Fetched.{place_in, whole_chunk}
use Rattle.source.proofs.readings.Readings.write_chunk.Given as goal

abbrev pub invariant-loop-k : goal.invariant-loop-k
invariant-loop-k g l = take l.k l.output ≡ gather (g.Self.Readings.all l.self) (map (place_in l.chunk) (take l.k whole_chunk))
