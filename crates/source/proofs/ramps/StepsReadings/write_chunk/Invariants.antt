use Rattle.std.proofs.Common.{◌≡◌, ◌+◌, ◌*◌, map, take}
use Rattle.kernels.specs.Moved.{gather}
use Rattle.source.specs.Fetched.{place_in, ramp_at, ramped, whole_chunk}
use Rattle.source.proofs.ramps.StepsReadings.write_chunk.Given as goal

-- the readings so far, and the next of them
abbrev pub invariant-loop-slot : goal.invariant-loop-slot
invariant-loop-slot l = record {
  written : take l.slot-index l.output ≡ gather (ramped l.self.start l.self.step (1024 * l.self.chunks)) (map (place_in l.chunk) (take l.slot-index whole_chunk));
  next : l.next ≡ ramp_at l.self.start l.self.step (1024 * l.chunk + l.slot-index);
}
