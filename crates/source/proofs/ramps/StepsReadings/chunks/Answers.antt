use Rattle.std.proofs.Common.{sym}
use Rattle.source.proofs.Fetches.{ramp_chunks}
use Rattle.source.proofs.ramps.StepsReadings.chunks.Goals as goal

pub returns : goal.returns
returns c = let r = c.args.self in sym (ramp_chunks r.start r.step r.chunks)
