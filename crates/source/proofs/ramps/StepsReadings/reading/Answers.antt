use Rattle.std.proofs.Common.{arith, rules, ◌*◌, ◌∙◌}
use Rattle.source.specs.Fetched.{ramp_at, ramped}
use Rattle.source.specs.Parts.{made_length}
use Rattle.source.proofs.Fetches.{made_get}
use Rattle.source.proofs.ramps.StepsReadings.reading.Goals as goal

pub returns : goal.returns
unfolding ramped
returns c =
    let r = c.args.self in
    let size = made_length (ramp_at r.start r.step) r.chunks in
    let inside = c.requires in
    made_get (ramp_at r.start r.step) (1024 * r.chunks) c.args.place (omega arith) ∙ search rules
