use Rattle.std.proofs.Common.{◌<◌}
use Rattle.std.proofs.lemmas.List.Elements.{recursion_from_All}
use Rattle.source.proofs.Fetches.{ramp_gathered}
use Rattle.source.proofs.ramps.Ramp.new.Goals as goal

pub returns-clause-places : goal.returns-clause-places
returns-clause-places c = λ k is inside below. ramp_gathered c.args.start c.args.step c.args.chunks k is inside (recursion_from_All (λ i. i < 1024) is below)
