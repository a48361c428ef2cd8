use Rattle.std.proofs.Common.{rules}
use Rattle.kernels.specs.Masks.{compacted}
use Rattle.kernels.proofs.Sequences.{moves_follow}
use Rattle.kernels.proofs.picks.move_at.Goals as goal

pub put_indices-requires-clause-laws : goal.put_indices-requires-clause-laws
put_indices-requires-clause-laws g c = moves_follow

pub returns : goal.returns
unfolding compacted
returns g c =
    let same = c.put_indices.ensures.same in
    let values = c.put_indices.ensures.values in
    search rules
