use Rattle.std.proofs.Common.{◌^◌, ◌<◌, length, arith, rules}
use Rattle.kernels.specs.Masks.{compacted}
use Rattle.kernels.proofs.Rises.{mask_rises}
use Rattle.kernels.proofs.Sequences.{moves_follow}
use Rattle.kernels.proofs.compaction.move_by_bitmap.Goals as goal

pub put_selected-requires-clause-laws : goal.put_selected-requires-clause-laws
put_selected-requires-clause-laws g c = moves_follow

pub put_selected-requires-clause-able : goal.put_selected-requires-clause-able
put_selected-requires-clause-able g c =
    let n = length c.args.values.now in
    let short : n < 2 ^ 64 = search rules in
    record { short = short; low = omega arith; rises = mask_rises c.args.bits n c.requires }

pub returns : goal.returns
unfolding compacted
returns g c =
    let same = c.put_selected.ensures.same in
    let values = c.put_selected.ensures.values in
    search rules
