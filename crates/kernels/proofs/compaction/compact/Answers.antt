use Rattle.std.proofs.Common.{◌^◌, ◌<◌, length, arith, rules}
use Rattle.kernels.specs.Masks.{compacted}
use Rattle.kernels.proofs.Masked.{selected_inside}
use Rattle.kernels.proofs.Sequences.{copies_follow}
use Rattle.kernels.proofs.compaction.compact.Goals as goal

pub put_selected-requires-clause-laws : goal.put_selected-requires-clause-laws
put_selected-requires-clause-laws g c = copies_follow

pub put_selected-requires-clause-able : goal.put_selected-requires-clause-able
put_selected-requires-clause-able g c =
    let n = length c.args.src.now in
    let short : n < 2 ^ 64 = search rules in
    let room = c.requires.room in
    record { short = short; inside = selected_inside c.args.bits n c.requires.mask; room = omega arith }

pub returns-clause-written : goal.returns-clause-written
unfolding compacted
returns-clause-written g c =
    let same = c.put_selected.ensures.same in
    let places = c.put_selected.ensures.places in
    search rules
