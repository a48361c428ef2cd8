use Rattle.std.proofs.Common.{◌^◌, ◌<◌, length, arith, rules}
use Rattle.selection.proofs.Listed.{ranges_rise}
use Rattle.kernels.specs.Masks.{compacted}
use Rattle.kernels.proofs.InRuns.{runs_some}
use Rattle.kernels.proofs.Sequences.{moves_follow}
use Rattle.kernels.proofs.picks.move_runs.Goals as goal

pub put_runs-requires : goal.put_runs-requires
put_runs-requires g c =
    let rs = c.args.runs.now in
    let n = length c.args.values.now in
    let short : n < 2 ^ 64 = search rules in
    record { laws = moves_follow; some = runs_some 0 n rs c.requires; able = record { short = short; low = omega arith; rises = ranges_rise 0 n rs c.requires } }

pub returns : goal.returns
unfolding compacted
returns g c =
    let same = c.put_runs.ensures.same in
    let values = c.put_runs.ensures.values in
    search rules
