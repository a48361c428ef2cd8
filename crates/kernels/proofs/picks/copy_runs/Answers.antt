use Rattle.std.proofs.Common.{◌^◌, ◌<◌, length, arith, rules}
use Rattle.std.specs.List.{flat_map}
use Rattle.selection.specs.Selected.{range}
use Rattle.selection.proofs.Listed.{ranges_rise}
use Rattle.kernels.specs.Masks.{compacted}
use Rattle.kernels.proofs.InRuns.{runs_some}
use Rattle.kernels.proofs.Rises.{rising_inside}
use Rattle.kernels.proofs.Sequences.{copies_follow}
use Rattle.kernels.proofs.picks.copy_runs.Goals as goal

pub put_runs-requires : goal.put_runs-requires
put_runs-requires g c =
    let rs = c.args.runs.now in
    let n = length c.args.src.now in
    let short : n < 2 ^ 64 = search rules in
    let room = c.requires.room in
    record { laws = copies_follow; some = runs_some 0 n rs c.requires.rising; able = record { short = short; inside = rising_inside 0 n (flat_map range rs) (ranges_rise 0 n rs c.requires.rising); room = omega arith } }

pub returns : goal.returns
unfolding compacted
returns g c =
    let same = c.put_runs.ensures.same in
    let places = c.put_runs.ensures.places in
    search rules
