use Rattle.std.proofs.Common.{refl, arith}
use Rattle.kernels.proofs.Gathered.{put_one}
use Rattle.kernels.proofs.targets.MovingTarget.put.Goals as goal

pub returns : goal.returns
returns g c =
    let s = c.args.self.now in
    let low = c.requires.rises.0 in
    let high = c.requires.rises.1 in
    record { same = refl; at = refl; values = put_one s.values.now s.values.now s.at c.args.from c.index-self-from.result high (omega arith) }
