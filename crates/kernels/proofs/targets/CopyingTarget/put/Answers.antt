use Rattle.std.proofs.Common.{refl, arith}
use Rattle.kernels.proofs.Gathered.{put_one}
use Rattle.kernels.proofs.targets.CopyingTarget.put.Goals as goal

pub returns : goal.returns
returns g c =
    let s = c.args.self.now in
    let room = c.requires.room in
    record { src = refl; same = refl; at = refl; places = put_one s.places.now s.src.now s.at c.args.from c.index-self-from.result c.requires.inside.0 (omega arith) }
