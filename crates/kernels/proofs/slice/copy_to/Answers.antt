use Rattle.kernels.proofs.Gathered.{put_splice}
use Rattle.kernels.proofs.slice.copy_to.Goals as goal

pub returns : goal.returns
returns g c = put_splice c.args.dst.now c.args.src.now c.copy_from_slice.new.self c.args.pos c.args.from c.args.n c.requires.inside c.copy_from_slice.ensures.after
