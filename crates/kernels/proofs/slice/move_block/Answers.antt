use Rattle.kernels.proofs.Gathered.{stands_there}
use Rattle.kernels.proofs.slice.move_block.Goals as goal

pub returns-else-to-from : goal.returns-else-to-from
returns-else-to-from g c = stands_there c.args.values.now c.args.from c.args.n c.args.to c.if-to-from.false c.requires.inside
