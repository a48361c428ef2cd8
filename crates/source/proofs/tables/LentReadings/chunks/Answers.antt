use Rattle.std.proofs.Common.{arith}
use Rattle.source.specs.Parts.{part_chunks}
use Rattle.source.proofs.tables.LentReadings.chunks.Goals as goal

pub returns : goal.returns
returns g c = let n = part_chunks c.args.self.lent.now in let few = c.args.self.whole in omega (arith, n, few.1)
