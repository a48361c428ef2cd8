use Rattle.std.proofs.Common.{arith}
use Rattle.source.specs.Packing.{packed_chunks}
use Rattle.source.proofs.packs.BitsReadings.chunks.Goals as goal

pub returns : goal.returns
returns c = let p = c.args.self in let n = packed_chunks p.bytes.now p.width p.chunks in omega (arith, n, p.few)
