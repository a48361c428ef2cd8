use Rattle.std.proofs.Common.{refl, arith}
use Rattle.slices.proofs.Stored.{adds_past, adds_within}
use Rattle.slices.proofs.accumulator.Accumulator.append.Goals as goal

pub returns-then-all-lt64 : goal.returns-then-all-lt64
returns-then-all-lt64 c xs size is = record { same = refl; fill = c.if-all-lt64.true; count = omega arith; long = refl; holds = λ bs before h. adds_within bs xs before c.args.self.now c.args.x c.args.n h size is c.if-all-lt64.true }

pub returns-else-all-lt64 : goal.returns-else-all-lt64
returns-else-all-lt64 c xs size is = let f = c.requires.room.fill in let m = c.requires.size in record { same = refl; fill = omega arith; count = omega arith; long = c.store.auto.out; holds = λ bs before h. adds_past bs xs before c.args.self.now c.args.x c.args.n h size is _ c.requires.size c.if-all-lt64.false c.requires.room.enough c.store.ensures }
