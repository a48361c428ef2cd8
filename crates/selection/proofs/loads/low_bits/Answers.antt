use Rattle.selection.proofs.Fields.{mask_num}
use Rattle.selection.proofs.loads.low_bits.Goals as goal

pub returns-then-n-lt64 : goal.returns-then-n-lt64
returns-then-n-lt64 c = mask_num c.args.x c.args.n c.if-n-lt64.true
