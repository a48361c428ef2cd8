-- The table is the rows of all bytes, which antt computes.
use Rattle.std.proofs.Common.{◌≡◌, ◌+◌, ◌-◌, ◌*◌, ◌^◌, ◌<◌, arith, rules}
use Rattle.kernels.specs.Masks.{row_of}
use Rattle.kernels.proofs.Rows.{table_row}
use Rattle.kernels.proofs.byte_compress.row_at.Goals as goal

pub returns : goal.returns
unfolding row_of
returns c =
    let from = c.from-from.result in
    let fits : c.args.byte < 2 ^ 8 = search rules in
    let nine : 9 * from + 9 - 9 * from ≡ 9 = omega arith in
    table_row c.args.byte from (9 * from + 9 - 9 * from) (omega arith) c.from-from.ensures nine
