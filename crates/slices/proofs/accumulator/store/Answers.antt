use Rattle.std.proofs.Common.{take, ap, ◌∙◌}
use Rattle.slices.proofs.Stored.{le_bytes, low_take, put_low}
use Rattle.slices.proofs.accumulator.store.Goals as goal

pub returns : goal.returns
returns c =
    let w = c.args.word in
    let n = c.args.n in
    put_low c.args.out.now c.copy_from_slice.new.self c.args.at n w (c.copy_from_slice.ensures.after ∙ ap (take n) (c.to_le_bytes.ensures ∙ le_bytes w) ∙ low_take n 8 w c.requires.size)
