use Rattle.std.proofs.Common.{[], rules}
use Rattle.slices.specs.Bits.{picked_bits}
use Rattle.slices.proofs.Stored.{holds_none}
use Rattle.slices.proofs.bits.write_selected.Goals as goal

pub returns : goal.returns
returns c =
    let before = c.args.out.now in
    let same = c.append_selected.ensures.same in
    let first = c.new-acc.ensures.same in
    let done = c.finish.ensures (picked_bits c.args.source c.args.selection) before (c.append_selected.ensures.holds [] before (holds_none before c.new-acc.result c.new-acc.ensures.before c.new-acc.ensures.low c.new-acc.ensures.fill c.new-acc.ensures.at)) in
    search rules
