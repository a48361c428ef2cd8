use Rattle.std.proofs.Common.{ap, ◌∙◌}
use Rattle.selection.specs.Selected.{bits_from}
use Rattle.selection.proofs.Fields.{bits_rest, eight_num}
use Rattle.selection.proofs.loads.field_at.Goals as goal

pub returns : goal.returns
returns c =
    let s = c.args.shift in
    let n = c.args.n in
    c.low_bits.ensures
    ∙ eight_num c.bytes_from.result.now c.low_word.result s n c.low_word.ensures c.requires.0
    ∙ ap (λ xs. bits_from xs s n) c.bytes_from.ensures
    ∙ bits_rest c.args.bytes.now c.args.at s n
