use Rattle.std.proofs.Common.{◌^◌, ◌<◌, rules}
use Rattle.selection.proofs.Fields.{join_word}
use Rattle.selection.proofs.loads.joined_from.Goals as goal

pub returns : goal.returns
returns c =
    let fits : c.args.low < 2 ^ 64 = search rules in
    join_word c.args.low c.args.high c.args.shift fits c.requires.1 c.requires.0
