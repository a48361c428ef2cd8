use Rattle.std.proofs.Common.{refl, arith}
use Rattle.std.proofs.lemmas.Bool.Decides.{nat_tests}
use Rattle.source.proofs.Fetches.{part_all}
use Rattle.source.proofs.tables.Table+T.new.Goals as goal

pub returns-clause-made : goal.returns-clause-made
returns-clause-made g c =
    let even = c.if-len-ne0.false in
    let few = c.if-len-gt-MAX_CHUNKS.false in
    (grind (arith, nat_tests), refl, part_all c.args.lent.now even few, refl)

pub returns-clause-source : goal.returns-clause-source
returns-clause-source g c = (part_all c.args.lent.now c.if-len-ne0.false c.if-len-gt-MAX_CHUNKS.false, refl)
