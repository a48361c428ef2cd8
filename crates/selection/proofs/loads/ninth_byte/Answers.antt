use Rattle.std.proofs.Common.{◌≡◌, get_or, ◌∙◌, arith}
use Rattle.std.proofs.lemmas.Grind.{common_steps}
use Rattle.std.proofs.lemmas.Option.{gets}
use Rattle.selection.proofs.Fields.{byte_num}
use Rattle.selection.proofs.loads.ninth_byte.Goals as goal

pub returns : goal.returns
returns c =
    let byte : c.map_or.result ≡ get_or c.args.bytes.now 8 0 = grind (arith, common_steps, gets) in
    byte ∙ byte_num c.args.bytes.now 8 (c.type_inv.bytes 8).fits
