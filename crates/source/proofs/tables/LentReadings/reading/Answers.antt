use Rattle.std.proofs.Common.{◌<◌, length, arith, rules}
use Rattle.std.proofs.lemmas.Option.{slice_get-get_or}
use Rattle.source.specs.Parts.{part_length}
use Rattle.source.proofs.Fetches.{part_all}
use Rattle.source.proofs.tables.LentReadings.reading.Goals as goal

pub offset_bounds-self-place : goal.offset_bounds-self-place
offset_bounds-self-place g c =
    let n = part_length c.args.self.lent.now in
    let inside : c.args.place < length c.args.self.lent.now = omega (arith, n, c.requires) in
    search rules

pub bounds-self-place : goal.bounds-self-place
bounds-self-place g c = let n = part_length c.args.self.lent.now in omega (arith, n, c.requires)

pub returns : goal.returns
returns g c =
    let lent = c.args.self.lent.now in
    let whole = c.args.self.whole in
    let n = part_length lent in
    let inside : c.args.place < length lent = omega (arith, n, c.requires) in
    rw (part_all lent (omega (arith, whole.0)) whole.1) (slice_get-get_or lent c.args.place _ inside)
