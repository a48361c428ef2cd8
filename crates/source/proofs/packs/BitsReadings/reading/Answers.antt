use Rattle.std.proofs.Common.{◌*◌, ◌^◌, ◌<◌, ◌≤◌, Some, ap, sym, ◌∙◌, arith, rules}
use Rattle.source.specs.Packing.{packed_length, reading_at}
use Rattle.source.proofs.Fetches.{made_get}
use Rattle.source.proofs.Unpacked.{packed_all, reading_is, reading_lt}
use Rattle.source.proofs.packs.BitsReadings.reading.Goals as goal

pub overflow_mul-first : goal.overflow_mul-first
overflow_mul-first c =
    let p = c.args.self in
    let size = packed_length p.bytes.now p.width p.chunks in
    let near : c.args.place < 2 ^ 24 = omega (arith, size, c.requires) in
    let narrow : c.from-bits.result ≤ 32 = omega arith in
    search rules

pub overflow_cast-result : goal.overflow_cast-result
overflow_cast-result c =
    let fits : c.field_at.result < 2 ^ 32 = reading_lt c.args.self.bytes.now _ _ c.field_at.result (omega arith) c.field_at.ensures in
    search rules

pub returns : goal.returns
returns c =
    let p = c.args.self in
    let size = packed_length p.bytes.now p.width p.chunks in
    let inside : c.args.place < 1024 * p.chunks = omega (arith, size, c.requires, p.few) in
    let value = reading_is p.bytes.now c.from-bits.result c.args.place c.field_at.result c.field_at.ensures ∙ ap (λ w. reading_at p.bytes.now w c.args.place) c.from-bits.ensures in
    rw (packed_all p.bytes.now p.width p.chunks p.narrow p.few) (made_get (reading_at p.bytes.now p.width) (1024 * p.chunks) c.args.place inside ∙ ap Some (sym value))
