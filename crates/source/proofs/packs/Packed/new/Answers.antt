use Rattle.std.proofs.Common.{◌*◌, refl, ap, ◌∙◌}
use Rattle.source.proofs.Unpacked.{packed_all, packed_formed}
use Rattle.source.proofs.packs.Packed.new.Goals as goal

pub returns-clause-made : goal.returns-clause-made
returns-clause-made c =
    let bytes = c.args.bytes.now in
    let w = c.args.width in
    let n = c.args.chunks in
    let size = c.if-bytes-size.false ∙ ap (λ b. 128 * b * n) c.from.ensures in (
      packed_formed bytes w n c.if-width-eq0.false c.if-width-gt-MAX_WIDTH.false c.if-chunks-gt-MAX_CHUNKS.false size,
      refl,
      refl,
      refl,
      refl,
      packed_all bytes w n c.if-width-gt-MAX_WIDTH.false c.if-chunks-gt-MAX_CHUNKS.false,
    )

pub returns-clause-source : goal.returns-clause-source
returns-clause-source c = (packed_all c.args.bytes.now c.args.width c.args.chunks c.if-width-gt-MAX_WIDTH.false c.if-chunks-gt-MAX_CHUNKS.false, refl)
