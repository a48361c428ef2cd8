use Rattle.std.proofs.Common.{◌≡◌, ◌+◌, ◌-◌, map, take, drop, ap, ◌∙◌, arith}
use Rattle.kernels.specs.Masks.{compacted, selected_by}
use Rattle.kernels.specs.Moved.{gather, shifted, splice}
use Rattle.kernels.proofs.Gathered.{gather_slice}
use Rattle.kernels.proofs.Masked.{selected_inside}
use Rattle.chunked.proofs.pieces.MaskPiecePiece.copy.Goals as goal

pub returns : goal.returns
unfolding compacted
returns g c =
    let p = c.args.self.now in
    let up = p.up in
    let len = p.len in
    let xs = c.args.chunk.now in
    let ps = selected_by p.bits in
    let part : take (up + len - up) (drop up xs) ≡ take len (drop up xs) = ap (λ m. take m (drop up xs)) (let e : up + len - up ≡ len = omega arith in e) in
    let values : gather (take (up + len - up) (drop up xs)) ps ≡ gather xs (map (shifted up 0) ps) = ap (λ zs. gather zs ps) part ∙ gather_slice xs up len ps (selected_inside p.bits len p.mask) in
    c.compact_words.ensures.written ∙ ap (splice c.args.dst.now 0) values
