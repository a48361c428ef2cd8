use Rattle.std.proofs.Common.{◌<◌, length, set, ap, ◌∙◌, arith}
use Rattle.std.proofs.ByRecursion.{All-weaker}
use Rattle.kernels.specs.Moved.{Within, shifted}
use Rattle.kernels.proofs.Gathered.{copy_more}
use Rattle.kernels.proofs.slice.copy_at.Goals as goal

pub loop-place-preserved : goal.loop-place-preserved
loop-place-preserved g c =
    let is = c.args.indices.now in
    let src = c.args.src.now in
    let up = c.args.up in
    let down = c.args.down in
    let k = c.loop-place.place in
    let y = c.index-src-index.result in
    let taken = c.loop-place-test.true in
    let inside = All-weaker (Within up down (length src)) (λ i. shifted up down i < length src) (λ i h. h.below) is c.requires.inside in
    ap (λ xs. set xs k y) c.loop-place.invariant ∙ copy_more src c.args.dst.now (shifted up down) is k y taken (let room = c.requires.room in omega arith) inside c.index-src-index.is
