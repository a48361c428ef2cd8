use Rattle.std.proofs.Common.{◌+◌, [], ◌∷◌, get_or, drop}
use Rattle.std.proofs.lemmas.List.{drop_more}
use Rattle.kernels.proofs.Putting.{left_first, left_same, left_turn}
use Rattle.kernels.proofs.picks.put_indices.Goals as goal

pub put-requires : goal.put-requires
put-requires g c =
    let is = c.args.indices.now in
    let k = c.loop-index.index-index in
    left_first c.requires.laws (get_or is k 0 ∷ []) (drop (k + 1) is) (left_same _ (drop_more is k 0 c.loop-index-test.true) c.loop-index.invariant)

pub loop-index-preserved : goal.loop-index-preserved
loop-index-preserved g c =
    let is = c.args.indices.now in
    let k = c.loop-index.index-index in
    left_turn c.requires.laws (get_or is k 0 ∷ []) (drop (k + 1) is) c.put.new.self c.requires.able (left_same _ (drop_more is k 0 c.loop-index-test.true) c.loop-index.invariant) c.put.ensures
