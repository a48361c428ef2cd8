use Rattle.std.proofs.Common.{◌+◌, ◌<◌, ◌++◌, map, get_or, drop, refl, ap, arith}
use Rattle.std.specs.List.{range_with_len}
use Rattle.std.proofs.ByRecursion.{All-get_or}
use Rattle.std.proofs.lemmas.List.{drop_more}
use Rattle.selection.specs.Selected.{window_bit}
use Rattle.slices.proofs.Stored.{going_same, going_turn}
use Rattle.slices.proofs.Taken.{packed_window}
use Rattle.slices.proofs.bits.append_indices.Goals as goal

pub loop-index-preserved : goal.loop-index-preserved
loop-index-preserved c =
    let s = c.args.source in
    let is = c.args.indices.now in
    let k = c.loop-index.index-index in
    let i = get_or is k 0 in
    let xs = map (window_bit s) (range_with_len i 1) in
    let rest = map (window_bit s) (drop (k + 1) is) in
    let inv = going_same (xs ++ rest) (ap (map (window_bit s)) (drop_more is k 0 c.loop-index-test.true)) c.loop-index.invariant in
    let below : i < s.len = All-get_or (λ p. p < s.len) is k 0 c.loop-index-test.true c.requires.inside in
    going_turn xs rest c.append.new.self inv (c.append.ensures xs refl (packed_window s i 1 c.bits.result (omega arith) (omega arith) c.bits.ensures))
