use Rattle.std.proofs.Common.{◌≡◌, suc, ◌+◌, ◌-◌, ◌^◌, ◌<◌, [], ◌∷◌, ap, arith, rules}
use Rattle.std.specs.List.{range_with_len}
use Rattle.kernels.proofs.Putting.{left_same, left_turn}
use Rattle.kernels.proofs.Sequences.{lists_follow}
use Rattle.kernels.proofs.SetBits.{counting_inside}
use Rattle.kernels.proofs.targets.ListingTarget.put_run.Goals as goal

pub overflow_add-place-end : goal.overflow_add-place-end
overflow_add-place-end c =
    let h = counting_inside _ c.args.from c.args.n c.requires.able.inside c.requires.some in
    let fits : c.args.from + c.args.n < 2 ^ 64 = omega arith in
    search rules

pub loop-place-preserved : goal.loop-place-preserved
loop-place-preserved c =
    let p = c.loop-place.place in
    let rest = range_with_len (p + 1) (c.args.from + c.args.n - (p + 1)) in
    let more : c.args.from + c.args.n - p ≡ suc (c.args.from + c.args.n - (p + 1)) = omega arith in
    left_turn lists_follow (p ∷ []) rest c.put.new.self c.requires.able (left_same (p ∷ rest) (ap (range_with_len p) more) c.loop-place.invariant) c.put.ensures
