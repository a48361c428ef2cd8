use Rattle.std.proofs.Common.{◌-◌, ◌^◌, ◌<◌, arith}
use Rattle.std.proofs.ByRecursion.{All-weaker}
use Rattle.kernels.specs.Masks.{mask_len, selected_by}
use Rattle.kernels.proofs.Masked.{selected_inside}
use Rattle.kernels.proofs.Sequences.{lists_follow}
use Rattle.kernels.proofs.lists.list_words.Goals as goal

pub put_selected-requires-clause-laws : goal.put_selected-requires-clause-laws
put_selected-requires-clause-laws c = lists_follow

pub put_selected-requires-clause-able : goal.put_selected-requires-clause-able
put_selected-requires-clause-able c =
    let bits = c.args.bits in
    let n = mask_len bits in
    let fits = c.requires.fits in
    let room = c.requires.room in
    record { inside = All-weaker (λ p. p < n) (λ p. p < 2 ^ 64 - 1 - c.args.base) (λ p h. omega arith) (selected_by bits) (selected_inside bits n c.requires.mask); room = omega arith }
