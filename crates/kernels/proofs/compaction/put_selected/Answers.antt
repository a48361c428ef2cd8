use Rattle.std.proofs.Common.{◌*◌, [], sym, ap, ◌∙◌}
use Rattle.kernels.specs.Masks.{mask_bit, mask_len, selected_by, set_bits, count_of_words}
use Rattle.kernels.proofs.Masked.{left_of, word_first, word_next, word_over}
use Rattle.kernels.proofs.Putting.{left_all, left_done, left_first, left_same, left_turn}
use Rattle.kernels.proofs.compaction.put_selected.Goals as goal

pub loop-k-init : goal.loop-k-init
loop-k-init g c =
    let bits = c.args.bits in
    let it = c.into_iter-k-iterator.ensures.into_iter_gives in
    (tt, tt, ap (λ t. t.bits) it ∙ c.iter-k-items.ensures.bits, left_same _ (sym (word_first bits c.into_iter-k-iterator.result (mask_len bits) (ap (λ t. t.next) it ∙ c.iter-k-items.ensures.next) c.requires.mask)) (left_all c.requires.laws c.args.target.now (selected_by bits) c.requires.able))

pub put_word-requires-clause-able : goal.put_word-requires-clause-able
put_word-requires-clause-able g c =
    let bits = c.args.bits in
    let w = c.in-Some.word in
    let it = c.next.new.self in
    let step = word_next bits c.loop-k.k-iterator it c.in-Some.k w c.loop-k.invariant.2 c.in-Some.ensures.steps in
    left_first c.requires.laws (set_bits 64 w (64 * c.in-Some.k)) (left_of (mask_bit bits) it.next (count_of_words bits)) (left_same _ step.0 c.loop-k.invariant.3)

pub loop-k-preserved : goal.loop-k-preserved
loop-k-preserved g c =
    let bits = c.args.bits in
    let w = c.in-Some.word in
    let it = c.next.new.self in
    let step = word_next bits c.loop-k.k-iterator it c.in-Some.k w c.loop-k.invariant.2 c.in-Some.ensures.steps in
    (tt, tt, step.1, left_turn c.requires.laws (set_bits 64 w (64 * c.in-Some.k)) (left_of (mask_bit bits) it.next (count_of_words bits)) c.put_word.new.target c.requires.able (left_same _ step.0 c.loop-k.invariant.3) c.put_word.ensures)

pub returns : goal.returns
returns g c = left_done (left_same [] (word_over c.args.bits c.loop-k.k-iterator c.next.new.self c.loop-k.invariant.2 c.in-None.ensures.steps) c.loop-k.invariant.3)
