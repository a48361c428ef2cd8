use Rattle.std.proofs.Common.{◌≡◌, ◌+◌, ◌-◌, ◌/◌, ◌^◌, ◌<◌, [], ap, ◌∙◌, arith, rules}
use lib.Count.{count_trailing_zeros}
use Rattle.std.specs.List.{range_with_len}
use Rattle.kernels.specs.Masks.{set_bits}
use Rattle.kernels.proofs.Masked.{all_parts}
use Rattle.kernels.proofs.Putting.{left_done, left_first, left_same, left_small, left_turn}
use Rattle.kernels.proofs.Runs.{first_run}
use Rattle.kernels.proofs.SetBits.{counting_inside, no_bits}
use Rattle.kernels.proofs.Walked.{walk_inside}
use Rattle.kernels.proofs.compaction.RunByRunWordStep.put_word.Goals as goal

pub overflow_add-from : goal.overflow_add-from
overflow_add-from g c =
    let w = c.loop-w.w in
    let p : 0 < w = omega arith in
    let i = (walk_inside (2 ^ 64 - 1) c.loop-w.from w p c.loop-w.invariant.0 (left_small c.requires.laws c.loop-w.invariant.1)).0 in
    let fits : c.loop-w.from + count_trailing_zeros 64 w < 2 ^ 64 = omega arith in
    search rules

pub put_run-requires : goal.put_run-requires
put_run-requires g c =
    let w = c.loop-w.w in
    let from = c.loop-w.from in
    let n = c.trailing_ones-n.result in
    let run = first_run w from n (omega arith) c.loop-w.invariant.0 c.trailing_ones-n.ensures in
    record { some = run.some; able = left_first c.requires.laws (range_with_len (from + count_trailing_zeros 64 w) n) (set_bits 64 (w / 2 ^ count_trailing_zeros 64 w / 2 ^ 1 / 2 ^ (n - 1)) (from + count_trailing_zeros 64 w + n)) (left_same _ run.parts c.loop-w.invariant.1) }

pub overflow_add-from-in-loop-w : goal.overflow_add-from-in-loop-w
overflow_add-from-in-loop-w g c =
    let w = c.loop-w.w in
    let from = c.loop-w.from in
    let n = c.trailing_ones-n.result in
    let run = first_run w from n (omega arith) c.loop-w.invariant.0 c.trailing_ones-n.ensures in
    let small = left_small c.requires.laws (left_same _ run.parts c.loop-w.invariant.1) in
    let high = counting_inside (2 ^ 64 - 1) (from + count_trailing_zeros 64 w) n (all_parts (λ p. p < 2 ^ 64 - 1) (range_with_len (from + count_trailing_zeros 64 w) n) (set_bits 64 (w / 2 ^ count_trailing_zeros 64 w / 2 ^ 1 / 2 ^ (n - 1)) (from + count_trailing_zeros 64 w + n)) small).0 run.some in
    let fits : from + count_trailing_zeros 64 w + n < 2 ^ 64 = omega arith in
    search rules

pub overflow_sub-w : goal.overflow_sub-w
overflow_sub-w g c = (first_run c.loop-w.w c.loop-w.from c.trailing_ones-n.result (omega arith) c.loop-w.invariant.0 c.trailing_ones-n.ensures).some

pub loop-w-preserved : goal.loop-w-preserved
loop-w-preserved g c =
    let w = c.loop-w.w in
    let from = c.loop-w.from in
    let n = c.trailing_ones-n.result in
    let run = first_run w from n (omega arith) c.loop-w.invariant.0 c.trailing_ones-n.ensures in
    let less = run.shrinks in
    (omega arith, left_turn c.requires.laws (range_with_len (from + count_trailing_zeros 64 w) n) (set_bits 64 (w / 2 ^ count_trailing_zeros 64 w / 2 ^ 1 / 2 ^ (n - 1)) (from + count_trailing_zeros 64 w + n)) c.put_run.new.self c.requires.able (left_same _ run.parts c.loop-w.invariant.1) c.put_run.ensures)

pub returns : goal.returns
returns g c =
    let z : c.loop-w.w ≡ 0 = omega arith in
    left_done (left_same [] (ap (λ v. set_bits 64 v c.loop-w.from) z ∙ no_bits 64 c.loop-w.from) c.loop-w.invariant.1)
