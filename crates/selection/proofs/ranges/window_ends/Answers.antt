use Rattle.std.proofs.Common.{◌≡◌, ℕ, ◌+◌, ◌-◌, ◌*◌, min, ◌∙◌, subst, arith}
use Rattle.selection.specs.Selected.{window_bit}
use Rattle.selection.specs.Ranges.{Ended}
use Rattle.selection.proofs.Bits.{tally_le}
use Rattle.selection.proofs.Faults.{window_within}
use Rattle.selection.proofs.Ranged.{ended_turn, window_word}
use Rattle.selection.proofs.ranges.window_ends.Goals as goal

pub with_word-ends-requires-clause-few : goal.with_word-ends-requires-clause-few
with_word-ends-requires-clause-few c =
    let w = c.args.window in
    let h = window_within w c.requires in
    let up = c.div_ceil-k-end.ensures in
    let taken = c.loop-k-test.true in
    let most = tally_le (window_bit w) (min w.len (64 * c.loop-k.k)) in
    let n = c.loop-k.invariant.counted in
    omega arith

pub loop-k-preserved : goal.loop-k-preserved
loop-k-preserved c =
    let w = c.args.window in
    let q = window_bit w in
    let k = c.loop-k.k in
    let r = c.with_word-ends.result in
    let h = window_within w c.requires in
    let up = c.div_ceil-k-end.ensures in
    let taken = c.loop-k-test.true in
    let n : ℕ = min (w.len - 64 * k) 64 in
    let here : min w.len (64 * k) ≡ 64 * k = omega arith in
    let next : 64 * k + n ≡ min w.len (64 * (k + 1)) = omega arith in
    let inv : Ended q (64 * k) c.loop-k.ends.count c.loop-k.ends.start c.loop-k.ends.«end» = subst (λ m. Ended q m c.loop-k.ends.count c.loop-k.ends.start c.loop-k.ends.«end») here c.loop-k.invariant in
    subst (λ m. Ended q m r.count r.start r.«end») next (ended_turn q (64 * k) n c.word.result c.loop-k.ends r inv (omega arith) (c.word.ensures ∙ window_word w k) c.with_word-ends.ensures)
