use Rattle.std.proofs.Common.{◌≡◌, ◌+◌, length, sym, ◌∙◌, arith}
use Rattle.std.specs.List.{range_with_len}
use Rattle.std.proofs.lemmas.List.FromFn.{get_or-range_with_len, length-range_with_len}
use Rattle.std.proofs.lemmas.List.Edits.{fill_by_more}
use Rattle.std.proofs.lemmas.List.{ext_get_or}
use Rattle.chunked.proofs.pieces.fill_counting.Goals as goal

pub loop-k-preserved : goal.loop-k-preserved
loop-k-preserved c = fill_by_more (λ j. c.args.«from» + j) c.loop-k.out c.loop-k.k 0 (let h = c.loop-k.auto.out in let t = c.loop-k-test.true in omega arith) c.loop-k.invariant

pub returns : goal.returns
returns c =
    let n = length c.args.out.now in
    let out = c.loop-k.out in
    let same : length out ≡ n = c.loop-k.auto.out in
    let size = length-range_with_len c.args.«from» n in
    ext_get_or 0 out (range_with_len c.args.«from» n) (omega arith) (λ j h. c.loop-k.invariant j (let l = c.loop-k-test.false in omega arith) ∙ sym (get_or-range_with_len c.args.«from» n j 0 (omega arith)))
