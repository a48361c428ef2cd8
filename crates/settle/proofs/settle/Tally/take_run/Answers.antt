use Rattle.std.proofs.Common.{◌-◌, ◌/◌, ◌≡◌, ◌<◌, ◌≤◌, refl, arith}
use Rattle.std.specs.List.{range_with_len}
use Rattle.std.proofs.lemmas.List.FromFn.{length-range_with_len}
use Rattle.settle.proofs.Tallying.{counting_chunk, past_same, tallied_more, turned_same}
use Rattle.settle.proofs.settle.Tally.take_run.Goals as goal

pub returns-then-to-self-clause-tallied : goal.returns-then-to-self-clause-tallied
returns-then-to-self-clause-tallied c =
    let t = c.args.terms.now in
    let y = c.args.self.now in
    let from = c.args.«from» in
    let to = c.args.to in
    let counted = c.if-self-gt0.true in
    let high = c.if-to-self.true in
    let ahead = c.requires.ahead in
    let order = c.requires.order in
    let here : y.chunk ≡ from / 1024 = omega arith in
    let up : from ≤ to = omega arith in
    let some : 0 < to - from = omega arith in
    let all = counting_chunk from to y.chunk here up high in
    let size = length-range_with_len from (to - from) in
    λ ps h. tallied_more t y y.chunk (to - from) y (turned_same t.limit y y.chunk y refl refl) ps (range_with_len from (to - from)) h all size (omega arith) y.beyond (past_same t y ps (range_with_len from (to - from)) y.chunk (to - from) h all size (omega arith) some refl counted)
