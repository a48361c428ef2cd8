use Rattle.std.proofs.Common.{◌+◌, ◌-◌, ◌*◌, ◌≤◌, ◌++◌, sym, subst, arith}
use Rattle.std.specs.List.{range_with_len}
use Rattle.std.proofs.lemmas.List.FromFn.{length-range_with_len}
use Rattle.settle.specs.Tallies.{Tallied}
use Rattle.settle.proofs.Tallying.{counting_chunk, counting_more}
use Rattle.settle.proofs.settle.Tally.take_parts.Goals as goal

pub loop-end-preserved : goal.loop-end-preserved
loop-end-preserved c =
    let from = c.args.«from» in
    let at = c.loop-end.at in
    let end = c.loop-end.end in
    let inv = c.loop-end.invariant in
    let less = c.loop-end-test.true in
    let order = inv.order in
    let here = inv.here in
    let ends = inv.ends in
    let current = c.take.ensures.current in
    let weight = c.take.ensures.weight in
    let before = inv.weight in
    let up : at ≤ end = omega arith in
    let high : end ≤ (c.loop-end.chunk + 1) * 1024 = omega arith in
    record {
      tallied = λ ps h. subst (Tallied c.args.terms.now c.take.new.self) (sym (counting_more ps from at end order up)) (c.take.ensures.tallied (ps ++ range_with_len from (at - from)) (range_with_len at (end - at)) (inv.tallied ps h) (counting_chunk at end c.loop-end.chunk here up high) (length-range_with_len at (end - at)));
      order = omega arith;
      more = omega arith;
      here = omega arith;
      ends = omega arith;
      current = omega arith;
      weight = omega arith;
    }

pub returns-clause-tallied : goal.returns-clause-tallied
returns-clause-tallied c =
    let from = c.args.«from» in
    let at = c.loop-end.at in
    let to = c.args.to in
    let inv = c.loop-end.invariant in
    let last = c.loop-end-test.false in
    let more = inv.more in
    let here = inv.here in
    let ends = inv.ends in
    let up : at ≤ to = omega arith in
    let high : to ≤ (c.loop-end.chunk + 1) * 1024 = omega arith in
    λ ps h. subst (Tallied c.args.terms.now c.take-2.new.self) (sym (counting_more ps from at to inv.order up)) (c.take-2.ensures.tallied (ps ++ range_with_len from (at - from)) (range_with_len at (to - at)) (inv.tallied ps h) (counting_chunk at to c.loop-end.chunk here up high) (length-range_with_len at (to - at)))
