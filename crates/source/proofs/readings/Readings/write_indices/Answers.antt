use Rattle.std.proofs.Common.{map, sym, ap, ◌∙◌, arith}
use Rattle.std.proofs.lemmas.List.{take_all}
use Rattle.kernels.specs.Moved.{gather}
use Rattle.source.specs.Fetched.{place_in}
use Rattle.source.proofs.Fetches.{read_more}
use Rattle.source.proofs.readings.Readings.write_indices.Goals as goal

pub loop-k-preserved : goal.loop-k-preserved
loop-k-preserved g c =
    let within = c.loop-k-test.true in
    read_more (g.Self.Readings.all c.args.self) c.loop-k.output c.args.chunk c.args.indices.now c.loop-k.k _ c.reading.result (omega arith) c.reading.ensures (omega arith) (omega arith) c.loop-k.invariant

pub returns : goal.returns
returns g c =
    let k = c.loop-k.k in
    let end = c.loop-k-test.false in
    sym (take_all k c.loop-k.output (omega arith)) ∙ c.loop-k.invariant ∙ ap (λ is. gather (g.Self.Readings.all c.args.self) (map (place_in c.args.chunk) is)) (take_all k c.args.indices.now (omega arith))
