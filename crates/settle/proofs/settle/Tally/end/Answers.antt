use Rattle.std.proofs.Common.{◌+◌, Ok, ap, ◌∙◌}
use Rattle.selection.specs.Refusals.{first}
use Rattle.selection.proofs.Objections.{ok_answered}
use Rattle.settle.specs.Pushes.{fee, past_source}
use Rattle.settle.specs.Tallies.{beyond_fault}
use Rattle.settle.proofs.Tallying.{tallied_fee}
use Rattle.settle.proofs.settle.Tally.end.Goals as goal

pub returns-in-None : goal.returns-in-None
returns-in-None c = λ ps h.
    let t = c.args.terms.now in
    let none = h.beyond ∙ ap beyond_fault c.in-None.is in
    let all = ap (λ p. c.args.self.fee + p) c.chunk_price.ensures ∙ tallied_fee t c.args.self ps h none in
    ap Ok all ∙ ok_answered (first (past_source t.chunks) ps) (fee t ps) none
