use Rattle.kernels.specs.Moved.{limit_at_width}
use Rattle.runs.specs.Runs.{new_state}
use Rattle.runs.proofs.Agreement.{agreement}
use Rattle.runs.proofs.Fees.{limit_small}
use Rattle.runs.proofs.Noted.{agree_by, ran_all}
use Rattle.runs.proofs.runs.run_both.Goals as goal

pub returns : goal.returns
returns g c =
    let w = g.T.Element.WIDTH in
    let L = limit_at_width w in
    let one = c.run_pushes-one in
    let other = c.run_pushes-other in
    let ps = c.args.batch.now.pushes.now in
    let qs = c.args.batch2.now.pushes.now in
    let s = new_state (g.D.ChunkDecoder.readings c.args.source) (g.D.ChunkDecoder.allowance c.args.source) c.args.batch.now.output.now c.args.batch.now.scratch.now in
    let t = new_state (g.E.ChunkDecoder.readings c.args.source2) (g.E.ChunkDecoder.allowance c.args.source2) c.args.batch2.now.output.now c.args.batch2.now.scratch.now in
    record {
      one = one.ensures.ran;
      other = other.ensures.ran;
      firsts = (one.ensures.first, other.ensures.first);
      agreed = λ none none' alike same.
          let all = ran_all L ps s c.args.batch.now.notes.now _ _ _ one.ensures.ran none in
          let all' = ran_all L qs t c.args.batch2.now.notes.now _ _ _ other.ensures.ran none' in
          agree_by all.0 all'.0 all.1 all'.1 (agreement L s t ps qs (limit_small w) one.ensures.fresh other.ensures.fresh alike same);
      kept = (one.ensures.kept, other.ensures.kept);
    }
