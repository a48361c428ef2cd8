use Rattle.std.proofs.Common.{arith}
use Rattle.kernels.specs.Moved.{limit_at_width}
use Rattle.chunked.specs.Served.{state_of}
use Rattle.runs.proofs.Noted.{upto_all, upto_more, upto_none}
use Rattle.runs.proofs.runs.push_all.Goals as goal

pub loop-k-init : goal.loop-k-init
loop-k-init g c = upto_none (limit_at_width g.D.Item.Element.WIDTH) c.args.pushes.now (state_of g.D.ChunkDecoder.readings g.D.ChunkDecoder.allowance c.args.filter.now c.args.output.now c.args.scratch.now) c.args.notes.now c.requires

pub bounds-notes-k : goal.bounds-notes-k
bounds-notes-k g c = let h = c.loop-k.invariant in let long = h.long in let t = c.loop-k-test.true in omega arith

pub loop-k-preserved : goal.loop-k-preserved
loop-k-preserved g c = upto_more _ _ _ _ _ _ c.loop-k.invariant _ _ _ c.loop-k-test.true c.push.ensures.value c.push.ensures.after

pub returns : goal.returns
returns g c =
    let L = limit_at_width g.D.Item.Element.WIDTH in
    let s = state_of g.D.ChunkDecoder.readings g.D.ChunkDecoder.allowance c.args.filter.now c.args.output.now c.args.scratch.now in
    let h = upto_all L c.args.pushes.now s _ _ _ c.loop-k.invariant c.loop-k-test.false in
    record { noted = h.0; last = h.1 }
