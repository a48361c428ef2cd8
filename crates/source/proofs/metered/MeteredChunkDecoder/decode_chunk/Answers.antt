use Rattle.std.proofs.Common.{sym, ◌∙◌, arith}
use Rattle.std.proofs.lemmas.List.{length-take-le}
use Rattle.source.specs.Fetched.{whole_chunk}
use Rattle.source.proofs.Fetches.{carried_out, granted, turned_down, whole_length}
use Rattle.source.proofs.metered.MeteredChunkDecoder.decode_chunk.Goals as goal

pub returns-in_err-admit_chunk-clause-after : goal.returns-in_err-admit_chunk-clause-after
returns-in_err-admit_chunk-clause-after g c = turned_down _ c.args.chunk whole_chunk _ c.in_err-admit_chunk.ensures

pub slice_bounds-write_chunk-end : goal.slice_bounds-write_chunk-end
slice_bounds-write_chunk-end g c = let h = granted _ c.args.chunk whole_chunk c.in_ok-admit_chunk.ensures in let size = whole_length in omega (arith, h.places)

pub slice_bounds-write_chunk-end-2 : goal.slice_bounds-write_chunk-end-2
slice_bounds-write_chunk-end-2 g c = let h = granted _ c.args.chunk whole_chunk c.in_ok-admit_chunk.ensures in let size = whole_length in sym (length-take-le 1024 c.args.output.now (omega (arith, h.places)))

pub write_chunk-requires : goal.write_chunk-requires
write_chunk-requires g c =
    let h = granted _ c.args.chunk whole_chunk c.in_ok-admit_chunk.ensures in
    let size = whole_length in
    record { there = omega (arith, h.chunk); size = length-take-le 1024 c.args.output.now (omega (arith, h.places)) }

pub overflow_sub-self : goal.overflow_sub-self
overflow_sub-self g c = let h = granted _ c.args.chunk whole_chunk c.in_ok-admit_chunk.ensures in let size = whole_length in omega (arith, h.payable)

pub returns-clause-after : goal.returns-clause-after
returns-clause-after g c =
    let size = whole_length in
    let kept = c.write_chunk.auto.output in
    let h = granted _ c.args.chunk whole_chunk c.in_ok-admit_chunk.ensures in
    let room = length-take-le 1024 c.args.output.now (omega (arith, h.places)) in
    carried_out _ c.args.chunk whole_chunk 1024 c.write_chunk.new.output c.in_ok-admit_chunk.ensures (sym size) (kept ∙ room) c.write_chunk.ensures
