use Rattle.std.proofs.Common.{◌<◌, refl, length, sym, ◌∙◌, arith}
use Rattle.std.proofs.lemmas.List.{length-take-le}
use Rattle.std.proofs.lemmas.List.Elements.{All-from_recursion}
use Rattle.source.proofs.Fetches.{carried_out, granted, turned_down}
use Rattle.source.proofs.metered.MeteredChunkDecoder.decode_indices.Goals as goal

pub returns-in_err-admit_indices-clause-after : goal.returns-in_err-admit_indices-clause-after
returns-in_err-admit_indices-clause-after g c = turned_down _ c.args.chunk c.args.indices.now _ c.in_err-admit_indices.ensures

pub slice_bounds-write_indices-end : goal.slice_bounds-write_indices-end
slice_bounds-write_indices-end g c = let h = granted _ c.args.chunk c.args.indices.now c.in_ok-admit_indices.ensures in omega (arith, h.places)

pub slice_bounds-write_indices-end-2 : goal.slice_bounds-write_indices-end-2
slice_bounds-write_indices-end-2 g c = let h = granted _ c.args.chunk c.args.indices.now c.in_ok-admit_indices.ensures in sym (length-take-le (length c.args.indices.now) c.args.output.now (omega (arith, h.places)))

pub write_indices-requires : goal.write_indices-requires
write_indices-requires g c =
    let h = granted _ c.args.chunk c.args.indices.now c.in_ok-admit_indices.ensures in
    record { there = omega (arith, h.chunk); inside = All-from_recursion (λ i. i < 1024) c.args.indices.now h.indices; size = length-take-le (length c.args.indices.now) c.args.output.now (omega (arith, h.places)) }

pub overflow_sub-self : goal.overflow_sub-self
overflow_sub-self g c = let h = granted _ c.args.chunk c.args.indices.now c.in_ok-admit_indices.ensures in omega (arith, h.payable)

pub returns-clause-after : goal.returns-clause-after
returns-clause-after g c =
    let kept = c.write_indices.auto.output in
    let h = granted _ c.args.chunk c.args.indices.now c.in_ok-admit_indices.ensures in
    let room = length-take-le (length c.args.indices.now) c.args.output.now (omega (arith, h.places)) in
    carried_out _ c.args.chunk c.args.indices.now (length c.args.indices.now) c.write_indices.new.output c.in_ok-admit_indices.ensures refl (kept ∙ room) c.write_indices.ensures
