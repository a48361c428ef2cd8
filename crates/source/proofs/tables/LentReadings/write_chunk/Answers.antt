use Rattle.std.proofs.Common.{◌≡◌, ◌+◌, ◌-◌, ◌*◌, ◌<◌, sym, ap₂, ◌∙◌, take, drop, mul_comm, arith}
use Rattle.source.specs.Fetched.{whole_chunks}
use Rattle.source.specs.Parts.{part_chunks}
use Rattle.source.proofs.Fetches.{part_chunk}
use Rattle.source.proofs.tables.LentReadings.write_chunk.Goals as goal

pub overflow_mul-from : goal.overflow_mul-from
overflow_mul-from g c = let n = part_chunks c.args.self.lent.now in omega (arith, n, c.requires.there)

pub overflow_add-from : goal.overflow_add-from
overflow_add-from g c = let n = part_chunks c.args.self.lent.now in omega (arith, n, c.requires.there)

pub offset_bounds-self-from : goal.offset_bounds-self-from
offset_bounds-self-from g c = let n = part_chunks c.args.self.lent.now in omega (arith, n, c.requires.there)

pub slice_bounds-copy_from_slice-end : goal.slice_bounds-copy_from_slice-end
slice_bounds-copy_from_slice-end g c = let n = part_chunks c.args.self.lent.now in omega (arith, n, c.requires.there)

pub returns : goal.returns
returns g c =
    let lent = c.args.self.lent.now in
    let chunk = c.args.chunk in
    let n = part_chunks lent in
    let inside : chunk < whole_chunks lent = omega (arith, n, c.requires.there) in
    let size : chunk * 1024 + 1024 - chunk * 1024 ≡ 1024 = omega arith in
    c.copy_from_slice.ensures.after ∙ ap₂ (λ n k. take n (drop k lent)) size (mul_comm chunk 1024) ∙ sym (part_chunk lent chunk inside)
