use Rattle.std.proofs.Common.{◌+◌, ◌^◌, ◌<◌, [], ◌∷◌, length, drop, sym, ap, ◌∙◌, arith, rules}
use Rattle.std.proofs.lemmas.List.{drop_all}
use Rattle.kernels.specs.Masks.{set_bits}
use Rattle.kernels.proofs.Putting.{left_done, left_first, left_same, left_small, left_turn}
use Rattle.kernels.proofs.Rows.{length_row, row_items, row_told}
use Rattle.kernels.proofs.byte_compress.put_row.Goals as goal

pub bounds-row-8 : goal.bounds-row-8
bounds-row-8 g c = let e = ap length c.row_at-row.ensures ∙ length_row c.args.byte in omega arith

pub slice_bounds-place-items-end : goal.slice_bounds-place-items-end
slice_bounds-place-items-end g c = sym (row_items c.args.byte 0 c.from.result c.row_at-row.result.now c.row_at-row.ensures c.from.ensures).0

pub overflow_add-base : goal.overflow_add-base
overflow_add-base g c =
    let j = c.loop-place.place-index in
    let r = c.from-in-loop-place.result in
    let h = (left_small c.requires.laws (left_same _ (row_told c.args.byte c.args.base c.from.result j r c.row_at-row.result.now c.row_at-row.ensures c.from.ensures c.loop-place-test.true c.from-in-loop-place.ensures) c.loop-place.invariant)).0 in
    let fits : c.args.base + r < 2 ^ 64 = omega arith in
    search rules

pub put-requires : goal.put-requires
put-requires g c =
    let j = c.loop-place.place-index in
    let r = c.from-in-loop-place.result in
    left_first c.requires.laws ((c.args.base + r) ∷ []) (drop (j + 1) (set_bits 8 c.args.byte c.args.base)) (left_same _ (row_told c.args.byte c.args.base c.from.result j r c.row_at-row.result.now c.row_at-row.ensures c.from.ensures c.loop-place-test.true c.from-in-loop-place.ensures) c.loop-place.invariant)

pub loop-place-preserved : goal.loop-place-preserved
loop-place-preserved g c =
    let j = c.loop-place.place-index in
    let r = c.from-in-loop-place.result in
    left_turn c.requires.laws ((c.args.base + r) ∷ []) (drop (j + 1) (set_bits 8 c.args.byte c.args.base)) c.put.new.self c.requires.able (left_same _ (row_told c.args.byte c.args.base c.from.result j r c.row_at-row.result.now c.row_at-row.ensures c.from.ensures c.loop-place-test.true c.from-in-loop-place.ensures) c.loop-place.invariant) c.put.ensures

pub returns : goal.returns
returns g c =
    let items = row_items c.args.byte c.args.base c.from.result c.row_at-row.result.now c.row_at-row.ensures c.from.ensures in
    left_done (left_same [] (drop_all c.loop-place.place-index (set_bits 8 c.args.byte c.args.base) (omega arith)) c.loop-place.invariant)
