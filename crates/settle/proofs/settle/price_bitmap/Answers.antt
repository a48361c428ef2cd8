use Rattle.std.proofs.Common.{◌≡◌, ◌+◌, ◌^◌, ◌<◌, [], length, Ok, sym, ap, ◌∙◌, subst, ap₂, arith, rules}
use Rattle.std.proofs.lemmas.List.{length-map}
use Rattle.std.proofs.lemmas.Result.{err_from_is_err_and}
use Rattle.selection.specs.Refusals.{answered, first}
use Rattle.selection.specs.Selected.{set_between, window_bit, window_positions}
use Rattle.selection.proofs.Objections.{answered_err, answered_ok, answered_value, ok_answered}
use Rattle.settle.specs.declared.settle.Receipt.{Receipt}
use Rattle.settle.specs.Pushes.{fee, moved, past_source, receipt}
use Rattle.settle.specs.Bounds.{boundary, kept_between_places}
use Rattle.settle.specs.Tallies.{Tallied}
use Rattle.settle.proofs.Bitmaps.{chunk_here, count_next, kept_few, kept_start, kept_whole, ones_next, places_next, set_in_chunk}
use Rattle.settle.proofs.Settled.{at}
use Rattle.settle.proofs.Tallying.{tallied_none, tallied_still}
use Rattle.settle.proofs.settle.price_bitmap.Goals as goal

pub loop-chunk-init : goal.loop-chunk-init
loop-chunk-init c =
    let w = c.args.window in
    let t = c.args.terms.now in
    let new = c.new-tally.ensures in
    let none = kept_start (window_bit w) c.args.offset w.len in
    let a = ap (λ y. y.chunk) new in
    let b = ap (λ y. y.fee) new in
    let d = ap (λ y. y.count) new in
    (subst (λ xs. Tallied t c.new-tally.result (at c.args.offset xs)) (sym none) (subst (λ y. Tallied t y []) (sym new) (tallied_none t)), omega arith, omega arith, sym (ap length none))

pub loop-chunk-preserved-then-n-eq0 : goal.loop-chunk-preserved-then-n-eq0
loop-chunk-preserved-then-n-eq0 c =
    let w = c.args.window in
    let q = window_bit w in
    let len = w.len in
    let offset = c.args.offset in
    let chunk = c.loop-chunk.chunk in
    let t = c.args.terms.now in
    let n = c.ones_between-n.result in
    let a : c.chunk_boundary-from.result ≡ boundary offset len chunk = c.chunk_boundary-from.ensures in
    let b : c.chunk_boundary-to.result ≡ boundary offset len (chunk + 1) = c.chunk_boundary-to.ensures in
    let ones : n ≡ length (kept_between_places q (boundary offset len chunk) (boundary offset len (chunk + 1))) = c.ones_between-n.ensures ∙ ap₂ (set_between w) a b ∙ set_in_chunk w offset chunk in
    let z = c.if-n-eq0.true in
    let next = count_next q offset len chunk c.requires.small in
    let inv = c.loop-chunk.invariant in
    let same = inv.3 in
    let before = inv.1 in
    let part = kept_between_places q (boundary offset len chunk) (boundary offset len (chunk + 1)) in
    let none : length (at offset part) ≡ 0 = length-map part (moved offset) ∙ sym ones ∙ z in
    (subst (Tallied t c.loop-chunk.tally) (sym (places_next q offset len chunk c.requires.small)) (tallied_still t c.loop-chunk.tally (at offset (kept_between_places q 0 (boundary offset len chunk))) (at offset part) none inv.0), omega arith, inv.2, omega arith)

pub overflow_add-count : goal.overflow_add-count
overflow_add-count c =
    let w = c.args.window in
    let offset = c.args.offset in
    let chunk = c.loop-chunk.chunk in
    let n = c.ones_between-n.result in
    let next = ones_next w offset chunk n c.requires.small (c.ones_between-n.ensures ∙ ap₂ (set_between w) c.chunk_boundary-from.ensures c.chunk_boundary-to.ensures) in
    let few = kept_few (window_bit w) 0 (boundary offset w.len (chunk + 1)) in
    let same = c.loop-chunk.invariant.3 in
    let short = c.requires.short in
    let fits : c.loop-chunk.count + n < 2 ^ 64 = omega arith in
    search rules

pub take-requires-clause-fits : goal.take-requires-clause-fits
take-requires-clause-fits c =
    let w = c.args.window in
    let offset = c.args.offset in
    let chunk = c.loop-chunk.chunk in
    let n = c.ones_between-n.result in
    let next = ones_next w offset chunk n c.requires.small (c.ones_between-n.ensures ∙ ap₂ (set_between w) c.chunk_boundary-from.ensures c.chunk_boundary-to.ensures) in
    let few = kept_few (window_bit w) 0 (boundary offset w.len (chunk + 1)) in
    let same = c.loop-chunk.invariant.3 in
    let short = c.requires.short in
    let weight = c.loop-chunk.invariant.2 in
    omega arith

pub loop-chunk-preserved : goal.loop-chunk-preserved
loop-chunk-preserved c =
    let w = c.args.window in
    let q = window_bit w in
    let len = w.len in
    let offset = c.args.offset in
    let chunk = c.loop-chunk.chunk in
    let t = c.args.terms.now in
    let n = c.ones_between-n.result in
    let a : c.chunk_boundary-from.result ≡ boundary offset len chunk = c.chunk_boundary-from.ensures in
    let b : c.chunk_boundary-to.result ≡ boundary offset len (chunk + 1) = c.chunk_boundary-to.ensures in
    let ones : n ≡ length (kept_between_places q (boundary offset len chunk) (boundary offset len (chunk + 1))) = c.ones_between-n.ensures ∙ ap₂ (set_between w) a b ∙ set_in_chunk w offset chunk in
    let next = count_next q offset len chunk c.requires.small in
    let inv = c.loop-chunk.invariant in
    let same = inv.3 in
    let before = inv.2 in
    let current = c.take.ensures.current in
    let weight = c.take.ensures.weight in
    let part = kept_between_places q (boundary offset len chunk) (boundary offset len (chunk + 1)) in
    let on = c.take.ensures.tallied (at offset (kept_between_places q 0 (boundary offset len chunk))) (at offset part) inv.0 (chunk_here q offset len chunk c.requires.small) (length-map part (moved offset) ∙ sym ones) in
    (subst (Tallied t c.take.new.self) (sym (places_next q offset len chunk c.requires.small)) on, omega arith, omega arith, omega arith)

pub returns-in_err-fee : goal.returns-in_err-fee
returns-in_err-fee c =
    let w = c.args.window in
    let q = window_bit w in
    let len = w.len in
    let offset = c.args.offset in
    let t = c.args.terms.now in
    let left = c.loop-chunk-test.false in
    let up = c.div_ceil-chunk-end.ensures in
    let all : boundary offset len c.loop-chunk.chunk ≡ len = omega arith in
    let ps = at offset (kept_between_places q 0 (boundary offset len c.loop-chunk.chunk)) in
    let whole : ps ≡ at offset (window_positions w) = ap (λ b. at offset (kept_between_places q 0 b)) all ∙ ap (at offset) (kept_whole w) in
    let past = answered_err _ _ _ (sym (c.in_err-fee.ensures ps c.loop-chunk.invariant.0)) in
    let e = err_from_is_err_and c.from_residual.result c.from_residual.ensures.1 in
    rw (e.1, e.2) (sym (ap (λ o. answered o (receipt t (at offset (window_positions w)))) (ap (first (past_source t.chunks)) (sym whole) ∙ past)))

pub returns : goal.returns
returns c =
    let w = c.args.window in
    let q = window_bit w in
    let len = w.len in
    let offset = c.args.offset in
    let t = c.args.terms.now in
    let left = c.loop-chunk-test.false in
    let up = c.div_ceil-chunk-end.ensures in
    let all : boundary offset len c.loop-chunk.chunk ≡ len = omega arith in
    let ps = at offset (kept_between_places q 0 (boundary offset len c.loop-chunk.chunk)) in
    let whole : ps ≡ at offset (window_positions w) = ap (λ b. at offset (kept_between_places q 0 b)) all ∙ ap (at offset) (kept_whole w) in
    let gave = c.in_ok-fee.ensures ps c.loop-chunk.invariant.0 in
    let inside = answered_ok _ _ _ (sym gave) in
    let cost = answered_value _ _ _ (sym gave) in
    let size : c.loop-chunk.count ≡ length (at offset (window_positions w)) = c.loop-chunk.invariant.3 ∙ sym (length-map (kept_between_places q 0 (boundary offset len c.loop-chunk.chunk)) (moved offset)) ∙ ap length whole in
    let r : Receipt = record { count = c.loop-chunk.count; fee = c.in_ok-fee.fee } in
    let same : r ≡ receipt t (at offset (window_positions w)) = ap₂ (λ x y. record { count = x; fee = y }) size (sym cost ∙ ap (fee t) whole) in
    ap Ok same ∙ ok_answered (first (past_source t.chunks) (at offset (window_positions w))) (receipt t (at offset (window_positions w))) (ap (first (past_source t.chunks)) (sym whole) ∙ inside)
