use Rattle.std.proofs.Common.{◌≡◌, ℕ, ◌+◌, ◌-◌, ◌++◌, map, length, get_or, take, drop, sym, ap, ◌∙◌, ap₂, arith, rules}
use borrow.Rule.Slice.PartMut.{put_mid}
use Rattle.std.specs.List.{range_with_len}
use Rattle.std.proofs.lemmas.List.FromFn.{length-range_with_len}
use Rattle.std.proofs.ByRecursion.{All-get_or}
use Rattle.std.proofs.lemmas.List.{length-drop, length-map, length-take, map-append, take_all}
use Rattle.selection.specs.Selected.{no_run}
use Rattle.kernels.specs.Moved.{shifted, splice}
use Rattle.chunked.specs.Spans.{Spans, in_span, span_end, span_start, spanned}
use Rattle.chunked.proofs.Spanning.{counting_less, picked_room, piece_room, put_more, span_take_count, span_take_more, span_take_most}
use Rattle.chunked.proofs.pieces.RunPiecePiece.list.Goals as goal

pub slice_bounds-fill_counting-end : goal.slice_bounds-fill_counting-end
slice_bounds-fill_counting-end c =
    let p = c.args.self.now in
    let fits = piece_room p.offset p.lo p.hi p.base p.runs.now c.loop-run.run-index c.loop-run.at (length c.args.out.now) c.loop-run-test.true c.loop-run.invariant.0 c.requires in
    search rules

pub loop-run-preserved : goal.loop-run-preserved
loop-run-preserved c =
    let runs = c.args.self.now.runs.now in
    let i = c.loop-run.run-index in
    let offset = c.args.self.now.offset in
    let lo = c.args.self.now.lo in
    let hi = c.args.self.now.hi in
    let r = get_or runs i no_run in
    let here = c.loop-run-test.true in
    let ok = All-get_or (Spans offset lo hi c.args.self.now.base) runs i no_run here c.args.self.now.spans in
    let a : c.cut_run-piece.result.start ≡ span_start offset lo hi r = ap (λ x. x.start) c.cut_run-piece.ensures in
    let b : c.cut_run-piece.result.«end» ≡ span_end offset hi r = ap (λ x. x.«end») c.cut_run-piece.ensures in
    let ordered = ok.ordered in
    let above = ok.above in
    let count = span_take_count offset lo hi runs i here in
    let most = span_take_most offset lo hi runs (i + 1) in
    let room = picked_room (shifted 0 c.args.self.now.base) (in_span offset lo hi runs) _ c.requires in
    let inv = c.loop-run.invariant.0 in
    let base = c.args.self.now.base in
    let n : ℕ = span_end offset hi r - span_start offset lo hi r in
    let vs = map (shifted 0 base) (in_span offset lo hi (take i runs)) in
    let ws = map (shifted 0 base) (spanned offset lo hi r) in
    let at = c.loop-run.at in
    let size : c.cut_run-piece.result.«end» - c.cut_run-piece.result.start ≡ n = omega arith in
    let k : ℕ = at + (c.cut_run-piece.result.«end» - c.cut_run-piece.result.start) - at in
    let part-size : k ≡ n = omega arith in
    let room' = c.loop-run.auto.out in
    let part-long : length (take k (drop at c.loop-run.out)) ≡ n = ap length (ap (λ m. take m (drop at c.loop-run.out)) part-size) ∙ length-take n (drop at c.loop-run.out) ∙ (let rest = length-drop at c.loop-run.out in omega arith) in
    let filled : c.fill_counting.new.out ≡ ws = c.fill_counting.ensures ∙ ap₂ range_with_len (ap (λ y. y - base) a) part-long ∙ counting_less base (span_start offset lo hi r) n above in
    let ws-long : length ws ≡ k = length-map (spanned offset lo hi r) (shifted 0 base) ∙ length-range_with_len (span_start offset lo hi r) n ∙ sym part-size in
    let vs-long : length vs ≡ at = length-map (in_span offset lo hi (take i runs)) (shifted 0 base) ∙ sym inv in
    let all : map (shifted 0 base) (in_span offset lo hi (take (i + 1) runs)) ≡ vs ++ ws = ap (map (shifted 0 base)) (span_take_more offset lo hi runs i here) ∙ map-append (shifted 0 base) (in_span offset lo hi (take i runs)) (spanned offset lo hi r) in (
      omega arith,
      ap₂ (λ xs ys. put_mid at k xs ys) c.loop-run.invariant.1 filled ∙ put_more c.args.out.now vs ws at k vs-long ws-long ∙ ap (splice c.args.out.now 0) (sym all),
    )

pub returns : goal.returns
returns c = c.loop-run.invariant.1 ∙ ap (λ rs. splice c.args.out.now 0 (map (shifted 0 c.args.self.now.base) (in_span c.args.self.now.offset c.args.self.now.lo c.args.self.now.hi rs))) (take_all c.loop-run.run-index c.args.self.now.runs.now c.loop-run-test.false)
