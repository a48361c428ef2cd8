use Rattle.std.proofs.Common.{◌≡◌, ℕ, ◌+◌, ◌-◌, ◌≤◌, ◌++◌, map, length, get_or, take, drop, sym, ap, ◌∙◌, ap₂, arith, rules}
use Rattle.std.proofs.ByRecursion.{All-get_or, All-take}
use Rattle.std.proofs.lemmas.List.{length-map, map-append, take_all}
use Rattle.selection.specs.Selected.{no_run}
use Rattle.kernels.specs.Moved.{gather, shifted, splice}
use Rattle.chunked.specs.Spans.{Spans, in_span, span_end, span_start, spanned}
use Rattle.kernels.proofs.Gathered.{gather_append, gather_counting, length_gather}
use Rattle.chunked.proofs.Spanning.{counting_less, picked_room, piece_room, put_rest_more, span_inside, span_take_count, span_take_more, span_take_most}
use Rattle.chunked.proofs.pieces.RunPiecePiece.copy.Goals as goal

wide_enough : (hi base n : ℕ) → hi ≤ base + 1024 → 1024 ≤ n → hi ≤ base + n
wide_enough hi base n near whole = omega arith

pub offset_bounds-dst-at : goal.offset_bounds-dst-at
offset_bounds-dst-at g c =
    let p = c.args.self.now in
    let fits = piece_room p.offset p.lo p.hi p.base p.runs.now c.loop-run.run-index c.loop-run.at (length c.args.dst.now) c.loop-run-test.true c.loop-run.invariant.0 c.requires.room in
    let within : c.loop-run.at ≤ length c.args.dst.now = omega arith in
    search rules

pub copy_part-requires-clause-room : goal.copy_part-requires-clause-room
copy_part-requires-clause-room g c =
    let p = c.args.self.now in
    let fits = piece_room p.offset p.lo p.hi p.base p.runs.now c.loop-run.run-index c.loop-run.at (length c.args.dst.now) c.loop-run-test.true c.loop-run.invariant.0 c.requires.room in
    let within : c.loop-run.at ≤ length c.args.dst.now = omega arith in
    search rules

pub slice_bounds-copy_part-count : goal.slice_bounds-copy_part-count
slice_bounds-copy_part-count g c =
    let p = c.args.self.now in
    let fits = piece_room p.offset p.lo p.hi p.base p.runs.now c.loop-run.run-index c.loop-run.at (length c.args.dst.now) c.loop-run-test.true c.loop-run.invariant.0 c.requires.room in
    let within : c.loop-run.at ≤ length c.args.dst.now = omega arith in
    search rules

pub slice_bounds-copy_part-start : goal.slice_bounds-copy_part-start
slice_bounds-copy_part-start g c =
    let p = c.args.self.now in
    let fits = piece_room p.offset p.lo p.hi p.base p.runs.now c.loop-run.run-index c.loop-run.at (length c.args.dst.now) c.loop-run-test.true c.loop-run.invariant.0 c.requires.room in
    let within : c.loop-run.at ≤ length c.args.dst.now = omega arith in
    search rules

pub loop-run-preserved : goal.loop-run-preserved
loop-run-preserved g c =
    let runs = c.args.self.now.runs.now in
    let i = c.loop-run.run-index in
    let offset = c.args.self.now.offset in
    let lo = c.args.self.now.lo in
    let hi = c.args.self.now.hi in
    let r = get_or runs i no_run in
    let here = c.loop-run-test.true in
    let ok = All-get_or (Spans offset lo hi c.args.self.now.base) runs i no_run here c.args.self.now.spans in
    let a : c.cut_run-piece.result.start ≡ span_start offset lo hi r = ap (λ x. x.start) c.cut_run-piece.ensures in
    let b : c.cut_run-piece.result.«end» ≡ span_end offset hi r = ap (λ x. x.«end») c.cut_run-piece.ensures in
    let ordered = ok.ordered in
    let above = ok.above in
    let count = span_take_count offset lo hi runs i here in
    let most = span_take_most offset lo hi runs (i + 1) in
    let room = picked_room (shifted 0 c.args.self.now.base) (in_span offset lo hi runs) _ c.requires.room in
    let bound = c.args.self.now.bound in
    let inv = c.loop-run.invariant.0 in
    let keep = c.loop-run.auto.dst in
    let fits : c.loop-run.at + (c.cut_run-piece.result.«end» - c.cut_run-piece.result.start) ≤ length c.args.dst.now = omega arith in
    let base = c.args.self.now.base in
    let src = c.args.chunk.now in
    let n : ℕ = span_end offset hi r - span_start offset lo hi r in
    let x = span_start offset lo hi r in
    let vs = gather src (map (shifted 0 base) (in_span offset lo hi (take i runs))) in
    let ws = gather src (map (shifted 0 base) (spanned offset lo hi r)) in
    let at = c.loop-run.at in
    let wide = let whole = c.requires.whole in let near = c.args.self.now.chunk in wide_enough hi base (length src) near whole in
    let size : c.cut_run-piece.result.«end» - c.cut_run-piece.result.start ≡ n = omega arith in
    let piece : take (c.cut_run-piece.result.«end» - c.cut_run-piece.result.start) (drop (c.cut_run-piece.result.start - base) src) ≡ ws = ap₂ (λ m y. take m (drop (y - base) src)) size a ∙ sym (gather_counting src n (span_start offset lo hi r - base)) ∙ ap (gather src) (counting_less base (span_start offset lo hi r) n above) in
    let inside = span_inside offset lo hi base (length src) (take i runs) (All-take (Spans offset lo hi base) i runs c.args.self.now.spans) wide in
    let vs-long : length vs ≡ at = length_gather src (map (shifted 0 base) (in_span offset lo hi (take i runs))) inside ∙ length-map (in_span offset lo hi (take i runs)) (shifted 0 base) ∙ sym inv in
    let all : gather src (map (shifted 0 base) (in_span offset lo hi (take (i + 1) runs))) ≡ vs ++ ws = ap (λ xs. gather src (map (shifted 0 base) xs)) (span_take_more offset lo hi runs i here) ∙ ap (gather src) (map-append (shifted 0 base) (in_span offset lo hi (take i runs)) (spanned offset lo hi r)) ∙ gather_append src (map (shifted 0 base) (in_span offset lo hi (take i runs))) (map (shifted 0 base) (spanned offset lo hi r)) in (
      omega arith,
      put_rest_more c.args.dst.now vs ws c.loop-run.dst c.copy_part.new.dst at vs-long c.loop-run.invariant.1 (c.copy_part.ensures ∙ ap (splice (take (length c.loop-run.dst - at) (drop at c.loop-run.dst)) 0) piece) ∙ ap (splice c.args.dst.now 0) (sym all),
    )

pub returns : goal.returns
returns g c = c.loop-run.invariant.1 ∙ ap (λ rs. splice c.args.dst.now 0 (gather c.args.chunk.now (map (shifted 0 c.args.self.now.base) (in_span c.args.self.now.offset c.args.self.now.lo c.args.self.now.hi rs)))) (take_all c.loop-run.run-index c.args.self.now.runs.now c.loop-run-test.false)
