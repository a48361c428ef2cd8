use Rattle.std.proofs.Common.{refl, drop, map, ap, ◌∙◌, arith}
use Rattle.std.proofs.lemmas.List.{length-drop, length-map, take_rest}
use Rattle.kernels.specs.Moved.{gather, limit_at_width, splice}
use Rattle.source.specs.Fetched.{place_in}
use Rattle.chunked.specs.Deliveries.{held}
use Rattle.chunked.proofs.Fetching.{put_rest}
use Rattle.chunked.proofs.Serving.{clear_chunk, clear_sparse, leaves_served, picked_is, sparse, straight, through}
use Rattle.chunked.proofs.serve.Delivery.serve_chunk.Goals as goal

pub fetch_indices-requires-clause-clear : goal.fetch_indices-requires-clause-clear
fetch_indices-requires-clause-clear g c =
    let L = limit_at_width g.D.Item.Element.WIDTH in
    let d = c.args.self.now in
    let s = held g.D.ChunkDecoder.readings g.D.ChunkDecoder.allowance d in
    let chunk = c.args.chunk in
    let js = g.P.Piece.picks c.args.piece.now in
    let whole = g.D.ChunkDecoder.whole d.source.now in
    let limit = c.sparse_limit.ensures in
    let n = c.count-n.ensures in
    let few = c.if-n-sparse_limit.true in
    let is = picked_is c.list.new.out _ js c.count-n.result c.list.ensures (omega arith) in
    clear_sparse L s d.at chunk js c.requires whole _ is (omega arith)

pub fetch_chunk-requires-clause-clear : goal.fetch_chunk-requires-clause-clear
fetch_chunk-requires-clause-clear g c =
    let L = limit_at_width g.D.Item.Element.WIDTH in
    let d = c.args.self.now in
    let s = held g.D.ChunkDecoder.readings g.D.ChunkDecoder.allowance d in
    let chunk = c.args.chunk in
    let js = g.P.Piece.picks c.args.piece.now in
    let whole = g.D.ChunkDecoder.whole d.source.now in
    let limit = c.sparse_limit.ensures in
    let n = c.count-n.ensures in
    let size = length-map js (place_in chunk) in
    let more = c.if-n-sparse_limit.false in
    let all = c.if-n-eq-CHUNK.true in
    let fits = c.requires.fits in
    let rest = length-drop d.at d.output.now in
    clear_chunk L s d.at chunk (map (place_in chunk) js) c.requires (drop d.at d.output.now) (omega arith) (omega arith)

pub fetch_chunk-requires-else-n-eq-CHUNK-clause-clear : goal.fetch_chunk-requires-else-n-eq-CHUNK-clause-clear
fetch_chunk-requires-else-n-eq-CHUNK-clause-clear g c =
    let L = limit_at_width g.D.Item.Element.WIDTH in
    let d = c.args.self.now in
    let s = held g.D.ChunkDecoder.readings g.D.ChunkDecoder.allowance d in
    let chunk = c.args.chunk in
    let js = g.P.Piece.picks c.args.piece.now in
    let whole = g.D.ChunkDecoder.whole d.source.now in
    let limit = c.sparse_limit.ensures in
    let n = c.count-n.ensures in
    let size = length-map js (place_in chunk) in
    let more = c.if-n-sparse_limit.false in
    clear_chunk L s d.at chunk (map (place_in chunk) js) c.requires d.scratch.now c.requires.room (omega arith)

pub returns-then-n-sparse_limit : goal.returns-then-n-sparse_limit
returns-then-n-sparse_limit g c =
    let L = limit_at_width g.D.Item.Element.WIDTH in
    let d = c.args.self.now in
    let s = held g.D.ChunkDecoder.readings g.D.ChunkDecoder.allowance d in
    let chunk = c.args.chunk in
    let js = g.P.Piece.picks c.args.piece.now in
    let whole = g.D.ChunkDecoder.whole d.source.now in
    let limit = c.sparse_limit.ensures in
    let n = c.count-n.ensures in
    let size = length-map js (place_in chunk) in
    let few = c.if-n-sparse_limit.true in
    let is = picked_is c.list.new.out _ js c.count-n.result c.list.ensures (omega arith) in
    let e = c.fetch_indices.ensures in
    record {
      store = leaves_served L s d.at chunk (map (place_in chunk) js) c.requires _ _ _ _ (sparse L s d.at chunk js c.requires whole _ _ _ _ (omega arith) is (record { kept = e.kept; paid = e.paid; wrote = e.wrote }));
      moved = omega arith;
      same = record { source = refl; output = refl; scratch = refl };
    }

pub returns-then-n-eq-CHUNK : goal.returns-then-n-eq-CHUNK
returns-then-n-eq-CHUNK g c =
    let L = limit_at_width g.D.Item.Element.WIDTH in
    let d = c.args.self.now in
    let s = held g.D.ChunkDecoder.readings g.D.ChunkDecoder.allowance d in
    let chunk = c.args.chunk in
    let js = g.P.Piece.picks c.args.piece.now in
    let whole = g.D.ChunkDecoder.whole d.source.now in
    let limit = c.sparse_limit.ensures in
    let n = c.count-n.ensures in
    let size = length-map js (place_in chunk) in
    let e = c.fetch_chunk.ensures in
    let more = c.if-n-sparse_limit.false in
    let all = c.if-n-eq-CHUNK.true in
    record {
      store = leaves_served L s d.at chunk (map (place_in chunk) js) c.requires _ _ _ _ (straight L s d.at chunk (map (place_in chunk) js) c.requires whole _ _ _ (omega arith) (omega arith) (record { kept = e.kept; paid = e.paid; wrote = e.wrote }));
      moved = omega arith;
      same = record { source = refl; output = refl; scratch = refl };
    }

pub returns-else-n-eq-CHUNK : goal.returns-else-n-eq-CHUNK
returns-else-n-eq-CHUNK g c =
    let L = limit_at_width g.D.Item.Element.WIDTH in
    let d = c.args.self.now in
    let s = held g.D.ChunkDecoder.readings g.D.ChunkDecoder.allowance d in
    let chunk = c.args.chunk in
    let js = g.P.Piece.picks c.args.piece.now in
    let whole = g.D.ChunkDecoder.whole d.source.now in
    let limit = c.sparse_limit.ensures in
    let n = c.count-n.ensures in
    let size = length-map js (place_in chunk) in
    let e = c.fetch_chunk-else-n-eq-CHUNK.ensures in
    let more = c.if-n-sparse_limit.false in
    let not-all = c.if-n-eq-CHUNK.false in
    let part = c.copy.new.dst in
    let copied = c.copy.ensures ∙ ap (λ zs. splice zs 0 (gather c.fetch_chunk-else-n-eq-CHUNK.new.output js)) (take_rest s.output d.at) in
    record {
      store = leaves_served L s d.at chunk (map (place_in chunk) js) c.requires _ _ _ _ (through L s d.at chunk js c.requires whole _ _ part _ _ (omega arith) (λ x. not-all (n ∙ x)) (record { kept = e.kept; paid = e.paid; wrote = e.wrote }) copied (put_rest s.output part d.at));
      moved = omega arith;
      same = record { source = refl; output = refl; scratch = refl };
    }
