use Rattle.std.proofs.Common.{refl, sym, map, length, ap, ◌∙◌, subst, arith}
use Rattle.std.proofs.lemmas.List.{length-map}
use Rattle.selection.specs.Selected.{window_bit}
use Rattle.kernels.specs.Moved.{limit_at_width}
use Rattle.kernels.proofs.Masked.{words_mask, words_selected}
use Rattle.settle.specs.Pushes.{moved}
use Rattle.settle.specs.Bounds.{kept_between_places}
use Rattle.chunked.specs.Served.{Servable}
use Rattle.chunked.specs.Deliveries.{Delivered, offers}
use Rattle.chunked.proofs.Walks.{delivered_none}
use Rattle.chunked.proofs.Windows.{loaded_count, loaded_places}
use Rattle.chunked.proofs.serve.Delivery.serve_chunk_bitmap.Goals as goal

pub invariant_of-piece : goal.invariant_of-piece
invariant_of-piece g c =
    let low = c.requires.low in
    let high = c.requires.high in
    let order = c.requires.order in
    record { mask = words_mask _ _ c.load_words-count.ensures.covers; chunk = omega arith; counted = c.load_words-count.ensures.count ∙ ap length (sym (words_selected _ _)) }

pub serve_chunk-requires : goal.serve_chunk-requires
serve_chunk-requires g c =
    let count = loaded_count c.args.window c.load_words-count.new.words c.args.«from» c.args.to c.load_words-count.result c.load_words-count.ensures.picks c.load_words-count.ensures.count in
    let some = c.if-count-gt0.true in
    subst (Servable (offers (limit_at_width g.D.Item.Element.WIDTH) g.D.ChunkDecoder.readings g.D.ChunkDecoder.allowance c.args.self.now) c.args.chunk)
    (sym (loaded_places c.args.window _ c.args.offset.by c.args.«from» c.args.to c.args.chunk _ refl c.requires.low c.load_words-count.ensures.picks))
    (c.requires.servable (omega arith))

pub returns-then-count-gt0 : goal.returns-then-count-gt0
returns-then-count-gt0 g c =
    subst (Delivered (limit_at_width g.D.Item.Element.WIDTH) g.D.ChunkDecoder.readings g.D.ChunkDecoder.allowance c.args.self.now c.serve_chunk.new.self)
    (loaded_places c.args.window _ c.args.offset.by c.args.«from» c.args.to c.args.chunk _ refl c.requires.low c.load_words-count.ensures.picks) c.serve_chunk.ensures

pub returns-else-count-gt0 : goal.returns-else-count-gt0
returns-else-count-gt0 g c =
    let ys = kept_between_places (window_bit c.args.window) c.args.«from» c.args.to in
    let count = loaded_count c.args.window c.load_words-count.new.words c.args.«from» c.args.to c.load_words-count.result c.load_words-count.ensures.picks c.load_words-count.ensures.count in
    let none = c.if-count-gt0.false in
    let size = length-map ys (moved c.args.offset.by) in
    delivered_none (limit_at_width g.D.Item.Element.WIDTH) g.D.ChunkDecoder.readings g.D.ChunkDecoder.allowance c.args.self.now (map (moved c.args.offset.by) ys) (omega arith)
