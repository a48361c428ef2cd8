use Rattle.std.proofs.Common.{◌≡◌, List, sym, ap, ap₂, ◌∙◌, rules}
use Rattle.std.proofs.lemmas.Result.{err_from_is_err_and}
use Rattle.kernels.specs.Moved.{limit_at_width}
use Rattle.settle.specs.Pushes.{answer, places}
use Rattle.chunked.specs.Served.{more_written, state_of, terms_of}
use Rattle.chunked.specs.Deliveries.{held}
use Rattle.settle.proofs.Settled.{roomy}
use Rattle.chunked.proofs.Accepted.{accepted, refused_next, served_by}
use Rattle.chunked.proofs.filters.ChunkedFilter.push.Goals as goal

pub returns-in_err-receipt : goal.returns-in_err-receipt
returns-in_err-receipt g c =
    let L = limit_at_width g.D.Item.Element.WIDTH in
    let s = state_of g.D.ChunkDecoder.readings g.D.ChunkDecoder.allowance c.args.self.now c.args.output.now c.args.scratch.now in
    let terms : c.terms-terms.result ≡ terms_of L s = c.terms-terms.ensures in
    let e = err_from_is_err_and c.from_residual.result c.from_residual.ensures.1 in
    let gave = c.in_err-receipt.ensures ∙ ap (λ t. answer t c.args.push) terms in
    record { value = rw (e.1, e.2) gave; after = refused_next L s c.args.push _ (sym gave) }

pub serve-requires : goal.serve-requires
serve-requires g c =
    let L = limit_at_width g.D.Item.Element.WIDTH in
    let s = state_of g.D.ChunkDecoder.readings g.D.ChunkDecoder.allowance c.args.self.now c.args.output.now c.args.scratch.now in
    let terms : c.terms-terms.result ≡ terms_of L s = c.terms-terms.ensures in
    let gave = c.in_ok-receipt.ensures ∙ ap (λ t. answer t c.args.push) terms in
    let a = accepted L s c.args.push _ (sym gave) in
    let room = roomy _ _ a.roomy in
    record { formed = a.formed; small = room.0; granted = record { allowed = a.allowed; room = room.1 } }

pub returns : goal.returns
returns g c =
    let L = limit_at_width g.D.Item.Element.WIDTH in
    let s = state_of g.D.ChunkDecoder.readings g.D.ChunkDecoder.allowance c.args.self.now c.args.output.now c.args.scratch.now in
    let terms : c.terms-terms.result ≡ terms_of L s = c.terms-terms.ensures in
    let gave = c.in_ok-receipt.ensures ∙ ap (λ t. answer t c.args.push) terms in
    let a = accepted L s c.args.push _ (sym gave) in
    let d = c.serve.new.self in
    let h = held g.D.ChunkDecoder.readings g.D.ChunkDecoder.allowance d in
    let r = c.in_ok-receipt.receipt in
    let done = served_by L s (places c.args.push) h r c.serve.ensures.store a.gives ∙ sym a.after in
    let output = c.serve.ensures.same.output in
    let scratch = c.serve.ensures.same.scratch in
    let ended = λ (out : List g.row.D-Item.Denot) (aside : List g.row.D-Item.Denot) (e : out ≡ d.output.now) (f : aside ≡ d.scratch.now). ap₂ (λ x y. more_written s (record h { output = x; scratch = y }) r.count r.fee) e f ∙ done in
    record { value = gave; after = search (rules, ended) }
