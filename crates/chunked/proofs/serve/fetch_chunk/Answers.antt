use Rattle.source.specs.Fetched.{whole_chunk}
use Rattle.chunked.proofs.Fetching.{fetched_part}
use Rattle.chunked.proofs.serve.fetch_chunk.Goals as goal

pub returns : goal.returns
returns g c =
    let source = c.args.source.now in
    let after = c.decode_chunk.new.self in
    let h = fetched_part (g.D.ChunkDecoder.readings source) (g.D.ChunkDecoder.readings after) (g.D.ChunkDecoder.allowance source) (g.D.ChunkDecoder.allowance after) c.args.output.now c.decode_chunk.new.output c.args.at c.args.chunk whole_chunk c.requires.clear c.decode_chunk.ensures.after in
    record { kept = h.kept; paid = h.paid; wrote = h.wrote }
