use Rattle.std.proofs.Common.{sym, subst}
use Rattle.kernels.specs.Moved.{limit_at_width}
use Rattle.chunked.specs.Deliveries.{Delivered, Granted}
use Rattle.chunked.proofs.Accepted.{places_in_bitmap, places_in_list, places_in_runs}
use Rattle.chunked.proofs.serve.Delivery.serve.Goals as goal

pub serve_bitmap-requires-clause-short : goal.serve_bitmap-requires-clause-short
serve_bitmap-requires-clause-short g c = (places_in_bitmap c.args.push c.requires.formed _ c.in-Bitmap.is).0

pub serve_bitmap-requires-clause-granted : goal.serve_bitmap-requires-clause-granted
serve_bitmap-requires-clause-granted g c = subst (Granted (limit_at_width g.D.Item.Element.WIDTH) g.D.ChunkDecoder.readings g.D.ChunkDecoder.allowance c.args.self.now) (places_in_bitmap c.args.push c.requires.formed _ c.in-Bitmap.is).1 c.requires.granted

pub returns-in-Bitmap : goal.returns-in-Bitmap
returns-in-Bitmap g c = subst (Delivered (limit_at_width g.D.Item.Element.WIDTH) g.D.ChunkDecoder.readings g.D.ChunkDecoder.allowance c.args.self.now c.serve_bitmap.new.self) (sym (places_in_bitmap c.args.push c.requires.formed _ c.in-Bitmap.is).1) c.serve_bitmap.ensures

pub serve_indices-requires-clause-rising : goal.serve_indices-requires-clause-rising
serve_indices-requires-clause-rising g c = (places_in_list c.args.push c.requires.formed _ _ c.in-Indices.is).0

pub serve_indices-requires-clause-granted : goal.serve_indices-requires-clause-granted
serve_indices-requires-clause-granted g c = subst (Granted (limit_at_width g.D.Item.Element.WIDTH) g.D.ChunkDecoder.readings g.D.ChunkDecoder.allowance c.args.self.now) (places_in_list c.args.push c.requires.formed _ _ c.in-Indices.is).1 c.requires.granted

pub returns-in-Indices : goal.returns-in-Indices
returns-in-Indices g c = subst (Delivered (limit_at_width g.D.Item.Element.WIDTH) g.D.ChunkDecoder.readings g.D.ChunkDecoder.allowance c.args.self.now c.serve_indices.new.self) (sym (places_in_list c.args.push c.requires.formed _ _ c.in-Indices.is).1) c.serve_indices.ensures

pub serve_runs-requires-clause-rising : goal.serve_runs-requires-clause-rising
serve_runs-requires-clause-rising g c = (places_in_runs c.args.push c.requires.formed _ _ c.in-Runs.is).0

pub serve_runs-requires-clause-granted : goal.serve_runs-requires-clause-granted
serve_runs-requires-clause-granted g c = subst (Granted (limit_at_width g.D.Item.Element.WIDTH) g.D.ChunkDecoder.readings g.D.ChunkDecoder.allowance c.args.self.now) (places_in_runs c.args.push c.requires.formed _ _ c.in-Runs.is).1 c.requires.granted

pub returns-in-Runs : goal.returns-in-Runs
returns-in-Runs g c = subst (Delivered (limit_at_width g.D.Item.Element.WIDTH) g.D.ChunkDecoder.readings g.D.ChunkDecoder.allowance c.args.self.now c.serve_runs.new.self) (sym (places_in_runs c.args.push c.requires.formed _ _ c.in-Runs.is).1) c.serve_runs.ensures
