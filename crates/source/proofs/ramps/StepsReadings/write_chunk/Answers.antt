use Rattle.std.proofs.Common.{◌≡◌, ℕ, ◌+◌, ◌*◌, ◌/◌, ◌%◌, ◌^◌, ◌<◌, map, sym, refl, ap, ◌∙◌, Some, length, slice_get, arith}
use Rattle.std.proofs.Math.Nat.{mod-add-mod}
use Rattle.std.proofs.lemmas.List.{take_all}
use Rattle.kernels.specs.Moved.{gather}
use Rattle.source.specs.Fetched.{place_in, ramp_at, ramped, whole_chunk}
use Rattle.source.specs.Parts.{made_length}
use Rattle.source.proofs.Fetches.{made_get, read_more, whole_get, whole_length}
use Rattle.source.proofs.ramps.StepsReadings.write_chunk.Goals as goal

-- what stands at a place of a ramp
ramp_get : (start step chunks p : ℕ) → p < 1024 * chunks → slice_get (ramped start step (1024 * chunks)) p ≡ Some (ramp_at start step p)
unfolding ramped
ramp_get start step chunks p h = made_get (ramp_at start step) (1024 * chunks) p h

pub overflow_mul-chunk : goal.overflow_mul-chunk
unfolding ramped
overflow_mul-chunk c =
    let r = c.args.self in
    let size = made_length (ramp_at r.start r.step) r.chunks in
    let there = c.requires.there in
    let few = r.few in
    omega arith

within : (start step chunks chunk : ℕ) → chunk < length (ramped start step (1024 * chunks)) / 1024 → chunk < chunks
unfolding ramped
within start step chunks chunk h = let size = made_length (ramp_at start step) chunks in omega arith

pub loop-slot-init : goal.loop-slot-init
loop-slot-init c =
    let r = c.args.self in
    let in_it = within r.start r.step r.chunks c.args.chunk c.requires.there in
    let is = ramp_get r.start r.step r.chunks (c.args.chunk * 1024) (omega arith) in
    let said = c.reading-next.ensures in
    let value : c.reading-next.result ≡ ramp_at r.start r.step (c.args.chunk * 1024) = cc in
    record { written = refl; next = value ∙ ap (ramp_at r.start r.step) (omega arith) }

pub loop-slot-preserved : goal.loop-slot-preserved
loop-slot-preserved c =
    let r = c.args.self in
    let k = c.loop-slot.slot-index in
    let inv = c.loop-slot.invariant in
    let size = whole_length in
    let taken = c.loop-slot-test.true in
    let in_it = within r.start r.step r.chunks c.args.chunk c.requires.there in
    let here = whole_get k (omega arith) in
    let is = ramp_get r.start r.step r.chunks (1024 * c.args.chunk + k) (omega arith) in
    record {
      written = read_more _ c.loop-slot.output c.args.chunk whole_chunk k (1024 * c.args.chunk + k) c.loop-slot.next (omega arith) (is ∙ ap Some (sym inv.next)) (omega arith) (omega arith) inv.written;
      next = ap (λ n. (n + r.step) % 2 ^ 64) inv.next ∙ mod-add-mod (r.start + r.step * (1024 * c.args.chunk + k)) (2 ^ 64) r.step ∙ ap (λ n. n % 2 ^ 64) (omega arith);
    }

pub returns : goal.returns
returns c =
    let k = c.loop-slot.slot-index in
    let size = whole_length in
    let end = c.loop-slot-test.false in
    let r = c.args.self in
    sym (take_all k c.loop-slot.output (omega arith)) ∙ c.loop-slot.invariant.written ∙ ap (λ is. gather (ramped r.start r.step (1024 * r.chunks)) (map (place_in c.args.chunk) is)) (take_all k whole_chunk (omega arith))
