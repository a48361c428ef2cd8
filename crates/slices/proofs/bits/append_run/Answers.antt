use Rattle.std.proofs.Common.{◌≡◌, ℕ, ◌+◌, ◌-◌, ◌*◌, ◌<◌, [], ◌++◌, map, sym, ap, subst, arith}
use Rattle.std.specs.List.{range_with_len}
use Rattle.std.proofs.lemmas.List.FromFn.{length-map-range_with_len}
use Rattle.std.proofs.lemmas.List.{length-map}
use Rattle.selection.specs.Selected.{range, window_bit}
use Rattle.slices.specs.Accumulated.{Room}
use Rattle.slices.proofs.Stored.{going_done, going_room, going_same, going_turn}
use Rattle.slices.proofs.Taken.{packed_window, run_taken}
use Rattle.slices.proofs.bits.append_run.Goals as goal

pub append-requires : goal.append-requires
append-requires c =
    let s = c.args.source in
    let r = c.args.run in
    let len : ℕ = r.«end» - r.start in
    let k = c.loop-k.k in
    let n = c.min-n.result in
    let up = c.div_ceil-k-end.ensures in
    let taken = c.loop-k-test.true in
    let within : 64 * k < len = omega arith in
    let xs = map (window_bit s) (range_with_len (r.start + 64 * k) n) in
    let rest = map (window_bit s) (range_with_len (r.start + 64 * (k + 1)) (len - 64 * (k + 1))) in
    let inv = going_same (xs ++ rest) (run_taken (window_bit s) r.start len k n within c.min-n.ensures) c.loop-k.invariant in
    let room = subst (λ m. Room c.args.acc.now m) (sym (length-map (range r) (window_bit s))) c.requires.room in
    let few = c.min-n.ensures in
    record { size = omega arith; room = subst (λ m. Room c.loop-k.acc m) (length-map-range_with_len (window_bit s) (r.start + 64 * k) n) (going_room xs rest inv room) }

pub loop-k-preserved : goal.loop-k-preserved
loop-k-preserved c =
    let s = c.args.source in
    let r = c.args.run in
    let len : ℕ = r.«end» - r.start in
    let k = c.loop-k.k in
    let n = c.min-n.result in
    let up = c.div_ceil-k-end.ensures in
    let taken = c.loop-k-test.true in
    let within : 64 * k < len = omega arith in
    let xs = map (window_bit s) (range_with_len (r.start + 64 * k) n) in
    let rest = map (window_bit s) (range_with_len (r.start + 64 * (k + 1)) (len - 64 * (k + 1))) in
    let inv = going_same (xs ++ rest) (run_taken (window_bit s) r.start len k n within c.min-n.ensures) c.loop-k.invariant in
    let few = c.min-n.ensures in
    let inside = c.requires.inside in
    let some = c.requires.some in
    going_turn xs rest c.append.new.self inv (c.append.ensures xs (length-map-range_with_len (window_bit s) (r.start + 64 * k) n) (packed_window s (r.start + 64 * k) n c.bits.result (omega arith) (omega arith) c.bits.ensures))

pub returns : goal.returns
returns c =
    let s = c.args.source in
    let r = c.args.run in
    let k = c.loop-k.k in
    let up = c.div_ceil-k-end.ensures in
    let left = c.loop-k-test.false in
    let none : r.«end» - r.start - 64 * k ≡ 0 = omega arith in
    going_done (going_same [] (ap (λ n. map (window_bit s) (range_with_len (r.start + 64 * k) n)) none) c.loop-k.invariant)
