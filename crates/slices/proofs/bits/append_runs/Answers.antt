use Rattle.std.proofs.Common.{◌+◌, ◌++◌, map, get_or, drop, sym, subst}
use Rattle.std.specs.List.{flat_map}
use Rattle.std.proofs.lemmas.List.{length-map}
use Rattle.selection.specs.Selected.{no_run, range, window_bit}
use Rattle.slices.specs.Accumulated.{Room}
use Rattle.slices.proofs.Stored.{going_room, going_same, going_turn}
use Rattle.slices.proofs.Formed.{run_at}
use Rattle.slices.proofs.Taken.{runs_taken}
use Rattle.slices.proofs.bits.append_runs.Goals as goal

pub append_run-requires : goal.append_run-requires
append_run-requires c =
    let s = c.args.source in
    let rs = c.args.runs.now in
    let k = c.loop-run.run-index in
    let r = get_or rs k no_run in
    let xs = map (window_bit s) (range r) in
    let rest = map (window_bit s) (flat_map range (drop (k + 1) rs)) in
    let inv = going_same (xs ++ rest) (runs_taken (window_bit s) rs k c.loop-run-test.true) c.loop-run.invariant in
    let at = run_at 0 s.len rs k c.requires.rise c.loop-run-test.true in
    let room = subst (λ m. Room c.args.acc.now m) (sym (length-map (flat_map range rs) (window_bit s))) c.requires.room in
    record { some = at.0; inside = at.1; room = subst (λ m. Room c.loop-run.acc m) (length-map (range r) (window_bit s)) (going_room xs rest inv room) }

pub loop-run-preserved : goal.loop-run-preserved
loop-run-preserved c =
    let s = c.args.source in
    let rs = c.args.runs.now in
    let k = c.loop-run.run-index in
    let r = get_or rs k no_run in
    let xs = map (window_bit s) (range r) in
    let rest = map (window_bit s) (flat_map range (drop (k + 1) rs)) in
    let inv = going_same (xs ++ rest) (runs_taken (window_bit s) rs k c.loop-run-test.true) c.loop-run.invariant in
    going_turn xs rest c.append_run.new.acc inv c.append_run.ensures
