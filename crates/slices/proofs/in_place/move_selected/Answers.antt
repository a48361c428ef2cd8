use Rattle.std.proofs.Common.{length}
use Rattle.std.specs.List.{flat_map}
use Rattle.selection.specs.Selected.{positions, range}
use Rattle.kernels.specs.declared.slice.MaskBits.TheVariants.{Window}
use Rattle.kernels.specs.Masks.{selected_by}
use Rattle.slices.proofs.Admitted.{place_passed}
use Rattle.slices.proofs.Formed.{bitmap_mask, bitmap_picks, indices_picks, indices_rise, left_by, runs_follow, runs_picks}
use Rattle.slices.proofs.in_place.move_selected.Goals as goal

pub move_by_bitmap-requires : goal.move_by_bitmap-requires
move_by_bitmap-requires g c =
    let s = c.args.selection in
    let n = length c.args.values.now in
    bitmap_mask s c.in-Bitmap.window n c.in-Bitmap.is (place_passed s n c.requires).1

pub move_at-requires : goal.move_at-requires
move_at-requires g c =
    let s = c.args.selection in
    let n = length c.args.values.now in
    let formed = place_passed s n c.requires in
    indices_rise s c.in-Indices.indices c.in-Indices.len n c.in-Indices.is formed.0 formed.1

pub move_runs-requires : goal.move_runs-requires
move_runs-requires g c =
    let s = c.args.selection in
    let n = length c.args.values.now in
    let formed = place_passed s n c.requires in
    runs_follow s c.in-Runs.runs c.in-Runs.len n c.in-Runs.is formed.0 formed.1

pub returns-in-Bitmap : goal.returns-in-Bitmap
returns-in-Bitmap g c =
    let s = c.args.selection in
    let e = bitmap_picks s c.in-Bitmap.window c.in-Bitmap.is in
    left_by c.args.values.now c.args.values.now c.move_by_bitmap.new.values (selected_by (Window c.in-Bitmap.window)) (positions s) c.move_by_bitmap.ensures e

pub returns-in-Indices : goal.returns-in-Indices
returns-in-Indices g c =
    let s = c.args.selection in
    let xs = c.in-Indices.indices in
    let formed = place_passed s (length c.args.values.now) c.requires in
    let e = indices_picks s xs c.in-Indices.len c.in-Indices.is formed.0 in
    left_by c.args.values.now c.args.values.now c.move_at.new.values xs.now (positions s) c.move_at.ensures e

pub returns-in-Runs : goal.returns-in-Runs
returns-in-Runs g c =
    let s = c.args.selection in
    let rs = c.in-Runs.runs in
    let formed = place_passed s (length c.args.values.now) c.requires in
    let e = runs_picks s rs c.in-Runs.len c.in-Runs.is formed.0 in
    left_by c.args.values.now c.args.values.now c.move_runs.new.values (flat_map range rs.now) (positions s) c.move_runs.ensures e
