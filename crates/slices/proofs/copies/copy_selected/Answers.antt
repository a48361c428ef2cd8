use Rattle.std.proofs.Common.{◌^◌, ◌<◌, length, ap, arith, rules}
use Rattle.std.specs.List.{flat_map}
use Rattle.selection.specs.Selected.{positions, range}
use Rattle.kernels.specs.declared.slice.MaskBits.TheVariants.{Window}
use Rattle.kernels.specs.Masks.{selected_by}
use Rattle.slices.proofs.Admitted.{copy_passed, place_passed}
use Rattle.slices.proofs.Formed.{bitmap_mask, bitmap_picks, indices_picks, indices_rise, left_by, left_unshifted, rising_within_64, runs_follow, runs_picks}
use Rattle.slices.proofs.copies.copy_selected.Goals as goal

pub compact_bits-requires : goal.compact_bits-requires
compact_bits-requires g c =
    let s = c.args.selection in
    let n = length c.args.values.now in
    let all = copy_passed s n (length c.args.out.now) c.requires in
    let e = ap length (bitmap_picks s c.in-Bitmap.window c.in-Bitmap.is) in
    let room = all.1 in
    record { mask = bitmap_mask s c.in-Bitmap.window n c.in-Bitmap.is (place_passed s n all.0).1; room = omega arith }

pub copy_at-requires : goal.copy_at-requires
copy_at-requires g c =
    let s = c.args.selection in
    let n = length c.args.values.now in
    let xs = c.in-Indices.indices in
    let all = copy_passed s n (length c.args.out.now) c.requires in
    let formed = place_passed s n all.0 in
    let e = ap length (indices_picks s xs c.in-Indices.len c.in-Indices.is formed.0) in
    let room = all.1 in
    let fits : n < 2 ^ 64 = search rules in
    record { room = omega arith; inside = rising_within_64 n xs.now fits (indices_rise s xs c.in-Indices.len n c.in-Indices.is formed.0 formed.1) }

pub copy_runs-requires : goal.copy_runs-requires
copy_runs-requires g c =
    let s = c.args.selection in
    let n = length c.args.values.now in
    let all = copy_passed s n (length c.args.out.now) c.requires in
    let formed = place_passed s n all.0 in
    let e = ap length (runs_picks s c.in-Runs.runs c.in-Runs.len c.in-Runs.is formed.0) in
    let room = all.1 in
    record { rising = runs_follow s c.in-Runs.runs c.in-Runs.len n c.in-Runs.is formed.0 formed.1; room = omega arith }

pub returns-in-Bitmap : goal.returns-in-Bitmap
returns-in-Bitmap g c =
    let s = c.args.selection in
    let e = bitmap_picks s c.in-Bitmap.window c.in-Bitmap.is in
    left_by c.args.values.now c.args.out.now c.compact_bits.new.dst (selected_by (Window c.in-Bitmap.window)) (positions s) c.compact_bits.ensures.written e

pub returns-in-Indices : goal.returns-in-Indices
returns-in-Indices g c =
    let s = c.args.selection in
    let n = length c.args.values.now in
    let xs = c.in-Indices.indices in
    let formed = place_passed s n (copy_passed s n (length c.args.out.now) c.requires).0 in
    let e = indices_picks s xs c.in-Indices.len c.in-Indices.is formed.0 in
    left_unshifted c.args.values.now c.args.out.now c.copy_at.new.dst xs.now (positions s) c.copy_at.ensures e

pub returns-in-Runs : goal.returns-in-Runs
returns-in-Runs g c =
    let s = c.args.selection in
    let n = length c.args.values.now in
    let rs = c.in-Runs.runs in
    let formed = place_passed s n (copy_passed s n (length c.args.out.now) c.requires).0 in
    let e = runs_picks s rs c.in-Runs.len c.in-Runs.is formed.0 in
    left_by c.args.values.now c.args.out.now c.copy_runs.new.dst (flat_map range rs.now) (positions s) c.copy_runs.ensures e
