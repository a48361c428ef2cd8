use Rattle.std.specs.List.{flat_map}
use Rattle.selection.specs.Selected.{range, window_positions}
use Rattle.slices.proofs.Formed.{indices_picks, indices_rise, rising_inside, runs_follow, runs_picks}
use Rattle.slices.proofs.Picked.{bitmap_length, bitmap_positions, picked_adds, picked_room}
use Rattle.slices.proofs.bits.append_selected.Goals as goal

pub append_window-requires : goal.append_window-requires
append_window-requires c =
    let s = c.args.selection in
    let w = c.in-Bitmap.window in
    record { same = bitmap_length s w c.in-Bitmap.is c.args.source.len c.requires.same; room = picked_room s (window_positions w) c.args.acc.now (bitmap_positions s w c.in-Bitmap.is) c.requires.room }

pub append_indices-requires : goal.append_indices-requires
append_indices-requires c =
    let s = c.args.selection in
    let xs = c.in-Indices.indices in
    let n = c.in-Indices.len in
    record { inside = rising_inside c.args.source.len xs.now (indices_rise s xs n c.args.source.len c.in-Indices.is c.requires.formed c.requires.same); room = picked_room s xs.now c.args.acc.now (indices_picks s xs n c.in-Indices.is c.requires.formed) c.requires.room }

pub append_runs-requires : goal.append_runs-requires
append_runs-requires c =
    let s = c.args.selection in
    let rs = c.in-Runs.runs in
    let n = c.in-Runs.len in
    record { rise = runs_follow s rs n c.args.source.len c.in-Runs.is c.requires.formed c.requires.same; room = picked_room s (flat_map range rs.now) c.args.acc.now (runs_picks s rs n c.in-Runs.is c.requires.formed) c.requires.room }

pub returns-in-Bitmap : goal.returns-in-Bitmap
returns-in-Bitmap c =
    let s = c.args.selection in
    let w = c.in-Bitmap.window in
    picked_adds c.args.source s (window_positions w) c.args.acc.now c.append_window.new.acc (bitmap_positions s w c.in-Bitmap.is) c.append_window.ensures

pub returns-in-Indices : goal.returns-in-Indices
returns-in-Indices c =
    let s = c.args.selection in
    let xs = c.in-Indices.indices in
    let n = c.in-Indices.len in
    picked_adds c.args.source s xs.now c.args.acc.now c.append_indices.new.acc (indices_picks s xs n c.in-Indices.is c.requires.formed) c.append_indices.ensures

pub returns-in-Runs : goal.returns-in-Runs
returns-in-Runs c =
    let s = c.args.selection in
    let rs = c.in-Runs.runs in
    let n = c.in-Runs.len in
    picked_adds c.args.source s (flat_map range rs.now) c.args.acc.now c.append_runs.new.acc (runs_picks s rs n c.in-Runs.is c.requires.formed) c.append_runs.ensures
