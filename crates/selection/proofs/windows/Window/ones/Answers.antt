use Rattle.std.proofs.Common.{◌≡◌, ◌-◌, min, length, filter, ◌∙◌, ap₂, arith}
use Rattle.std.specs.List.{range_with_len}
use Rattle.selection.specs.Selected.{set_between, window_bit}
use Rattle.selection.proofs.windows.Window.ones.Goals as goal

pub returns : goal.returns
unfolding set_between
returns c =
    let w = c.args.self in
    let from : min 0 w.len ≡ 0 = omega arith in
    let size : min w.len w.len - min 0 w.len ≡ w.len = omega arith in
    c.ones_between.ensures ∙ ap₂ (λ x m. length (filter (window_bit w) (range_with_len x m))) from size
