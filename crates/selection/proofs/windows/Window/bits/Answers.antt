use Rattle.std.proofs.Common.{◌≡◌, ℕ, ◌+◌, ◌-◌, ◌*◌, ◌/◌, ◌%◌, min, ap, ◌∙◌, arith}
use Rattle.selection.specs.Selected.{number_of_bits, window_bits, window_from}
use Rattle.selection.proofs.Fields.{bits_window}
use Rattle.selection.proofs.windows.Window.bits.Goals as goal

pub returns : goal.returns
unfolding window_bits
returns c =
    let w = c.args.self in
    let from = c.args.«from» in
    let shift : ℕ = w.start % 8 + from % 8 in
    let at : 8 * (w.start / 8 + from / 8 + shift / 8) + shift % 8 ≡ w.start + from = omega arith in
    let size : c.min-n.result ≡ min (min c.args.n 64) (w.len - from) = let a = c.min-n.ensures in let b = c.min.ensures in let d = c.saturating_sub.ensures in omega arith in
    c.bits_at.ensures ∙ bits_window w from _ c.min-n.result at ∙ ap (number_of_bits (window_from w from)) size
