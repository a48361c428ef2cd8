use Rattle.std.proofs.Common.{◌+◌, ◌*◌, sym, ap, ◌∙◌}
use Rattle.selection.specs.Selected.{bit_of}
use Rattle.kernels.specs.Masks.{mask_bit}
use Rattle.kernels.proofs.Masked.{bits_of_window}
use Rattle.kernels.proofs.slice.MaskBits.word.Goals as goal

pub returns-in-Window : goal.returns-in-Window
returns-in-Window c j l = ap (λ v. bit_of v j) c.word.ensures ∙ bits_of_window c.in-Window.window c.args.k j l ∙ ap (λ m. mask_bit m (64 * c.args.k + j)) (sym c.in-Window.is)
