use Rattle.std.proofs.Common.{map}
use Rattle.selection.specs.Selected.{window_bit, window_positions}
use Rattle.kernels.specs.Masks.{mask_bit, count_of_words}
use Rattle.kernels.specs.declared.slice.MaskBits.TheVariants.{Window as Framed}
use Rattle.kernels.proofs.Masked.{left_of}
use Rattle.slices.proofs.Stored.{Going}
use Rattle.slices.proofs.bits.append_window.Given as goal

abbrev pub invariant-loop-k : goal.invariant-loop-k
invariant-loop-k l = Going (map (window_bit l.source) (window_positions l.window)) (map (window_bit l.source) (left_of (mask_bit (Framed l.window)) l.k (count_of_words (Framed l.window)))) l.initial.acc l.acc
